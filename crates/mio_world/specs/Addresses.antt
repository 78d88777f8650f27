-- The addresses of sockets.
use Rattle.std.specs.Prelude.{◌≡◌}
use Rattle.std.specs.declared.net.ip_addr.IpAddr.{IpAddr}
use Rattle.std.specs.declared.net.ip_addr.IpAddr.TheVariants as std
use Rattle.std.specs.Net.Addr.{ipv4_bits, ipv6_bits, MatchIp, IsCanonicalOf}
use Rattle.ip_net.specs.declared.ip.Ip.{Ip}
use Rattle.ip_net.specs.declared.ip.Ip.TheVariants as ip

-- the same address
abbrev pub IsSame : IpAddr → Ip → Type 0
IsSame (std.V4 a) own = own ≡ ip.V4 (ipv4_bits a)
IsSame (std.V6 a) own = own ≡ ip.V6 (ipv6_bits a)

-- the address of a peer: a mapped address is the IPv4 address in it
pub record IsPeer (from : IpAddr) (own : Ip) : Type 0 where
  pub canonical : IpAddr
  pub is_canonical : MatchIp from (λ _. canonical ≡ from) (λ a. IsCanonicalOf a canonical)
  pub same : IsSame canonical own
