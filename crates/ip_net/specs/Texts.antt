-- Which texts write an address or a network, and how an address is printed. The grammar of an
-- address is std's: `IsIpText` has dotted decimals without leading zeros, and the three forms of
-- RFC 4291 section 2.2; `ip_text` is RFC 5952 section 4.
use Rattle.std.specs.Prelude.{◌≡◌, ℕ, ◌+◌, ◌/◌, ◌^◌, ◌<◌, ◌≤◌, ◌≢◌, ◌⊎◌, Bool, if◌then◌else◌, List, [], ◌∷◌, ◌++◌, take, drop, bytes_eq}
use Rattle.std.specs.Int.{w32, w128, from_be_bytes, to_be_bytes}
use Rattle.std.specs.Net.Addr.{ipv4_octets, ipv6_segments, octets_of, segments_of}
use Rattle.std.specs.Net.Grammar.{IsIpText, IsNumber}
use Rattle.std.specs.Net.Text.{ipv4_text, ipv6_text}
use Rattle.std.specs.declared.net.ip_addr.IpAddr.{IpAddr}
use Rattle.std.specs.declared.net.ip_addr.IpAddr.TheVariants as Written
use Rattle.ip_net.specs.declared.ip.Ip.{Ip}
use Rattle.ip_net.specs.declared.ip.Ip.TheVariants.{V4, V6}

-- the segments are those of an IPv4-mapped address
abbrev pub is_mapped : List ℕ → Bool
is_mapped segments = bytes_eq (take 6 segments) (0 ∷ 0 ∷ 0 ∷ 0 ∷ 0 ∷ 0xffff ∷ [])

-- the address that a written one is: a mapped one is the IPv4 address in its last 32 bits
abbrev pub address_of : IpAddr → Ip
address_of (Written.V4 a) = V4 (from_be_bytes w32 (ipv4_octets a))
address_of (Written.V6 a) =
    if is_mapped (ipv6_segments a)
    then V4 (from_be_bytes w32 (octets_of (drop 6 (ipv6_segments a))))
    else V6 (from_be_bytes w128 (octets_of (ipv6_segments a)))

-- the text writes this address
abbrev pub Writes : List ℕ → Ip → Type 0
Writes text ip = (written : IpAddr) × IsIpText text written × (address_of written ≡ ip)

-- how many bits an address has in the form in which it is written
abbrev pub written_width : IpAddr → ℕ
written_width (Written.V4 _) = 32
written_width (Written.V6 _) = 128

-- how many of them stand before an IPv4 address that is written as a mapped one
abbrev pub mapped_bits : IpAddr → ℕ
mapped_bits (Written.V4 _) = 0
mapped_bits (Written.V6 a) = if is_mapped (ipv6_segments a) then 96 else 0

-- `/`
abbrev pub slash : ℕ
slash = 47

-- an address alone stands for all of its bits; else a slash and a decimal follow it
abbrev pub WritesPrefix : List ℕ → List ℕ → ℕ → ℕ → Type 0
WritesPrefix text address_text all prefix =
    ((text ≡ address_text) × (prefix ≡ all))
    ⊎ ((digits : List ℕ) × (text ≡ address_text ++ slash ∷ digits) × IsNumber 10 digits prefix)

-- the network of the first bits of an address, counted as the address is written
pub record FirstBits (written : IpAddr) (prefix : ℕ) (ip : Ip) (bits : ℕ) : Type 0 where
  pub within : prefix ≤ written_width written
  pub ip_is : address_of written ≡ ip
  pub bits_are : bits + mapped_bits written ≡ prefix

-- the text writes the network of this address and so many bits
pub record WritesNet (text : List ℕ) (ip : Ip) (bits : ℕ) : Type 0 where
  pub address_text : List ℕ
  pub written : IpAddr
  pub prefix : ℕ
  pub is_address : IsIpText address_text written
  pub spelled : WritesPrefix text address_text (written_width written) prefix
  pub first : FirstBits written prefix ip bits

-- what `print_ip` writes
abbrev pub ip_print : Ip → List ℕ
ip_print (V4 n) = ipv4_text (to_be_bytes w32 n)
ip_print (V6 n) = ipv6_text (segments_of (to_be_bytes w128 n))

-- the address is none of `V6` that is mapped: its first 96 bits are not ::ffff:0:0/96
abbrev pub IsUnmapped : Ip → Type 0
IsUnmapped (V4 _) = Unit {0}
IsUnmapped (V6 n) = n / 2 ^ 32 ≢ 0xffff

-- a number of the family's bits
abbrev pub Fits : Ip → Type 0
Fits (V4 n) = n < 2 ^ 32
Fits (V6 n) = n < 2 ^ 128
