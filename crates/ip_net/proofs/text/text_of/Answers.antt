use Rattle.std.proofs.Common.{ap, IfOk, subst, sym, ◌≡◌, List, ℕ}
use Rattle.std.specs.String.{string_bytes}
use Rattle.std.specs.Net.Addr.{IsIpv4OfBits, IsIpv6OfBits}
use Rattle.std.specs.Net.Text.{ipv4_text, ipv6_text}
use Rattle.ip_net.proofs.text.text_of.Goals as goal

pub returns-in-V4 : goal.returns-in-V4
unfolding IsIpv4OfBits
returns-in-V4 c =
    let P : List ℕ → Type 0 = λ o. IfOk c.v4_text.result (λ text. string_bytes text ≡ ipv4_text o) in
    rw c.in-V4.is (subst P c.from_bits.ensures c.v4_text.ensures)

pub returns-in-V6 : goal.returns-in-V6
unfolding IsIpv6OfBits
returns-in-V6 c =
    let P : List ℕ → Type 0 = λ o. IfOk c.v6_text.result (λ text. string_bytes text ≡ ipv6_text o) in
    rw c.in-V6.is (subst P c.from_bits-in-V6.ensures c.v6_text.ensures)
