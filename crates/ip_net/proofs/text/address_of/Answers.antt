use Rattle.std.proofs.Common.{ap, ◌∙◌, refl, subst}
use Rattle.std.proofs.lemmas.Bool.{false≢true}
use Rattle.std.specs.Int.{w32, w128, from_be_bytes}
use Rattle.std.specs.Net.Addr.{ipv4_bits, octets_of, IsIpv4Mapped}
use Rattle.ip_net.specs.declared.ip.Ip.TheVariants.{V4, V6}
use Rattle.ip_net.proofs.Numbers.{is_mapped-true, is_mapped-false}
use Rattle.ip_net.proofs.text.address_of.Goals as goal

pub returns-in-V4-clause-value : goal.returns-in-V4-clause-value
unfolding ipv4_bits
returns-in-V4-clause-value c = rw c.in-V4.is (ap V4 c.to_bits.ensures)

pub returns-in-Some-clause-value : goal.returns-in-Some-clause-value
unfolding ipv4_bits
returns-in-Some-clause-value c =
    let mapped = is_mapped-true c.in-V6.address.segments (c.in-Some.ensures.found.0 refl) in
    rw (c.in-V6.is, mapped) (ap V4 (c.to_bits-in-Some.ensures ∙ ap (from_be_bytes w32) c.in-Some.ensures.value))

pub returns-in-None-clause-value : goal.returns-in-None-clause-value
returns-in-None-clause-value c =
    let plain = is_mapped-false c.in-V6.address.segments (λ h. false≢true (c.in-None.ensures.found.1 h)) in
    rw (c.in-V6.is, plain) (ap V6 (c.bits_of.ensures.value ∙ ap (λ s. from_be_bytes w128 (octets_of s)) c.segments.ensures))

pub returns-in-None-clause-unmapped : goal.returns-in-None-clause-unmapped
returns-in-None-clause-unmapped c =
    c.bits_of.ensures.unmapped (λ h. false≢true (c.in-None.ensures.found.1 (subst IsIpv4Mapped c.segments.ensures h)))
