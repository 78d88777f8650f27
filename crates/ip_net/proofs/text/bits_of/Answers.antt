use Rattle.std.proofs.Common.{ap, ◌∙◌}
use Rattle.std.specs.Int.{w128, from_be_bytes}
use Rattle.std.specs.Net.Addr.{ipv6_bits, octets_of}
use Rattle.ip_net.proofs.Numbers.{unmapped}
use Rattle.ip_net.proofs.text.bits_of.Goals as goal

pub returns-clause-value : goal.returns-clause-value
unfolding ipv6_bits
returns-clause-value c = c.to_bits.ensures ∙ ap (λ s. from_be_bytes w128 (octets_of s)) c.from_segments.ensures

pub returns-clause-unmapped : goal.returns-clause-unmapped
unfolding ipv6_bits
returns-clause-unmapped c =
    unmapped c.args.segments.now c.to_bits.result c.told-segments c.fits-segments
    (c.to_bits.ensures ∙ ap (λ s. from_be_bytes w128 (octets_of s)) c.from_segments.ensures)
