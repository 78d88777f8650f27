use Rattle.std.proofs.Common.{◌∙◌, sym, ap}
use Rattle.reference_graph.specs.Numbering.{first_without, has_number}
use Rattle.reference_graph.proofs.NumberLemmas.{goes_on_more, goes_lower, goes_no_more}
use Rattle.reference_graph.proofs.numbering.next_below.Goals as goal

pub loop-next-smaller : goal.loop-next-smaller
loop-next-smaller c =
    goes_lower c.args.links.now c.args.heights.now c.args.numbers.now c.args.first c.loop-next.at c.in-Some.next c.requires.layered c.loop-next.invariant
    (sym (ap (first_without (has_number c.args.numbers.now)) c.places_at.ensures) ∙ sym c.in-Some.ensures)

pub loop-next-preserved : goal.loop-next-preserved
loop-next-preserved c =
    goes_on_more c.args.links.now c.args.heights.now c.args.numbers.now c.args.first c.loop-next.at c.in-Some.next c.requires.within c.requires.layered c.loop-next.invariant
    (sym (ap (first_without (has_number c.args.numbers.now)) c.places_at.ensures) ∙ sym c.in-Some.ensures)

pub returns-clause-down : goal.returns-clause-down
returns-clause-down c =
    goes_no_more c.args.links.now c.args.heights.now c.args.numbers.now c.args.first c.loop-next.at c.loop-next.invariant
    (sym (ap (first_without (has_number c.args.numbers.now)) c.places_at.ensures) ∙ sym c.in_default.ensures)
