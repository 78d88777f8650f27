use Rattle.std.proofs.Common.{◌≡◌, inl, subst, false}
use Rattle.reference_graph.specs.Links.{links_at}
use Rattle.reference_graph.specs.Heights.{Heights, are_sound}
use Rattle.reference_graph.proofs.heights.settle_one.Goals as goal

pub returns-in-None-clause-judged : goal.returns-in-None-clause-judged
returns-in-None-clause-judged c = λ none free.
    let P : Heights → Type 0 = λ hs. are_sound hs (links_at c.args.links.now c.args.at) ≡ false in
    inl (subst P c.as_slice.ensures.value c.in-None.ensures)
