use Rattle.std.proofs.Common.{arith, None}
use Rattle.reference_graph.proofs.SearchLemmas.{among_at}
use Rattle.reference_graph.proofs.reaching.mark_all.Goals as goal

pub mark-requires : goal.mark-requires
mark-requires c =
    let l = c.requires c.in-Some.at (among_at c.args.places.now c.loop-place.place-index c.in-Some.at None c.loop-place-test.true c.in-Some.is) in
    let e = c.loop-place.invariant.long in
    omega (arith, l, e)
