use Rattle.std.proofs.Common.{Bool, ◌+◌, subst, sym}
use Rattle.reference_graph.specs.Heights.{IsSettling}
use Rattle.reference_graph.proofs.HeightLemmas.{settling_first, settling_more}
use Rattle.reference_graph.proofs.heights.settle.Goals as goal

pub loop-at-init : goal.loop-at-init
loop-at-init c = settling_first c.args.links.now c.args.blocked.now c.args.heights.now.items c.requires.long c.requires.heights

pub loop-at-preserved : goal.loop-at-preserved
loop-at-preserved c =
    let P : Bool → Type 0 = λ found. IsSettling c.args.links.now c.args.blocked.now c.args.heights.now.items c.settle_one-here.new.heights.items (c.loop-at.at + 1) found in
    subst P (sym c.either-found.ensures)
    (settling_more c.args.links.now c.args.blocked.now c.args.heights.now.items c.loop-at.heights.items c.settle_one-here.new.heights.items c.loop-at.at c.loop-at.found c.settle_one-here.result
    c.loop-at.invariant c.settle_one-here.ensures.long c.settle_one-here.ensures.heights c.settle_one-here.ensures.fewer c.settle_one-here.ensures.same c.settle_one-here.ensures.judged)
