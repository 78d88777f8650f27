use Rattle.std.proofs.Common.{arith, refl}
use Rattle.reference_graph.proofs.HeightLemmas.{heights_more}
use Rattle.reference_graph.proofs.heights.settle_above.Goals as goal

pub returns-clause-heights : goal.returns-clause-heights
returns-clause-heights c =
    heights_more c.args.links.now c.args.blocked.now c.args.heights.now.items c.args.at c.args.below _ (omega (arith, c.requires.long, c.requires.inside)) c.requires.heights c.requires.fresh
    c.requires.free c.requires.below c.if-below-ge-MAX_DEPTH.false c.if-below-ge-MAX_SIZE.false refl refl
