use Rattle.path_norm.proofs.Pieces.{wrote_none, wrote_more}
use Rattle.path_norm.proofs.escapes.write_segment.Goals as goal

pub loop-rest-init : goal.loop-rest-init
loop-rest-init c = wrote_none c.args.segment.now c.args.out.now.items c.requires.whole c.requires.slashless

pub loop-rest-preserved : goal.loop-rest-preserved
loop-rest-preserved c =
    let (piece, is, split, added) = c.in_ok-rest.ensures in
    wrote_more c.args.segment.now c.args.out.now.items c.loop-rest.rest.now c.loop-rest.out.items _ _ piece c.loop-rest.invariant is split added
