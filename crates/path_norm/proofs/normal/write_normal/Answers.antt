use Rattle.std.proofs.Common.{map}
use Rattle.path_norm.specs.Dots.{resolved}
use Rattle.path_norm.specs.Escapes.{segment_written}
use Rattle.path_norm.proofs.Paths.{progress_none, progress_more, stack_slashless}
use Rattle.path_norm.proofs.normal.write_normal.Goals as goal

pub loop-rest-init : goal.loop-rest-init
loop-rest-init c = progress_none c.args.path.now c.args.out.now.items c.requires.rooted c.requires.whole c.requires.empty

pub loop-rest-preserved : goal.loop-rest-preserved
loop-rest-preserved c =
    let p = c.loop-rest.invariant in
    let (pieces, are, text_is, more) = c.in_ok-ends_in_dots.ensures in
    let (dots_is, new_is) = more (resolved (map segment_written p.segments)) (stack_slashless p.segments p.are) p.out_is in
    progress_more c.args.path.now c.loop-rest.rest.now c.cut_segment.result.0.now c.cut_segment.result.1.now c.loop-rest.out.items c.add_segment.new.out.items c.loop-rest.ends_in_dots c.in_ok-ends_in_dots.ends_in_dots pieces p c.cut_segment.ensures.cut c.cut_segment.ensures.begins are text_is dots_is new_is
