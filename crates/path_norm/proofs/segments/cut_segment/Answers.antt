use Rattle.std.proofs.Common.{subst, sym}
use Rattle.path_norm.specs.Normal.{IsSlashless}
use Rattle.path_norm.proofs.Slashes.{slashless-take}
use Rattle.path_norm.proofs.Paths.{tail_is, cut_is, back_begins, front_whole}
use Rattle.path_norm.proofs.segments.cut_segment.Goals as goal

pub returns-clause-cut : goal.returns-clause-cut
returns-clause-cut c = cut_is c.args.rest.now _ c.split_at.result.0.now c.split_at.result.1.now c.segment_len.result (tail_is c.args.rest.now c.requires.rooted) c.split_at.ensures.front c.split_at.ensures.back

pub returns-clause-slashless : goal.returns-clause-slashless
returns-clause-slashless c = subst IsSlashless (sym c.split_at.ensures.front) (slashless-take _ c.segment_len.result c.segment_len.ensures.before)

pub returns-clause-begins : goal.returns-clause-begins
returns-clause-begins c = back_begins _ c.split_at.result.1.now c.segment_len.result c.split_at.ensures.back c.segment_len.ensures.within c.segment_len.ensures.slash

pub returns-clause-whole : goal.returns-clause-whole
returns-clause-whole c =
    front_whole c.args.rest.now c.split_at.result.0.now c.split_at.result.1.now
    (cut_is c.args.rest.now _ c.split_at.result.0.now c.split_at.result.1.now c.segment_len.result (tail_is c.args.rest.now c.requires.rooted) c.split_at.ensures.front c.split_at.ensures.back)
    (back_begins _ c.split_at.result.1.now c.segment_len.result c.split_at.ensures.back c.segment_len.ensures.within c.segment_len.ensures.slash)
    c.requires.whole
