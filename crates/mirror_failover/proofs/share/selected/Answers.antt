use Rattle.mirror_failover.proofs.Shares.{selects-place}
use Rattle.mirror_failover.proofs.share.selected.Goals as goal

pub returns : goal.returns
returns c = rw (c.div_ceil-count.ensures, c.from-percent.ensures) (selects-place c.args.percent c.args.n c.requires.share c.requires.first)
