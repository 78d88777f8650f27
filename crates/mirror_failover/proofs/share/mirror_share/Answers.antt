use Rattle.std.proofs.Common.{refl}
use Rattle.mirror_failover.specs.Mirrors.{mirror_count}
use Rattle.mirror_failover.proofs.Shares.{mirror_count-share, mirror_count-next}
use Rattle.mirror_failover.proofs.share.mirror_share.Goals as goal

pub returns-clause-none : goal.returns-clause-none
unfolding mirror_count
returns-clause-none c percent = refl

pub returns-clause-rises : goal.returns-clause-rises
returns-clause-rises c percent n = mirror_count-next percent n

pub returns-clause-rounded_up : goal.returns-clause-rounded_up
returns-clause-rounded_up c = mirror_count-share
