use Rattle.system_core.proofs.Ends.{served_conn}
use Rattle.system_core.proofs.Saying.{ran_on}
use Rattle.system_core.proofs.Choosing.{does_at}
use Rattle.system_core.proofs.law.every_interleaving.Goals as goal

pub returns : goal.returns
returns c = λ first events s l i conn at finished.
    served_conn _ l.records.plans conn (l.shows.conns i conn at).reached finished (l.shows.pinned i)
