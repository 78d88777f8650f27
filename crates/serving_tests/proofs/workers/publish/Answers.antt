use Rattle.std.proofs.Common.{ap}
use Rattle.std.proofs.lemmas.Result.{on_ok_weaker}
use Rattle.desk.specs.Desks.{Desk}
use Rattle.serving_tests.proofs.workers.publish.Goals as goal

pub returns : goal.returns
returns g c = on_ok_weaker c.publish.result (λ same. (_, ap (λ (d : Desk). d.generations) same)) c.publish.ensures.ok
