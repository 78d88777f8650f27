use Rattle.std.proofs.Common.{refl}
use Rattle.dyn_config.proofs.schema.rows_in.Goals as goal

pub returns-in-Router-clause-rows : goal.returns-in-Router-clause-rows
returns-in-Router-clause-rows c = rw c.in-Router.is refl

pub returns-in-Cookie-clause-rows : goal.returns-in-Cookie-clause-rows
returns-in-Cookie-clause-rows c = rw c.in-Cookie.is refl

pub returns-in-Balancer-clause-rows : goal.returns-in-Balancer-clause-rows
returns-in-Balancer-clause-rows c = rw c.in-Balancer.is refl
