use Rattle.std.proofs.Common.{refl, inl, inr}
use Rattle.conn_service.proofs.Worlds.{only_none}
use Rattle.conn_service.proofs.links.release.Goals as goal

pub returns-in-Some-clause-seen : goal.returns-in-Some-clause-seen
returns-in-Some-clause-seen g c = inl (c.in-Some.ensures.0, refl)

pub returns-in-Some-clause-lately : goal.returns-in-Some-clause-lately
returns-in-Some-clause-lately g c = only_none _ _

pub returns-in-None-clause-seen : goal.returns-in-None-clause-seen
returns-in-None-clause-seen g c = inr (c.in-None.ensures, c.close.ensures.seen)

pub returns-in-Some-clause-still : goal.returns-in-Some-clause-still
returns-in-Some-clause-still g c = λ ex. refl

pub returns-in-None-clause-still : goal.returns-in-None-clause-still
returns-in-None-clause-still g c = λ ex. absurd (c.in-None.ensures ex)
