use Rattle.std.proofs.Common.{rules, inl, inr}
use Rattle.conn_service.proofs.Wents.{went_then, not_open}
use Rattle.conn_service.proofs.Calms.{calm_closed}
use Rattle.conn_service.proofs.Leaves.{leaves_then}
use Rattle.conn_service.proofs.service.attempt.Goals as goal

pub give_up-requires : goal.give_up-requires
give_up-requires g c = c.work.ensures.went.conn.linked

pub returns-in_default-clause-went : goal.returns-in_default-clause-went
returns-in_default-clause-went g c = went_then c.work.ensures.went (c.give_up.ensures.went _)

pub returns-in_default-clause-kept : goal.returns-in_default-clause-kept
returns-in_default-clause-kept g c = inr c.give_up.ensures.over

pub returns-in_default-clause-calm : goal.returns-in_default-clause-calm
returns-in_default-clause-calm g c = calm_closed (not_open _ c.give_up.ensures.over)

pub returns-then-is_open-clause-went : goal.returns-then-is_open-clause-went
returns-then-is_open-clause-went g c = c.work.ensures.went

pub returns-then-is_open-clause-kept : goal.returns-then-is_open-clause-kept
returns-then-is_open-clause-kept g c = inl (c.is_open.ensures.0 (search rules))

pub returns-clause-went : goal.returns-clause-went
returns-clause-went g c = went_then c.work.ensures.went (c.give_up-2.ensures.went _)

pub returns-clause-kept : goal.returns-clause-kept
returns-clause-kept g c = inr c.give_up-2.ensures.over

pub returns-clause-calm : goal.returns-clause-calm
returns-clause-calm g c = calm_closed (not_open _ c.give_up-2.ensures.over)

pub returns-in_default-clause-leaves : goal.returns-in_default-clause-leaves
returns-in_default-clause-leaves g c = leaves_then c.requires.linked c.work.ensures.went (c.give_up.ensures.went (g.S.Shared.desk c.work.new.shared)) c.work.ensures.leaves c.give_up.ensures.leaves

pub returns-then-is_open-clause-leaves : goal.returns-then-is_open-clause-leaves
returns-then-is_open-clause-leaves g c = c.work.ensures.leaves

pub returns-clause-leaves : goal.returns-clause-leaves
returns-clause-leaves g c = leaves_then c.requires.linked c.work.ensures.went (c.give_up-2.ensures.went (g.S.Shared.desk c.work.new.shared)) c.work.ensures.leaves c.give_up-2.ensures.leaves
