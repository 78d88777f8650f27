use Rattle.std.proofs.Common.{rules, false, ◌≡◌}
use Rattle.conn_service.proofs.Lists.{not_false}
use Rattle.conn_service.proofs.Wents.{went_same, went_then}
use Rattle.conn_service.proofs.Leaves.{leaves_same, leaves_then}
use Rattle.conn_service.proofs.turn.work.Goals as goal

pub loop-init : goal.loop-init
loop-init g c = (tt, tt, went_same c.requires.linked, c.requires.prompt, c.requires.counted, leaves_same (g.W.World.seen c.args.world.now) c.args.conn.now)

pub returns-then-not-is_open-clause-went : goal.returns-then-not-is_open-clause-went
returns-then-not-is_open-clause-went g c = c.loop.invariant.2

pub returns-then-not-is_open-clause-calm : goal.returns-then-not-is_open-clause-calm
returns-then-not-is_open-clause-calm g c = λ opened. let no_ : c.is_open.result ≡ false = search rules in absurd (not_false (c.is_open.ensures.1 opened) no_)

pub round-requires-clause-linked : goal.round-requires-clause-linked
round-requires-clause-linked g c = c.loop.invariant.2.conn.linked

pub round-requires-clause-below : goal.round-requires-clause-below
round-requires-clause-below g c = c.loop.invariant.2.desk.below c.requires.below

pub round-requires-clause-prompt : goal.round-requires-clause-prompt
round-requires-clause-prompt g c = c.loop.invariant.3

pub round-requires-clause-counted : goal.round-requires-clause-counted
round-requires-clause-counted g c = c.loop.invariant.4

pub returns-in_err-round-clause-went : goal.returns-in_err-round-clause-went
returns-in_err-round-clause-went g c = went_then c.loop.invariant.2 c.round.ensures.went

pub returns-then-not-branch-clause-went : goal.returns-then-not-branch-clause-went
returns-then-not-branch-clause-went g c = went_then c.loop.invariant.2 c.round.ensures.went

pub loop-preserved : goal.loop-preserved
loop-preserved g c = (tt, tt, went_then c.loop.invariant.2 c.round.ensures.went, c.in_ok-round.ensures.prompt, c.in_ok-round.ensures.counted, leaves_then c.requires.linked c.loop.invariant.2 c.round.ensures.went c.loop.invariant.5 c.round.ensures.leaves)

pub returns-then-not-is_open-clause-leaves : goal.returns-then-not-is_open-clause-leaves
returns-then-not-is_open-clause-leaves g c = c.loop.invariant.5

pub returns-in_err-round-clause-leaves : goal.returns-in_err-round-clause-leaves
returns-in_err-round-clause-leaves g c = leaves_then c.requires.linked c.loop.invariant.2 c.round.ensures.went c.loop.invariant.5 c.round.ensures.leaves

pub returns-then-not-branch-clause-leaves : goal.returns-then-not-branch-clause-leaves
returns-then-not-branch-clause-leaves g c = leaves_then c.requires.linked c.loop.invariant.2 c.round.ensures.went c.loop.invariant.5 c.round.ensures.leaves
