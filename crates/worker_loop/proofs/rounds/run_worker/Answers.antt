use Rattle.std.proofs.Common.{ℕ, ◌≤◌, sym, ◌∙◌, refl, subst}
use Rattle.slab.specs.Slab.{slab_len}
use Rattle.conn_service.proofs.Lists.{grew_none, grew_twice}
use Rattle.worker_loop.specs.Settled.{TurnDone}
use Rattle.worker_loop.specs.Rounds.{no_deadline}
use Rattle.worker_loop.specs.declared.rounds.WorkerEnd.TheVariants.{Memory}
use Rattle.worker_loop.proofs.Stops.{stopless_none, stopless_then, stopless_wait, stopless_unasked}
use Rattle.worker_loop.proofs.Completions.{all_complete}
use Rattle.worker_loop.proofs.Losses.{lost_asked}
use Rattle.worker_loop.proofs.Servings.{runs_none, runs_attends, run_served, run_noted, run_distinct}
use Rattle.worker_loop.proofs.Accountings.{accounts_wait, accounts_failed, accounts_stop, accounts_unasked}
use Rattle.worker_loop.proofs.Comings.{step_stop, step_unasked, step_wait, step_failed, stop_rose, wait_rose, wait_stops, failed_stops, unasked_stops, stopped_after, rose_kept, fault_kept}
use Rattle.worker_loop.proofs.Meetings.{meets_none, meets_wait, meets_failed, meets_stop, meets_unasked, all_ended, all_closed, all_named}
use Rattle.worker_loop.proofs.Roundings.{worked_stopless, rounds_none, rounds_next, rounds_last, last_quit, last_stop, last_fault, fault_end, not_asked}
use Rattle.worker_loop.proofs.rounds.run_worker.Goals as goal

pub loop-init : goal.loop-init
loop-init g c = (
  tt,
  tt,
  runs_none _ _ _ c.requires,
  refl,
  λ base from a. a,
  refl,
  grew_none (g.S.Shared.desk c.args.shared.now).generations,
  meets_none (g.W.World.seen c.args.world.now) c.args.worker.now.conns c.requires,
  stopless_none (g.W.World.seen c.args.world.now),
  rounds_none (g.W.World.seen c.args.world.now),
  λ most. most,
)

pub turn-requires : goal.turn-requires
turn-requires g c = runs_attends c.loop.invariant.2

pub quit_all-requires : goal.quit_all-requires
quit_all-requires g c = (_, runs_attends (c.turn.ensures.runs _ _ c.loop.invariant.2))

pub returns-in_default-clause-served : goal.returns-in_default-clause-served
returns-in_default-clause-served g c = run_served (c.quit_all.ensures.runs _ _ _ (c.turn.ensures.runs _ _ c.loop.invariant.2))

pub returns-in_default-clause-noted : goal.returns-in_default-clause-noted
returns-in_default-clause-noted g c = run_noted (c.quit_all.ensures.runs _ _ _ (c.turn.ensures.runs _ _ c.loop.invariant.2))

pub returns-in_default-clause-rounds : goal.returns-in_default-clause-rounds
returns-in_default-clause-rounds g c =
    let a = g.W.World.seen c.loop.world in
    let d = g.W.World.seen c.quit_all.new.world in
    rounds_last Memory (g.W.World.seen c.args.world.now) a d c.loop.invariant.9 (last_quit a (g.W.World.seen c.turn.new.world) d c.turn.ensures.worked c.quit_all.ensures.worked)

pub returns-in_default-clause-until : goal.returns-in_default-clause-until
returns-in_default-clause-until g c =
    let a = g.W.World.seen c.loop.world in
    let d = g.W.World.seen c.quit_all.new.world in (
      c.loop.world,
      c.loop.shared,
      c.loop.worker.conns,
      last_quit a (g.W.World.seen c.turn.new.world) d c.turn.ensures.worked c.quit_all.ensures.worked,
      c.turn.ensures.grew,
      c.loop.invariant.2,
      c.loop.invariant.7,
      c.loop.invariant.4,
    )

pub returns-in_default-clause-settled : goal.returns-in_default-clause-settled
returns-in_default-clause-settled g c = λ why. absurd (not_asked Memory (g.W.World.seen c.args.world.now).stops (g.W.World.seen c.quit_all.new.world).stops (λ e. cc) (c.quit_all.ensures.stops ∙ c.turn.ensures.stops ∙ c.loop.invariant.3) why)

pub finish-requires : goal.finish-requires
finish-requires g c = let s = step_stop c.if-stop_asked.ensures.seen (c.turn.ensures.runs _ _ c.loop.invariant.2) in (_, _, _, s.1, s.0)

pub returns-then-stop_asked-clause-served : goal.returns-then-stop_asked-clause-served
returns-then-stop_asked-clause-served g c =
    let s = step_stop c.if-stop_asked.ensures.seen (c.turn.ensures.runs _ _ c.loop.invariant.2) in
    run_served (c.finish.ensures.runs _ _ _ s.1 s.0)

pub returns-then-stop_asked-clause-noted : goal.returns-then-stop_asked-clause-noted
returns-then-stop_asked-clause-noted g c =
    let s = step_stop c.if-stop_asked.ensures.seen (c.turn.ensures.runs _ _ c.loop.invariant.2) in
    run_noted (c.finish.ensures.runs _ _ _ s.1 s.0)

pub returns-then-stop_asked-clause-rounds : goal.returns-then-stop_asked-clause-rounds
returns-then-stop_asked-clause-rounds g c =
    let a = g.W.World.seen c.loop.world in
    let b = g.W.World.seen c.turn.new.world in
    let m = g.W.World.seen c.stop_asked.new.self in
    let d = g.W.World.seen c.finish.new.world in
    let s = step_stop c.if-stop_asked.ensures.seen (c.turn.ensures.runs _ _ c.loop.invariant.2) in
    rounds_last c.finish.result (g.W.World.seen c.args.world.now) a d c.loop.invariant.9
    (last_stop c.finish.result a b m d c.finish.ensures.same (λ is. (m, c.turn.new.self.conns, s.0, c.finish.ensures.lost (λ e. cc) is)) c.turn.ensures.worked c.if-stop_asked.ensures.seen c.finish.ensures.parted)

pub returns-then-stop_asked-clause-until : goal.returns-then-stop_asked-clause-until
returns-then-stop_asked-clause-until g c =
    let a = g.W.World.seen c.loop.world in
    let b = g.W.World.seen c.turn.new.world in
    let m = g.W.World.seen c.stop_asked.new.self in
    let d = g.W.World.seen c.finish.new.world in
    let s = step_stop c.if-stop_asked.ensures.seen (c.turn.ensures.runs _ _ c.loop.invariant.2) in (
      c.loop.world,
      c.loop.shared,
      c.loop.worker.conns,
      last_stop c.finish.result a b m d c.finish.ensures.same (λ is. (m, c.turn.new.self.conns, s.0, c.finish.ensures.lost (λ e. cc) is)) c.turn.ensures.worked c.if-stop_asked.ensures.seen c.finish.ensures.parted,
      c.turn.ensures.grew,
      c.loop.invariant.2,
      c.loop.invariant.7,
      c.loop.invariant.4,
    )

pub returns-then-stop_asked-clause-stopped : goal.returns-then-stop_asked-clause-stopped
returns-then-stop_asked-clause-stopped g c = λ is. rose_kept (g.W.World.seen c.loop.world) (g.W.World.seen c.turn.new.world) (g.W.World.seen c.stop_asked.new.self) (g.W.World.seen c.finish.new.world) (g.W.World.seen c.args.world.now).stops (sym c.loop.invariant.3) (sym c.turn.ensures.stops) (stop_rose (g.W.World.seen c.turn.new.world) (g.W.World.seen c.stop_asked.new.self) c.if-stop_asked.ensures.seen) c.finish.ensures.unasked

pub finish-requires-in-Err : goal.finish-requires-in-Err
finish-requires-in-Err g c =
    let s = step_failed no_deadline _ c.in-Err.ensures.seen (step_unasked c.if-stop_asked.ensures.seen (c.turn.ensures.runs _ _ c.loop.invariant.2)) in (_, _, _, s.1, s.0)

pub returns-in-Err-clause-served : goal.returns-in-Err-clause-served
returns-in-Err-clause-served g c =
    let s = step_failed no_deadline _ c.in-Err.ensures.seen (step_unasked c.if-stop_asked.ensures.seen (c.turn.ensures.runs _ _ c.loop.invariant.2)) in
    run_served (c.finish-in-Err.ensures.runs _ _ _ s.1 s.0)

pub returns-in-Err-clause-noted : goal.returns-in-Err-clause-noted
returns-in-Err-clause-noted g c =
    let s = step_failed no_deadline _ c.in-Err.ensures.seen (step_unasked c.if-stop_asked.ensures.seen (c.turn.ensures.runs _ _ c.loop.invariant.2)) in
    run_noted (c.finish-in-Err.ensures.runs _ _ _ s.1 s.0)

pub returns-in-Err-clause-rounds : goal.returns-in-Err-clause-rounds
returns-in-Err-clause-rounds g c =
    let a = g.W.World.seen c.loop.world in
    let b = g.W.World.seen c.turn.new.world in
    let m = g.W.World.seen c.stop_asked.new.self in
    let f = g.W.World.seen c.wait.new.self in
    let d = g.W.World.seen c.finish-in-Err.new.world in
    let s = step_failed no_deadline _ c.in-Err.ensures.seen (step_unasked c.if-stop_asked.ensures.seen (c.turn.ensures.runs _ _ c.loop.invariant.2)) in
    rounds_last c.finish-in-Err.result (g.W.World.seen c.args.world.now) a d c.loop.invariant.9
    (last_fault c.finish-in-Err.result a b m f d _ c.finish-in-Err.ensures.same (λ is. (f, c.turn.new.self.conns, s.0, c.finish-in-Err.ensures.lost (λ e. cc) is)) c.turn.ensures.worked c.if-stop_asked.ensures.seen c.in-Err.ensures.seen c.finish-in-Err.ensures.parted)

pub returns-in-Err-clause-until : goal.returns-in-Err-clause-until
returns-in-Err-clause-until g c =
    let a = g.W.World.seen c.loop.world in
    let b = g.W.World.seen c.turn.new.world in
    let m = g.W.World.seen c.stop_asked.new.self in
    let f = g.W.World.seen c.wait.new.self in
    let d = g.W.World.seen c.finish-in-Err.new.world in
    let s = step_failed no_deadline _ c.in-Err.ensures.seen (step_unasked c.if-stop_asked.ensures.seen (c.turn.ensures.runs _ _ c.loop.invariant.2)) in (
      c.loop.world,
      c.loop.shared,
      c.loop.worker.conns,
      last_fault c.finish-in-Err.result a b m f d _ c.finish-in-Err.ensures.same (λ is. (f, c.turn.new.self.conns, s.0, c.finish-in-Err.ensures.lost (λ e. cc) is)) c.turn.ensures.worked c.if-stop_asked.ensures.seen c.in-Err.ensures.seen c.finish-in-Err.ensures.parted,
      c.turn.ensures.grew,
      c.loop.invariant.2,
      c.loop.invariant.7,
      c.loop.invariant.4,
    )

pub returns-in-Err-clause-settled : goal.returns-in-Err-clause-settled
returns-in-Err-clause-settled g c = λ why. absurd (not_asked c.finish-in-Err.result (g.W.World.seen c.args.world.now).stops (g.W.World.seen c.finish-in-Err.new.world).stops (fault_end c.finish-in-Err.result c.finish-in-Err.ensures.same)
    (c.finish-in-Err.ensures.unasked.0 ∙ failed_stops (g.W.World.seen c.stop_asked.new.self) (g.W.World.seen c.wait.new.self) no_deadline _ c.in-Err.ensures.seen ∙ unasked_stops (g.W.World.seen c.turn.new.world) (g.W.World.seen c.stop_asked.new.self) c.if-stop_asked.ensures.seen ∙ c.turn.ensures.stops ∙ c.loop.invariant.3) why)

pub returns-in-Err-clause-unasked : goal.returns-in-Err-clause-unasked
returns-in-Err-clause-unasked g c = λ is.
    c.finish-in-Err.ensures.unasked.0 ∙ failed_stops (g.W.World.seen c.stop_asked.new.self) (g.W.World.seen c.wait.new.self) no_deadline _ c.in-Err.ensures.seen ∙ unasked_stops (g.W.World.seen c.turn.new.world) (g.W.World.seen c.stop_asked.new.self) c.if-stop_asked.ensures.seen ∙ c.turn.ensures.stops ∙ c.loop.invariant.3

pub returns-in-Err-clause-fault : goal.returns-in-Err-clause-fault
returns-in-Err-clause-fault g c = λ is.
    let r = step_unasked c.if-stop_asked.ensures.seen (c.turn.ensures.runs _ _ c.loop.invariant.2) in
    fault_kept (g.W.World.seen c.args.world.now) (g.W.World.seen c.stop_asked.new.self) (g.W.World.seen c.wait.new.self) (g.W.World.seen c.finish-in-Err.new.world) r.waits (wait_rose (g.W.World.seen c.stop_asked.new.self) (g.W.World.seen c.wait.new.self) no_deadline _ c.in-Err.ensures.seen) c.finish-in-Err.ensures.unasked

pub loop-preserved : goal.loop-preserved
loop-preserved g c =
    let start = g.W.World.seen c.args.world.now in
    let a = g.W.World.seen c.loop.world in
    let b = g.W.World.seen c.turn.new.world in
    let m = g.W.World.seen c.stop_asked.new.self in
    let d = g.W.World.seen c.wait.new.self in (
      tt,
      tt,
      step_wait no_deadline c.in_default-wait.ensures.seen (step_unasked c.if-stop_asked.ensures.seen (c.turn.ensures.runs _ _ c.loop.invariant.2)),
      wait_stops m d no_deadline c.in_default-wait.ensures.seen ∙ unasked_stops b m c.if-stop_asked.ensures.seen ∙ c.turn.ensures.stops ∙ c.loop.invariant.3,
      λ base from acc. accounts_wait no_deadline c.in_default-wait.ensures.seen (accounts_unasked c.if-stop_asked.ensures.seen (c.in-Ok.ensures.accounts base from (c.loop.invariant.4 base from acc))),
      c.turn.ensures.links ∙ c.loop.invariant.5,
      grew_twice _ _ _ c.loop.invariant.6 c.turn.ensures.grew,
      meets_wait no_deadline c.in_default-wait.ensures.seen (meets_unasked c.if-stop_asked.ensures.seen (c.in-Ok.ensures.met _ _ c.loop.invariant.7)),
      stopless_then start b d (stopless_then start a b c.loop.invariant.8 (worked_stopless a b c.turn.ensures.worked)) (stopless_then b m d (stopless_unasked b m c.if-stop_asked.ensures.seen) (stopless_wait m d no_deadline c.in_default-wait.ensures.seen)),
      rounds_next start a b m d c.loop.invariant.9 c.turn.ensures.worked c.if-stop_asked.ensures.seen c.in_default-wait.ensures.seen,
      λ most. c.turn.ensures.most (c.loop.invariant.10 most),
    )

pub returns-then-stop_asked-clause-accounts : goal.returns-then-stop_asked-clause-accounts
returns-then-stop_asked-clause-accounts g c = λ base from not_memory a.
    c.finish.ensures.accounts base from (g.S.Shared.desk c.turn.new.shared) not_memory (accounts_stop c.if-stop_asked.ensures.seen (c.in-Ok.ensures.accounts base from (c.loop.invariant.4 base from a)))

pub returns-in-Err-clause-accounts : goal.returns-in-Err-clause-accounts
returns-in-Err-clause-accounts g c = λ base from not_memory a.
    c.finish-in-Err.ensures.accounts base from (g.S.Shared.desk c.turn.new.shared) not_memory (accounts_failed no_deadline _ c.in-Err.ensures.seen (accounts_unasked c.if-stop_asked.ensures.seen (c.in-Ok.ensures.accounts base from (c.loop.invariant.4 base from a))))

pub returns-then-stop_asked-clause-met : goal.returns-then-stop_asked-clause-met
returns-then-stop_asked-clause-met g c = λ not_memory.
    all_ended c.finish.new.worker.conns c.finish.ensures.ended (c.finish.ensures.met _ _ not_memory (meets_stop c.if-stop_asked.ensures.seen (c.in-Ok.ensures.met _ _ c.loop.invariant.7)))

pub returns-in-Err-clause-met : goal.returns-in-Err-clause-met
returns-in-Err-clause-met g c = λ not_memory.
    all_ended c.finish-in-Err.new.worker.conns c.finish-in-Err.ensures.ended (c.finish-in-Err.ensures.met _ _ not_memory (meets_failed no_deadline _ c.in-Err.ensures.seen (meets_unasked c.if-stop_asked.ensures.seen (c.in-Ok.ensures.met _ _ c.loop.invariant.7))))

pub returns-then-stop_asked-clause-closed : goal.returns-then-stop_asked-clause-closed
returns-then-stop_asked-clause-closed g c = λ not_memory.
    all_closed c.finish.new.worker.conns c.finish.ensures.ended (c.finish.ensures.met _ _ not_memory (meets_stop c.if-stop_asked.ensures.seen (c.in-Ok.ensures.met _ _ c.loop.invariant.7)))

pub returns-in-Err-clause-closed : goal.returns-in-Err-clause-closed
returns-in-Err-clause-closed g c = λ not_memory.
    all_closed c.finish-in-Err.new.worker.conns c.finish-in-Err.ensures.ended (c.finish-in-Err.ensures.met _ _ not_memory (meets_failed no_deadline _ c.in-Err.ensures.seen (meets_unasked c.if-stop_asked.ensures.seen (c.in-Ok.ensures.met _ _ c.loop.invariant.7))))

pub returns-then-stop_asked-clause-owned : goal.returns-then-stop_asked-clause-owned
returns-then-stop_asked-clause-owned g c = λ not_memory.
    all_named c.finish.new.worker.conns c.finish.ensures.ended (c.finish.ensures.met _ _ not_memory (meets_stop c.if-stop_asked.ensures.seen (c.in-Ok.ensures.met _ _ c.loop.invariant.7)))

pub returns-in-Err-clause-owned : goal.returns-in-Err-clause-owned
returns-in-Err-clause-owned g c = λ not_memory.
    all_named c.finish-in-Err.new.worker.conns c.finish-in-Err.ensures.ended (c.finish-in-Err.ensures.met _ _ not_memory (meets_failed no_deadline _ c.in-Err.ensures.seen (meets_unasked c.if-stop_asked.ensures.seen (c.in-Ok.ensures.met _ _ c.loop.invariant.7))))

pub returns-in_default-clause-distinct : goal.returns-in_default-clause-distinct
returns-in_default-clause-distinct g c = run_distinct (c.quit_all.ensures.runs _ _ _ (c.turn.ensures.runs _ _ c.loop.invariant.2))

pub returns-then-stop_asked-clause-distinct : goal.returns-then-stop_asked-clause-distinct
returns-then-stop_asked-clause-distinct g c =
    let s = step_stop c.if-stop_asked.ensures.seen (c.turn.ensures.runs _ _ c.loop.invariant.2) in
    run_distinct (c.finish.ensures.runs _ _ _ s.1 s.0)

pub returns-in-Err-clause-distinct : goal.returns-in-Err-clause-distinct
returns-in-Err-clause-distinct g c =
    let s = step_failed no_deadline _ c.in-Err.ensures.seen (step_unasked c.if-stop_asked.ensures.seen (c.turn.ensures.runs _ _ c.loop.invariant.2)) in
    run_distinct (c.finish-in-Err.ensures.runs _ _ _ s.1 s.0)

pub returns-then-stop_asked-clause-settled : goal.returns-then-stop_asked-clause-settled
returns-then-stop_asked-clause-settled g c = λ why.
    let at = g.W.World.seen c.turn.new.world in
    let runs = c.turn.ensures.runs _ _ c.loop.invariant.2 in
    let stops = c.turn.ensures.stops ∙ c.loop.invariant.3 in
    let none = stopless_then (g.W.World.seen c.args.world.now) (g.W.World.seen c.loop.world) at c.loop.invariant.8 (worked_stopless (g.W.World.seen c.loop.world) at c.turn.ensures.worked) in
    let done = subst (λ (n : ℕ). TurnDone (g.W.World.lately c.turn.new.world) c.turn.new.self.conns n) (c.turn.ensures.links ∙ c.loop.invariant.5) c.in-Ok.ensures.done in
    let most : slab_len c.args.worker.now.conns ≤ c.args.worker.now.links → slab_len c.turn.new.self.conns ≤ c.args.worker.now.links =
    λ le. subst (λ (n : ℕ). slab_len c.turn.new.self.conns ≤ n) (c.turn.ensures.links ∙ c.loop.invariant.5) (c.turn.ensures.most (c.loop.invariant.10 le)) in
    let after = stopped_after c.args.worker.now.conns (g.W.World.seen c.args.world.now) at (g.W.World.seen c.stop_asked.new.self) (g.W.World.seen c.finish.new.world) c.turn.new.self.conns c.args.worker.now.links
    runs (c.in-Ok.ensures.met _ _ c.loop.invariant.7) none done most stops c.if-stop_asked.ensures.seen c.finish.ensures.unasked c.finish.ensures.ends c.finish.ensures.parted in
    let s = step_stop c.if-stop_asked.ensures.seen runs in (
      c.turn.new.world,
      c.turn.new.self.conns,
      after,
      all_complete c.args.worker.now.conns (g.W.World.seen c.args.world.now) at (g.W.World.seen c.finish.new.world) c.args.worker.now.links after (c.finish.ensures.runs _ _ _ s.1 s.0),
      λ is. lost_asked at (g.W.World.seen c.stop_asked.new.self) (g.W.World.seen c.finish.new.world) c.turn.new.self.conns c.if-stop_asked.ensures.seen (c.finish.ensures.lost (λ e. cc) is),
    )

pub returns-in_default-clause-grew : goal.returns-in_default-clause-grew
returns-in_default-clause-grew g c = grew_twice _ _ _ c.loop.invariant.6 c.turn.ensures.grew

pub returns-then-stop_asked-clause-grew : goal.returns-then-stop_asked-clause-grew
returns-then-stop_asked-clause-grew g c = grew_twice _ _ _ c.loop.invariant.6 c.turn.ensures.grew

pub returns-in-Err-clause-grew : goal.returns-in-Err-clause-grew
returns-in-Err-clause-grew g c = grew_twice _ _ _ c.loop.invariant.6 c.turn.ensures.grew
