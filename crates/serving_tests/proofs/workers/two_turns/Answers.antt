use Rattle.desk.specs.Kept.{desk_of}
use Rattle.worker_loop.proofs.Servings.{runs_none, runs_attends, attends_grew}
use Rattle.worker_loop.proofs.Comings.{step_wait}
use Rattle.serving_tests.proofs.workers.two_turns.Goals as goal

pub turn-requires : goal.turn-requires
turn-requires g c = runs_attends (step_wait 0 c.in-Ok.ensures.seen (runs_none _ _ _ c.requires))

pub turn-requires-2 : goal.turn-requires-2
turn-requires-2 g c =
    let first = runs_attends (step_wait 0 c.in-Ok.ensures.seen (runs_none _ _ _ c.requires)) in
    let second = runs_attends (c.turn.ensures.runs _ _ (runs_none _ _ _ first)) in
    let third = attends_grew _ (desk_of c.turn.new.shared).generations (desk_of c.publish.new.shared).generations _ c.in_ok-publish.ensures second in
    runs_attends (step_wait 0 c.in-Ok-wait.ensures.seen (runs_none _ _ _ third))
