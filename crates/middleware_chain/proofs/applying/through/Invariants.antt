use Rattle.std.proofs.Common.{drop}
use Rattle.middleware_chain.specs.Folds.{Through, ThroughFrom}
use Rattle.middleware_chain.specs.Stages.{defs_at}
use Rattle.middleware_chain.specs.declared.flow.Flow.{Flow}
use Rattle.middleware_chain.proofs.applying.through.Given as goal

abbrev pub invariant-loop-at : goal.invariant-loop-at
invariant-loop-at l =
    (flow : Flow) → ThroughFrom l.at l.limit (drop l.at (defs_at l.parts l.places)) l.request l.peer flow → Through (defs_at l.parts l.places) l.initial.request l.peer flow
