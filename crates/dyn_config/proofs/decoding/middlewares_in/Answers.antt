use Rattle.std.proofs.Common.{ℕ, List, ap}
use Rattle.dyn_config.specs.declared.middleware.MiddlewareDef.{MiddlewareDef}
use Rattle.dyn_config.specs.Readings.{middleware_of}
use Rattle.dyn_config.proofs.Loops.{on_pushed}
use Rattle.dyn_config.proofs.decoding.middlewares_in.Goals as goal

pub loop-at-preserved : goal.loop-at-preserved
loop-at-preserved c =
    let entry = c.in_ok-entry.entry in
    on_pushed (middleware_of c.args.style) c.args.fields.now c.loop-at.at c.key.result.now c.value.result.now entry.1 entry.0 _ c.loop-at.defs c.push.new.self
    c.key.ensures c.value.ensures (ap (λ (e : List ℕ × MiddlewareDef). e.1) c.in_ok-entry.ensures) (ap (λ (e : List ℕ × MiddlewareDef). e.0) c.in_ok-entry.ensures) c.in_ok-push.ensures.ok c.loop-at.invariant
