use Rattle.std.proofs.Common.{ℕ, List, ap}
use Rattle.dyn_config.specs.declared.router.RouterDef.{RouterDef}
use Rattle.dyn_config.specs.Readings.{router_of}
use Rattle.dyn_config.proofs.Loops.{on_pushed}
use Rattle.dyn_config.proofs.decoding.routers_in.Goals as goal

pub loop-at-preserved : goal.loop-at-preserved
loop-at-preserved c =
    let entry = c.in_ok-entry.entry in
    on_pushed (router_of c.args.style) c.args.fields.now c.loop-at.at c.key.result.now c.value.result.now entry.1 entry.0 _ c.loop-at.defs c.push.new.self
    c.key.ensures c.value.ensures (ap (λ (e : List ℕ × RouterDef). e.1) c.in_ok-entry.ensures) (ap (λ (e : List ℕ × RouterDef). e.0) c.in_ok-entry.ensures) c.in_ok-push.ensures.ok c.loop-at.invariant
