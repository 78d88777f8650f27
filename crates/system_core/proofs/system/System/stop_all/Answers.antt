use Rattle.std.proofs.Common.{◌≡◌, ◌<◌, ℕ, ◌∙◌, length, arith, subst}
use Rattle.system_core.proofs.Choosing.{stops_none, stops_more}
use Rattle.system_core.proofs.system.System.stop_all.Goals as goal

pub loop-place-init : goal.loop-place-init
loop-place-init c = record {
  count = omega (arith, c.args.self.now.clients.conns.ok);
  stopping = stops_none c.args.self.now;
  closed = λ i low. absurd (let f : ⊥ = omega (arith, low) in f);
}

pub loop-place-preserved : goal.loop-place-preserved
loop-place-preserved c = record {
  count = c.in_ok-stop_at.ensures.same ∙ c.loop-place.invariant.count;
  stopping = stops_more c.args.self.now c.loop-place.self c.stop_at.new.self c.loop-place.invariant.stopping c.in_ok-stop_at.ensures.stopping;
  closed = c.in_ok-stop_at.ensures.closed c.loop-place.invariant.closed;
}
