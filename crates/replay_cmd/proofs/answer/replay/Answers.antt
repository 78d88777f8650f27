use Rattle.std.proofs.Common.{◌≡◌, ℕ, List, [], refl, sym, subst, ap, ◌∙◌, length}
use Rattle.replay_cmd.specs.Replays.{Replays, begun, next, told, refused, number_of}
use Rattle.replay_cmd.specs.Refusals.{refusal_text}
use Rattle.replay_cmd.proofs.answer.replay.Goals as goal

pub loop-rest-init : goal.loop-rest-init
loop-rest-init g c = record { start = c.in_ok-run.ensures; told = begun }

pub loop-rest-preserved : goal.loop-rest-preserved
loop-rest-preserved g c = record {
  start = c.loop-rest.invariant.start;
  told = next c.loop-rest.run c.loop-rest.rest.now _ c.tell.new.self c.in-Ok.more.now _ c.loop-rest.invariant.told c.in-Ok.ensures.step;
}

pub returns-in-Err-Refused-clause-told : goal.returns-in-Err-Refused-clause-told
returns-in-Err-Refused-clause-told g c =
    refused _ c.loop-rest.run c.loop-rest.rest.now _ c.in-Err-Refused.why c.loop-rest.invariant.start c.loop-rest.invariant.told c.tell.ensures.later
    (rw c.in-Err-Refused.field-0-is at c.in-Err-Refused.ensures.step) refl
    (c.in_ok-text-in-Err-Refused.ensures ∙ ap (λ (n : ℕ). refusal_text n c.in-Err-Refused.why) c.line_number.ensures)

pub returns-clause-told : goal.returns-clause-told
returns-clause-told g c = told _ c.loop-rest.run c.loop-rest.invariant.start (subst (λ (t : List ℕ). Replays c.in_ok-run.run' c.args.script.now (g.S.PatternShop.refusals c.args.shop.now) c.loop-rest.run t (g.S.PatternShop.refusals c.loop-rest.shop)) (c.loop-rest-test.ensures.0 refl) c.loop-rest.invariant.told) refl c.in_ok-text.ensures
