use Rattle.std.proofs.Common.{◌≡◌, ◌+◌, sym, subst, ap, ◌∙◌, take, get_or}
use Rattle.std.proofs.lemmas.List.{take_more, take_all}
use Rattle.rule_lang.specs.declared.token.TokenKind.TheVariants as kind
use Rattle.rule_lang.specs.Depths.{depth_steps, depth_start, Depths}
use Rattle.rule_lang.specs.Gauges.{depths_of}
use Rattle.rule_lang.proofs.Expecting.{mark_of}
use Rattle.rule_lang.proofs.Deepening.{Within, step_within, one_more, whole_depth}
use Rattle.rule_lang.proofs.depth.deepest.Goals as goal

pub loop-token-preserved : goal.loop-token-preserved
loop-token-preserved c =
    let i = c.loop-token.token-index in
    let t = get_or c.args.tokens.now i (mark_of kind.Or) in
    let step : depths_of c.measure.new.gauge ≡ Rattle.rule_lang.specs.Depths.depth_step (depths_of c.loop-token.gauge) t.kind = c.in_ok-measure.ensures in
    record {
      steps = ap (λ l. depth_steps depth_start l) (take_more c.args.tokens.now i (mark_of kind.Or) c.loop-token-test.true)
          ∙ one_more (take i c.args.tokens.now) t (depths_of c.loop-token.gauge) (depths_of c.measure.new.gauge) c.loop-token.invariant.steps step;
      within = subst (Within (i + 1)) (sym step) (step_within i t.kind (depths_of c.loop-token.gauge) c.loop-token.invariant.within);
    }

pub returns : goal.returns
returns c = λ f rule.
    let all = ap (λ l. depth_steps depth_start l) (sym (take_all c.loop-token.token-index c.args.tokens.now c.loop-token-test.false)) ∙ c.loop-token.invariant.steps in
    sym (ap (λ d. d.deepest) all) ∙ whole_depth c.args.tokens.now f rule
