use Rattle.std.proofs.Common.{◌≡◌, ◌≤◌, ℕ, Some, List, sym, ap, ◌∙◌, arith, take, get_or, length}
use Rattle.std.proofs.lemmas.List.{take_more, take_all}
use Rattle.std.proofs.Math.Seq.{split_at}
use Rattle.rule_lang.specs.declared.token.Token.{Token}
use Rattle.rule_lang.specs.declared.expect.Progress.{Progress}
use Rattle.rule_lang.specs.Expects.{steps_from, at_start}
use Rattle.rule_lang.proofs.Expecting.{whole_rule, not_whole, stopped, one_more, groups_step, mark_of}
use Rattle.rule_lang.specs.declared.token.TokenKind.TheVariants as kind
use Rattle.rule_lang.proofs.expect.first_unexpected.Goals as goal

-- the steps over all tokens
all_steps : (tokens : List Token) (i : ℕ) (p : Progress) → length tokens ≤ i → steps_from (Some at_start) (take i tokens) ≡ Some p → steps_from (Some at_start) tokens ≡ Some p
all_steps tokens i p over e = ap (λ l. steps_from (Some at_start) l) (sym (take_all i tokens over)) ∙ e

pub loop-token-preserved : goal.loop-token-preserved
loop-token-preserved c =
    let step = sym c.step.ensures ∙ c.in-Some.is in
    let more = take_more c.args.tokens.now c.loop-token.token-index (mark_of kind.Or) c.loop-token-test.true in
    record {
      steps = ap (λ l. steps_from (Some at_start) l) more ∙ one_more (take c.loop-token.token-index c.args.tokens.now) _ c.loop-token.progress c.in-Some.next c.loop-token.invariant.steps step;
      groups = omega (arith, groups_step c.loop-token.progress.next c.loop-token.progress.groups _ c.in-Some.next step);
    }

pub returns-in-None : goal.returns-in-None
returns-in-None c =
    let i = c.loop-token.token-index in
    stopped c.args.tokens.now (take i c.args.tokens.now) _ (get_or c.args.tokens.now i (mark_of kind.Or)) c.loop-token.progress c.args.len
    (split_at c.args.tokens.now i (mark_of kind.Or) c.loop-token-test.true) c.loop-token.invariant.steps (sym c.step.ensures ∙ c.in-None.is)

pub returns-then-is_whole : goal.returns-then-is_whole
returns-then-is_whole c =
    whole_rule c.args.tokens.now c.loop-token.progress (all_steps c.args.tokens.now c.loop-token.token-index c.loop-token.progress c.loop-token-test.false c.loop-token.invariant.steps)
    (sym c.is_whole.ensures ∙ c.if-is_whole.true)

pub returns-else-is_whole : goal.returns-else-is_whole
returns-else-is_whole c =
    not_whole c.args.tokens.now c.loop-token.progress c.args.len (all_steps c.args.tokens.now c.loop-token.token-index c.loop-token.progress c.loop-token-test.false c.loop-token.invariant.steps)
    (sym c.is_whole.ensures ∙ c.if-is_whole.false)
