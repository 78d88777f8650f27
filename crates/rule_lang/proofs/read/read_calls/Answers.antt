use Rattle.std.proofs.Common.{sym, subst}
use Rattle.rule_lang.specs.Reading.{Means}
use Rattle.rule_lang.specs.Grammar.{IsRuleText}
use Rattle.rule_lang.proofs.Texts.{tokens_stand, whole_reads, right_means}
use Rattle.rule_lang.proofs.read.read_calls.Goals as goal

pub build-requires-clause-stand : goal.build-requires-clause-stand
build-requires-clause-stand c = tokens_stand c.args.text.now c.args.tokens.now c.requires.tokens

pub returns-in-Ok-clause-rule : goal.returns-in-Ok-clause-rule
returns-in-Ok-clause-rule c =
    let (f, rule, shallow) = c.requires.rule in
    record {
      form = f;
      short = c.requires.short;
      has_form = (c.args.tokens.now, c.requires.tokens, rule);
      shallow = shallow;
      means = subst (Means c.args.text.now f) (sym (c.in-Ok.ensures.tree f rule)) (right_means c.args.text.now f (c.in-Ok.ensures.right f rule));
      is_text = subst (IsRuleText c.args.text.now) (sym (c.in-Ok.ensures.tree f rule)) (whole_reads c.args.text.now c.args.tokens.now f c.requires.tokens rule (c.in-Ok.ensures.right f rule));
    }
