use Rattle.std.proofs.Common.{sym, ap, ◌∙◌}
use Rattle.rule_lang.specs.Values.{call_tree}
use Rattle.rule_lang.specs.Builds.{trees, build_step_of}
use Rattle.rule_lang.specs.Builders.{build_of}
use Rattle.rule_lang.proofs.build.step.Goals as goal

pub returns-in-Not-clause-next : goal.returns-in-Not-clause-next
returns-in-Not-clause-next c =
    c.add_not.ensures c.args.token ∙ sym (ap (build_step_of trees (call_tree c.args.text.now) (build_of c.args.builder) c.args.token) c.in-Not.is)

pub returns-in_ok-add_or-in-Or-clause-next : goal.returns-in_ok-add_or-in-Or-clause-next
returns-in_ok-add_or-in-Or-clause-next c =
    c.in_ok-add_or-in-Or.ensures c.args.token ∙ sym (ap (build_step_of trees (call_tree c.args.text.now) (build_of c.args.builder) c.args.token) c.in-Or.is)
