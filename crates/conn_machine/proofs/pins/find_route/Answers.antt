use Rattle.std.proofs.Common.{ap, sym, subst, ◌∙◌}
use Rattle.std.specs.Arc.{arc_value}
use Rattle.conversation.specs.Plans.{Target}
use Rattle.generation.specs.Meaning.{plan_of}
use Rattle.generation.specs.declared.generation.Generation.{Generation}
use Rattle.conn_machine.specs.Parts.{issue_plan, IsAim}
use Rattle.conn_machine.proofs.Finds.{found_at}
use Rattle.conn_machine.proofs.pins.find_route.Goals as goal

pub returns-in_ok-aim_at-in-Some-target : goal.returns-in_ok-aim_at-in-Some-target
returns-in_ok-aim_at-in-Some-target c = (
  c.in-Request.request,
  plan_of (arc_value c.in-Some.issue),
  c.in-Request.is,
  ap issue_plan c.in-Some.is,
  found_at c.deref.result.now (arc_value c.in-Some.issue) c.args.item.now c.args.entry.now c.args.peer c.get.result.now c.in-Request.request _ _ c.deref.ensures c.get.ensures c.in-Some-2.is c.in_ok-row-in-Some.ensures.row,
  subst (λ (t : Target). IsAim c.in_ok-aim_at-in-Some-target.field-0 t)
      (sym (ap (λ (g : Generation). (plan_of g).target c.in-Some-2.row) (sym c.deref-in-Some-2.ensures) ∙ c.in-Some-target.ensures.1)) c.in_ok-aim_at-in-Some-target.ensures,
)

pub returns-in-None-2 : goal.returns-in-None-2
returns-in-None-2 c = (
  c.in-Request.request,
  plan_of (arc_value c.in-Some.issue),
  c.in-Request.is,
  ap issue_plan c.in-Some.is,
  found_at c.deref.result.now (arc_value c.in-Some.issue) c.args.item.now c.args.entry.now c.args.peer c.get.result.now c.in-Request.request _ _ c.deref.ensures c.get.ensures c.in-None-2.is c.in_ok-row-in-Some.ensures.row,
)
