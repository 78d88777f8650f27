use Rattle.std.proofs.Common.{refl, ap, ◌∙◌}
use Rattle.std.specs.Arc.{arc_value}
use Rattle.generation.specs.Meaning.{plan_of}
use Rattle.generation.specs.declared.generation.Generation.{Generation}
use Rattle.conn_machine.proofs.Opens.{opened_at, reached_open}
use Rattle.conn_machine.proofs.Turnings.{opened_pinned}
use Rattle.conn_machine.proofs.conn.Conn.begin.Goals as goal

pub returns-clause-reached : goal.returns-clause-reached
returns-clause-reached c = λ steps r. reached_open _ c.requires.waits.phase (opened_pinned (plan_of (arc_value c.args.issue)) (record {
  asked = refl;
  size = refl;
  issue = refl;
  pinned = refl;
  index = refl;
  number = c.number-self.ensures ∙ ap (λ (g : Generation). (plan_of g).number) c.deref.ensures;
  router = refl;
  status = refl;
  cause = refl;
  looks = c.clear.ensures.items;
  picks = c.clear-2.ensures.items;
  backs = c.clear-3.ensures.items;
}) c.requires.rises (opened_at c.requires.waits r))
