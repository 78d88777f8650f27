use Rattle.std.proofs.Common.{rules, refl, ◌∙◌}
use Rattle.back_machine.proofs.ReplyLemmas.{begun_empty}
use Rattle.back_machine.proofs.back.Back.new.Goals as goal

pub returns-clause-reached : goal.returns-clause-reached
returns-clause-reached c = record {
  method_is = c.in_ok-method.ensures ∙ c.as_slice.ensures;
  sent = (search rules);
  received = (λ h rest reads valid. begun_empty.unfinished h rest reads, refl);
  state = (record { goes_on = refl; works = refl }, record { none = refl; kept = c.new.ensures.items; begun = begun_empty });
}
