use Rattle.std.proofs.Common.{refl, ap, ◌∙◌, ◌++◌, ℕ, List}
use Rattle.std.specs.Prelude.{is_some}
use Rattle.conn_machine.proofs.Opens.{opened_at, reached_open, reached_broken}
use Rattle.conn_machine.proofs.Walkings.{opened_no_child}
use Rattle.conn_machine.proofs.conn.Conn.answer_down.Goals as goal

pub returns-clause-reached : goal.returns-clause-reached
returns-clause-reached c = λ steps r.
    reached_open _ refl (opened_no_child c.is_some-close.result c.in_ok-own_text.ensures.text.0
    (record { asked = refl; size = refl; issue = refl; pinned = refl; index = refl; number = refl }) refl refl refl
    (c.in_ok-own_text.ensures.text.2 ∙ ap (λ (l : List ℕ). l ++ c.in_ok-own_text.ensures.text.0) c.clear.ensures.items)
    (c.is_some-close.ensures ∙ ap is_some c.end_after.ensures.end) c.in_ok-own_text.ensures.text.1
    (opened_at c.requires r))

pub returns-in_err-own_text-clause-reached : goal.returns-in_err-own_text-clause-reached
returns-in_err-own_text-clause-reached c = λ steps r. reached_broken _ refl (opened_at c.requires r)
