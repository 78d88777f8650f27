use Rattle.std.proofs.Common.{◌≡◌, ◌≤◌, ℕ, ap, ◌∙◌, sym, subst, length, arith}
use Rattle.conn_machine.specs.declared.parts.Current.{Current}
use Rattle.conn_machine.specs.Events.{shape_of, number_after}
use Rattle.system_core.proofs.Driving.{asked_same, driven_by, after_within}
use Rattle.system_core.proofs.drive.drive.Goals as goal

pub step-requires-clause-enabled : goal.step-requires-clause-enabled
step-requires-clause-enabled c = c.reserve.ensures.enabled (shape_of c.args.event) c.requires.enabled

pub step-requires-clause-asked : goal.step-requires-clause-asked
step-requires-clause-asked c = asked_same c.args.event c.args.conn.now c.reserve.new.self c.reserve.ensures.current c.requires.asked

pub returns-clause-driven : goal.returns-clause-driven
returns-clause-driven c =
    driven_by c.args.event c.args.conn.now c.reserve.new.self c.step.new.self c.tell_notes.new.conn c.args.notes.now.items c.tell_notes.new.notes.items
    c.reserve.ensures.client c.reserve.ensures.current c.reserve.ensures.pending c.reserve.ensures.prompt c.reserve.ensures.reached
    c.step.ensures.client c.in_ok-step.ensures.prompt c.step.ensures.reached c.in_ok-tell_notes.ensures.noted c.in_ok-tell_notes.ensures.drained

pub returns-clause-number : goal.returns-clause-number
returns-clause-number c = λ n known low.
    let a : number_after c.args.event c.args.conn.now.current.number ≤ n = after_within c.args.event c.args.conn.now.current.number n known low in
    let same : c.reserve.new.self.current.number ≡ c.args.conn.now.current.number = ap (λ (m : Current). m.number) c.reserve.ensures.current in
    subst (λ (k : ℕ). k ≤ n) (sym (c.tell_notes.ensures.number ∙ c.step.ensures.number ∙ ap (number_after c.args.event) same)) a

pub returns-in_err-tell_notes-clause-number : goal.returns-in_err-tell_notes-clause-number
returns-in_err-tell_notes-clause-number c = λ n known low.
    let a : number_after c.args.event c.args.conn.now.current.number ≤ n = after_within c.args.event c.args.conn.now.current.number n known low in
    let same : c.reserve.new.self.current.number ≡ c.args.conn.now.current.number = ap (λ (m : Current). m.number) c.reserve.ensures.current in
    subst (λ (k : ℕ). k ≤ n) (sym (c.tell_notes.ensures.number ∙ c.step.ensures.number ∙ ap (number_after c.args.event) same)) a

pub returns-in_err-step-clause-number : goal.returns-in_err-step-clause-number
returns-in_err-step-clause-number c = λ n known low.
    let a : number_after c.args.event c.args.conn.now.current.number ≤ n = after_within c.args.event c.args.conn.now.current.number n known low in
    let same : c.reserve.new.self.current.number ≡ c.args.conn.now.current.number = ap (λ (m : Current). m.number) c.reserve.ensures.current in
    subst (λ (k : ℕ). k ≤ n) (sym (c.step.ensures.number ∙ ap (number_after c.args.event) same)) a

pub returns-in_err-reserve-clause-number : goal.returns-in_err-reserve-clause-number
returns-in_err-reserve-clause-number c = λ n known low.
    subst (λ (k : ℕ). k ≤ n) (sym (ap (λ (m : Current). m.number) c.reserve.ensures.current)) low
