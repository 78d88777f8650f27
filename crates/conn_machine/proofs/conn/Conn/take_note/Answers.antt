use Rattle.std.proofs.Common.{rules, refl, ap, ◌∙◌, subst, sym}
use Rattle.conn_machine.specs.Reached.{ending_note, EndsBy}
use Rattle.conn_machine.specs.declared.parts.Current.{Current}
use Rattle.conn_machine.proofs.Tells.{first_link, first_out, some_length, no_items, reached_told, reached_open_told, reached_end_told, unended_some, unended_untold, ends_told}
use Rattle.conn_machine.proofs.conn.Conn.take_note.Goals as goal

pub returns-then-not-is_empty-clause-of_link : goal.returns-then-not-is_empty-clause-of_link
returns-then-not-is_empty-clause-of_link c = λ steps r. first_link steps c.args.self.now c.remove.result (some_length c.args.self.now.notes _ c.is_empty.ensures c.if-not-is_empty.true) c.remove.ensures.value r

pub returns-then-not-is_empty-clause-unended : goal.returns-then-not-is_empty-clause-unended
returns-then-not-is_empty-clause-unended c = unended_some c.args.self.now _ c.is_empty.ensures c.if-not-is_empty.true

pub returns-then-not-is_empty-clause-reached : goal.returns-then-not-is_empty-clause-reached
returns-then-not-is_empty-clause-reached c = λ steps r. reached_told c.remove.new.self c.remove.result (first_out c.args.self.now.notes.items c.remove.result c.remove.new.self.items (some_length c.args.self.now.notes _ c.is_empty.ensures c.if-not-is_empty.true) c.remove.ensures.value (search rules)) r

pub returns-then-self-clause-unended : goal.returns-then-self-clause-unended
returns-then-self-clause-unended c = unended_untold c.args.self.now (ap (ending_note c.args.self.now.client.link) c.in-Over.is)

pub returns-else-self-clause-unended : goal.returns-else-self-clause-unended
returns-else-self-clause-unended c = unended_untold c.args.self.now (ap (ending_note c.args.self.now.client.link) c.in-Over.is)

pub returns-then-self-clause-reached : goal.returns-then-self-clause-reached
returns-then-self-clause-reached c = λ steps r.
    reached_open_told c.take_open.new.self c.in-Over.cause c.take_open.result c.in-Over.is (c.take_open.ensures.phase ∙ c.in-Over.is)
    (no_items c.args.self.now.notes _ c.is_empty.ensures c.if-not-is_empty.false) c.if-self.true c.take_open.ensures.note
    c.take_open.ensures.client (ap (λ (m : Current). m.pinned) c.take_open.ensures.current) (ap (λ (m : Current). m.number) c.take_open.ensures.current)
    c.take_open.ensures.notes r

pub returns-else-self-clause-reached : goal.returns-else-self-clause-reached
returns-else-self-clause-reached c = λ steps r.
    reached_end_told c.in-Over.cause _ c.in-Over.is (no_items c.args.self.now.notes _ c.is_empty.ensures c.if-not-is_empty.false) c.if-self.false refl r

pub returns-then-self-clause-cause : goal.returns-then-self-clause-cause
returns-then-self-clause-cause c = λ cause e. subst (EndsBy cause) (sym c.take_open.ensures.phase) e

pub returns-else-self-clause-cause : goal.returns-else-self-clause-cause
returns-else-self-clause-cause c = λ cause e. ends_told c.args.self.now.phase c.in-Over.cause cause c.in-Over.is e

pub returns-then-not-is_empty-clause-cause : goal.returns-then-not-is_empty-clause-cause
returns-then-not-is_empty-clause-cause c = λ cause e. e

pub returns-in_default-clause-cause : goal.returns-in_default-clause-cause
returns-in_default-clause-cause c = λ cause e. e
