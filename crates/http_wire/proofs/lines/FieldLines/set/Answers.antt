use Rattle.std.proofs.Common.{◌≡◌, ◌∙◌, ◌++◌, ◌∷◌, [], ap, ap₂, sym, arith, List, ℕ}
use Rattle.head_view.specs.Lines.{lines_at}
use Rattle.http_wire.specs.Edits.{set_in}
use Rattle.http_wire.proofs.Edited.{set_behind, set_whole, on_ok, fields_below}
use Rattle.http_wire.proofs.lines.FieldLines.set.Goals as goal

pub returns-in-None-clause-ok : goal.returns-in-None-clause-ok
returns-in-None-clause-ok c =
    let place = rw (c.as_slice.ensures.value, c.as_slice-2.ensures.value) at c.in-None.ensures.place in
    let none = rw c.self.view_is at place in
    on_ok c.push.result (λ pushed. pushed ∙ set_behind c.args.name.now c.args.value.now c.args.self.now (sym none)) c.push.ensures.ok

pub returns-in_ok-push-in-Some-clause-ok : goal.returns-in_ok-push-in-Some-clause-ok
returns-in_ok-push-in-Some-clause-ok c =
    let place = rw (c.as_slice.ensures.value, c.as_slice-2.ensures.value) at c.in-Some.ensures.place in
    let first = rw c.self.view_is at place in
    let pushed = c.self-in-Some.view_is ∙ c.in_ok-push-in-Some.ensures.ok in
    let within = fields_below c.self.inside.text.items c.self.inside.spans.items c.args.self.now c.in-Some.at (sym c.self.view_is) (rw c.as_slice-2.ensures.value at c.in-Some.ensures.within) in
    c.take_named.ensures.lines
    ∙ set_whole c.args.name.now c.args.value.now c.args.self.now (lines_at c.self-in-Some.inside.text.items c.self-in-Some.inside.spans.items) (lines_at c.move_last.new.text.items c.move_last.new.spans.items)
    c.in-Some.at first within pushed c.move_last.ensures.lines
