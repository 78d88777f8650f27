use Rattle.std.proofs.Common.{sym, ap, ap₂, ◌∙◌, arith, List, ℕ}
use Rattle.head_view.specs.Lines.{lines_at}
use Rattle.http_wire.specs.Edits.{first_in}
use Rattle.http_wire.proofs.Edited.{first_nowhere, read_first}
use Rattle.http_wire.proofs.lines.FieldLines.first.Goals as goal

pub returns-in_err-at : goal.returns-in_err-at
returns-in_err-at c =
    let place = rw (c.as_slice.ensures.value, c.as_slice-2.ensures.value) at c.in_err-at.ensures.place in
    rw c.from_residual.ensures (first_nowhere c.args.name.now _ (sym place) ∙ ap (first_in c.args.name.now) c.self.view_is)

pub returns : goal.returns
returns c =
    let place = rw (c.as_slice.ensures.value, c.as_slice-2.ensures.value) at c.in_ok-at.ensures.place in
    let within = rw c.as_slice-2.ensures.value at c.in_ok-at.ensures.within in
    let read = rw c.as_slice-3.ensures.value at c.of.ensures in
    read_first c.args.name.now c.self.inside.text.items c.self.inside.spans.items c.in_ok-at.at c.index.result.now c.of.result.now within c.index.ensures place read
    ∙ ap (first_in c.args.name.now) c.self.view_is
