use Rattle.std.proofs.Common.{◌≡◌, length}
use Rattle.head_view.specs.Views.{fields_left}
use Rattle.head_view.proofs.views.FieldsIterator.next.Given as goal

-- the lines that were passed over have another name
abbrev pub invariant-lines : goal.invariant-lines
invariant-lines l = fields_left l.self ≡ fields_left l.fn.self

abbrev pub decreases-lines : goal.decreases-lines
decreases-lines l = length l.self.lines.now
