use Rattle.std.proofs.Common.{sym, ap, ◌∙◌, arith}
use Rattle.memory_world.specs.Books.{log_in}
use Rattle.memory_world.specs.Marks.{open_count}
use Rattle.memory_world.proofs.Kept.{none_yet, new_view}
use Rattle.memory_world.proofs.book.Book.new.Goals as goal

pub invariant_of-result : goal.invariant_of-result
invariant_of-result c =
    let empty = c.new-records.ensures.len in
    let none = ap open_count c.new-marks.ensures.items in
    (omega (arith, empty, none), (none_yet _ _ _ c.new-told.ensures c.new-records.ensures.items, λ _. c.new-records.ensures.items ∙ sym (ap log_in c.new-told.ensures)))

pub returns : goal.returns
returns c = new_view _ _ c.new-told.ensures c.new-marks.ensures.items
