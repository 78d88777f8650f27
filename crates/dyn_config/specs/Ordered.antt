-- The entries of a table in an order of their keys.
use Rattle.std.specs.Prelude.{List}
use Rattle.std.specs.List.Sorted.{IsSortedBy}
use Rattle.std.specs.Ordering.{is_lt}
use Rattle.dyn_config.specs.Walk.{Entry}
use Rattle.dyn_config.specs.Shapes.{order_of}
use Rattle.dyn_config.specs.declared.found.Order.{Order}
use Rattle.dyn_config.specs.declared.ordered.EntryRef.{EntryRef}

abbrev pub entry_view : EntryRef → Entry
entry_view entry = (entry.key.now, entry.value.now)

-- No key is visited before the one that it stands after.
abbrev pub AreInOrder : Order → List EntryRef → Type 0
AreInOrder order entries = IsSortedBy (λ (x y : EntryRef). is_lt (order_of order x.key.now y.key.now)) entries
