use Rattle.std.proofs.Common.{◌≡◌, List, ◌++◌, take, map}
use Rattle.file_provider.specs.View.{view, field_view}
use Rattle.toml.proofs.Views.{Entry}
use Rattle.file_provider.proofs.Lists.{shape_at, member_shape}
use Rattle.file_provider.proofs.trees.+convert.Given as goal

abbrev pub invariant-convert_items-loop-item : goal.invariant-convert_items-loop-item
invariant-convert_items-loop-item l = map view l.trees.items ≡ map shape_at (take l.item-index l.item-items)

abbrev pub invariant-convert_members-loop-key : goal.invariant-convert_members-loop-key
invariant-convert_members-loop-key l =
    (done : List Entry) × (l.members.entries ≡ done ++ l.key-iterator) × (map field_view l.fields ≡ map member_shape done)
