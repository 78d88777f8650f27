-- What a contract sees of a tree.
use Rattle.std.specs.Prelude.{ℕ, List, [], ◌∷◌, map}
use Rattle.field_tree.specs.declared.tree.Tree.{Tree, fold-Tree}
use Rattle.field_tree.specs.declared.tree.Tree.TheOpen.{Tree-F}
use Rattle.file_provider.specs.Shape.{Shape, text, num, flag, other, list, table, Shapes, no_shapes, shape, Fields, no_fields, field}

abbrev pub shapes_from : List Shape → Shapes
shapes_from [] = no_shapes
shapes_from (s ∷ ss) = shape s (shapes_from ss)

abbrev pub fields_from : List (List ℕ × Shape) → Fields
fields_from [] = no_fields
fields_from (f ∷ fs) = field f.0 f.1 (fields_from fs)

abbrev pub view_step : Tree-F Shape → Shape
view_step (Tree-F.Text v) = text v
view_step (Tree-F.Num z) = num z
view_step (Tree-F.Flag b) = flag b
view_step Tree-F.Other = other
view_step (Tree-F.List v) = list (shapes_from v)
view_step (Tree-F.Table v) = table (fields_from v)

abbrev pub view : Tree → Shape
view = fold-Tree Shape view_step

abbrev pub shapes_view : List Tree → Shapes
shapes_view ts = shapes_from (map view ts)

abbrev pub field_view : List ℕ × Tree → List ℕ × Shape
field_view f = (f.0, view f.1)

abbrev pub fields_view : List (List ℕ × Tree) → Fields
fields_view fs = fields_from (map field_view fs)
