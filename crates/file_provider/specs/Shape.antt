-- What a tree stands for, and the tree of a TOML value: a text, a number, a flag, a list or a table as it stands, and a
-- float or a date as a value of another kind.
use Rattle.std.specs.Prelude.{ℕ, ℤ, Bool, List}
use Rattle.toml.specs.Data as toml

mutual
  pub data Shape : Type 0 where
    text : List ℕ → Shape
    num : ℤ → Shape
    flag : Bool → Shape
    other : Shape
    list : Shapes → Shape
    table : Fields → Shape

  pub data Shapes : Type 0 where
    no_shapes : Shapes
    shape : Shape → Shapes → Shapes

  pub data Fields : Type 0 where
    no_fields : Fields
    field : List ℕ → Shape → Fields → Fields

-- the tree of a value: a float and a date are `other`
abbrev mutual
  pub shape_of : toml.Data → Shape
  shape_of (toml.string s) = text s
  shape_of (toml.integer z) = num z
  shape_of (toml.float x) = other
  shape_of (toml.boolean b) = flag b
  shape_of (toml.datetime d) = other
  shape_of (toml.array ds) = list (shapes_of ds)
  shape_of (toml.table ms) = table (fields_of ms)

  pub shapes_of : toml.Items → Shapes
  shapes_of toml.no_items = no_shapes
  shapes_of (toml.item d ds) = shape (shape_of d) (shapes_of ds)

  pub fields_of : toml.Members → Fields
  fields_of toml.no_members = no_fields
  fields_of (toml.member k d ms) = field k (shape_of d) (fields_of ms)
