-- What a tree is.
use Rattle.std.specs.Prelude.{ℕ, List, [], Option, Some, None, unwrap_or}
use Rattle.field_tree.specs.declared.tree.Tree.{Tree, out-Tree}
use Rattle.field_tree.specs.declared.tree.Tree.TheOpen.{Tree-F}

abbrev pub list_in : Tree-F Tree → Option (List Tree)
list_in (Tree-F.List values) = Some values
list_in _ = None

-- The values of a tree that is a list.
abbrev pub list_of : Tree → Option (List Tree)
list_of tree = list_in (out-Tree tree)

abbrev pub table_in : Tree-F Tree → Option (List (List ℕ × Tree))
table_in (Tree-F.Table fields) = Some fields
table_in _ = None

-- The entries of a tree that is a table.
abbrev pub table_of : Tree → Option (List (List ℕ × Tree))
table_of tree = table_in (out-Tree tree)

-- The entries of a table. Anything else has none.
abbrev pub entries_of : Tree → List (List ℕ × Tree)
entries_of tree = unwrap_or (table_of tree) []
