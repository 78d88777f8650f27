-- What contracts see of a view, and of an iterator over values.
use Rattle.std.specs.Prelude.{ℕ, List}
use Rattle.head_view.specs.Lines.{Line, lines_at, values_of}
use Rattle.head_view.specs.declared.views.RequestView.{RequestView}
use Rattle.head_view.specs.declared.views.Fields.{Fields}

-- the field lines of a view
abbrev pub view_lines : RequestView → List Line
view_lines v = lines_at v.buf.now v.lines.now

-- the values that are left
abbrev pub fields_left : Fields → List (List ℕ)
fields_left f = values_of f.name.now (lines_at f.buf.now f.lines.now)
