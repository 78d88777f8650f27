-- Each declared router has its row.
use Rattle.std.proofs.Common.{◌≡◌, ◌∙◌, ℕ, List, [], ◌∷◌, map, refl, ap}
use Rattle.router_table.specs.Rows.{AreRows}
use Rattle.router_table.specs.Settings.{RouterEntry, Setting}
use Rattle.router_table.specs.declared.row.Row.{Row}
use Rattle.generation_text.specs.Told.{name_of_router, name_of_row}

pub rows_named : (s : Setting) (left : ℕ) (es : List RouterEntry) (rows : List Row) → AreRows s left es rows → map name_of_row rows ≡ map name_of_router es
rows_named s left [] [] are = refl
rows_named s left [] (row ∷ rows) are = absurd are
rows_named s left (e ∷ es) [] are = absurd are
rows_named s left (e ∷ es) (row ∷ rows) (is, (after, leaves, rest)) =
    ap (λ (name : List ℕ). name ∷ map name_of_row rows) is.name ∙ ap (λ (names : List (List ℕ)). e.name ∷ names) (rows_named s after es rows rest)
