use Rattle.std.proofs.Common.{◌≡◌, ◌++◌, ◌∷◌, [], List, ℕ, take, MatchOption}
use Rattle.head_view.specs.Lines.{values_of, lines_at}
use Rattle.http_wire.proofs.fields.last_value.Given as goal

abbrev pub invariant-loop-line : goal.invariant-loop-line
invariant-loop-line l = MatchOption l.found
    (values_of l.name (lines_at l.buf (take l.line-index l.lines)) ≡ [])
    (λ v. (front : List (List ℕ)) × (values_of l.name (lines_at l.buf (take l.line-index l.lines)) ≡ front ++ v.now ∷ []))
