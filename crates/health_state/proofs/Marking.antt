-- What a list of verdicts makes of the flags of the servers.
use Rattle.std.proofs.Common.{◌≡◌, ℕ, zero, suc, ◌<◌, ◌==◌, Bool, true, List, [], ◌∷◌, ◌++◌, length, if◌then◌else◌, refl, ◌∙◌, Some, set, arith}
use Rattle.std.specs.Prelude.{replicate}
use Rattle.std.specs.List.{slice_get, fold}
use Rattle.std.proofs.lemmas.List.{length-set, length-replicate}
use Rattle.std.proofs.Math.Dec.{eqb-suc-zero, eqb-zero-suc, eqb-suc-suc}
use Rattle.health_state.specs.Marks.{Mark, ups_after, last_verdict}

-- one verdict sets its server's flag
abbrev pub marked : List Bool → Mark → List Bool
marked ups mark = set ups mark.server mark.good

length-marked : (marks : List Mark) (ups : List Bool) → length (fold marked ups marks) ≡ length ups
length-marked [] ups = refl
length-marked (mark ∷ marks) ups = length-marked marks (marked ups mark) ∙ length-set ups mark.server mark.good

pub length-ups_after : (count : ℕ) (marks : List Mark) → length (ups_after count marks) ≡ count
length-ups_after count marks = length-marked marks (replicate count true) ∙ length-replicate count true

fold-push : (marks : List Mark) (ups : List Bool) (mark : Mark) → fold marked ups (marks ++ mark ∷ []) ≡ marked (fold marked ups marks) mark
fold-push [] ups mark = refl
fold-push (first ∷ marks) ups mark = fold-push marks (marked ups first) mark

pub ups_after-push : (count : ℕ) (marks : List Mark) (mark : Mark) → ups_after count (marks ++ mark ∷ []) ≡ set (ups_after count marks) mark.server mark.good
ups_after-push count marks mark = fold-push marks (replicate count true) mark

-- a server's flag after one verdict
slice_get-marked : (ups : List Bool) (server place : ℕ) (good up : Bool) → slice_get ups place ≡ Some up → slice_get (set ups server good) place ≡ Some (if server == place then good else up)
slice_get-marked [] server place good up e = cc
slice_get-marked (first ∷ rest) zero zero good up e = refl
slice_get-marked (first ∷ rest) zero (suc place) good up e = rw eqb-zero-suc e
slice_get-marked (first ∷ rest) (suc server) zero good up e = rw eqb-suc-zero e
slice_get-marked (first ∷ rest) (suc server) (suc place) good up e =
    rw eqb-suc-suc (slice_get-marked rest server place good up e)

slice_get-fold : (marks : List Mark) (ups : List Bool) (place : ℕ) (up : Bool) → slice_get ups place ≡ Some up → slice_get (fold marked ups marks) place ≡ Some (fold (λ up mark. if mark.server == place then mark.good else up) up marks)
slice_get-fold [] ups place up e = e
slice_get-fold (mark ∷ marks) ups place up e =
    slice_get-fold marks (marked ups mark) place (if mark.server == place then mark.good else up) (slice_get-marked ups mark.server place mark.good up e)

slice_get-replicate : (count place : ℕ) → place < count → slice_get (replicate count true) place ≡ Some true
slice_get-replicate zero place h = absurd (omega arith)
slice_get-replicate (suc count) zero h = refl
slice_get-replicate (suc count) (suc place) h = slice_get-replicate count place (omega arith)

pub slice_get-ups_after : (count place : ℕ) (marks : List Mark) → place < count → slice_get (ups_after count marks) place ≡ Some (last_verdict marks place)
slice_get-ups_after count place marks h = slice_get-fold marks (replicate count true) place true (slice_get-replicate count place h)
