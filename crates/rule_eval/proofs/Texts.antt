-- Fronts of texts, and text that is UTF-8 or not.
use Rattle.std.proofs.Common.{◌≡◌, ◌↔◌, ℕ, List, ◌++◌, take, drop, length, Bool, true, false, ◌&&◌, IsTrue, eqb, refl, ◌∙◌}
use Rattle.std.specs.Str.{IsUtf8, is_utf8}
use Rattle.std.specs.Cmp.Lexicographic.{pointwise}
use Rattle.std.proofs.lemmas.Slice.Eq.{starts_is}
use Rattle.std.proofs.lemmas.Bool.Decides.{Decides-eqb}
use Rattle.std.proofs.lemmas.Str.{IsUtf8-from_is_utf8, is_utf8-from_IsUtf8}
use Rattle.rule_eval.specs.Patterns.{finds, is_found_in}

pub prefix_is : (path front : List ℕ) (r : Bool) → r ≡ pointwise eqb front (take (length front) path) → IsTrue r ↔ ((rest : List ℕ) × (path ≡ front ++ rest))
prefix_is path front r e =
    let found = starts_is Decides-eqb path front r e in
    ((λ t. (drop (length front) path, found.0 t)), (λ h. found.1 h.0 h.1))

found_of : (b c : Bool) → b ≡ true → c ≡ (b && c)
found_of true c e = refl
found_of false c e = absurd cc

none_of : (b c : Bool) → (b ≡ true → ⊥) → false ≡ (b && c)
none_of true c e = absurd (e refl)
none_of false c e = refl

pub finds_in_text : (pattern bytes : List ℕ) (r : Bool) → IsUtf8 bytes → r ≡ is_found_in pattern bytes → r ≡ finds pattern bytes
finds_in_text pattern bytes r text e = e ∙ found_of (is_utf8 bytes) (is_found_in pattern bytes) (is_utf8-from_IsUtf8 bytes text)

pub finds_in_no_text : (pattern bytes : List ℕ) → ¬ (IsUtf8 bytes) → false ≡ finds pattern bytes
finds_in_no_text pattern bytes none = none_of (is_utf8 bytes) (is_found_in pattern bytes) (λ t. none (IsUtf8-from_is_utf8 bytes t))
