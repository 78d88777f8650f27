-- Texts that are compared part by part.
use Rattle.std.proofs.Common.{◌≡◌, ◌≢◌, ◌↔◌, ◌∙◌, ℕ, List, ◌++◌, Bool, false, IsTrue, Option, Some, None, codes, sym, ap, append_assoc}
use Rattle.std.proofs.lemmas.Bool.{false≢true}
use Rattle.std.proofs.lemmas.List.{append-nil, append_cancel_left}
use Rattle.http_wire.specs.Spelling.{target_text}
use Rattle.middleware_stage.specs.Redirects.{query_text}

-- a text that doesn't begin so isn't this one
pub no_front : (text a b : List ℕ) → ((rest : List ℕ) → text ≢ a ++ rest) → IsTrue false ↔ (text ≡ a ++ b)
no_front text a b none = ((λ t. absurd (false≢true t)), (λ e. absurd (none b e)))

-- what is left is compared with what is left
pub cut_front : (text a rest b : List ℕ) (r : Bool) → text ≡ a ++ rest → (IsTrue r ↔ (rest ≡ b)) → IsTrue r ↔ (text ≡ a ++ b)
cut_front text a rest b r is h =
    ((λ t. is ∙ ap (λ (x : List ℕ). a ++ x) (h.0 t)), (λ e. h.1 (append_cancel_left a rest b (sym is ∙ e))))

pub same_text : (text x y : List ℕ) (r : Bool) → (IsTrue r ↔ (text ≡ x)) → x ≡ y → IsTrue r ↔ (text ≡ y)
same_text text x y r h e = ((λ t. h.0 t ∙ e), (λ s. h.1 (s ∙ sym e)))

pub target_is : (path : List ℕ) (query : Option (List ℕ)) → path ++ query_text query ≡ target_text path query
target_is path None = append-nil path
target_is path (Some query) = sym (append_assoc path (codes "?") query)
