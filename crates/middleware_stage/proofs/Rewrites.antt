-- A text whose matches are replaced, where it has any.
use Rattle.std.proofs.Common.{◌≡◌, ◌∙◌, ℕ, List, Bool, true, false, Option, Some, None, sym}
use Rattle.std.specs.Str.{IsUtf8}
use Rattle.std.proofs.lemmas.Bool.{cond-true, cond-false}
use Rattle.rule_eval.proofs.Texts.{finds_in_text, finds_in_no_text}
use Rattle.rule_eval.specs.Patterns.{finds, is_found_in, replaced_in}
use Rattle.middleware_stage.specs.Redirects.{rewritten}

-- the bytes are no text
pub no_text : (regex replacement text : List ℕ) → ¬ (IsUtf8 text) → ◌≡◌ {A = Option (List ℕ)} None (rewritten regex replacement text)
no_text regex replacement text none =
    sym (cond-false (finds regex text) (replaced_in regex replacement text) None (sym (finds_in_no_text regex text none)))

-- the pattern isn't found
pub not_found : (regex replacement text : List ℕ) (found : Bool) → IsUtf8 text → found ≡ is_found_in regex text → found ≡ false
    → ◌≡◌ {A = Option (List ℕ)} None (rewritten regex replacement text)
not_found regex replacement text found is_text e f =
    sym (cond-false (finds regex text) (replaced_in regex replacement text) None (sym (finds_in_text regex text found is_text e) ∙ f))

-- it is found, and its matches are replaced
pub found_there : (regex replacement text out : List ℕ) (found : Bool) → IsUtf8 text → found ≡ is_found_in regex text → found ≡ true
    → Some out ≡ replaced_in regex replacement text → Some out ≡ rewritten regex replacement text
found_there regex replacement text out found is_text e t is =
    is ∙ sym (cond-true (finds regex text) (replaced_in regex replacement text) None (sym (finds_in_text regex text found is_text e) ∙ t))
