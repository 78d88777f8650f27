-- Texts whose bytes need no escape, and paths that are written in two parts.
use Rattle.std.proofs.Common.{◌≡◌, ℕ, List, [], ◌∷◌, ◌++◌, Bool, true, false, refl, sym, ap, ap₂, ◌∙◌}
use Rattle.std.specs.List.{list_all}
use Rattle.std.proofs.lemmas.Bool.{and_parts, cond-true, cond-false}
use Rattle.std.proofs.lemmas.List.Concat.{flat_map-append}
use Rattle.middleware_stage.specs.Paths.{byte_text, escape_of, escaped, begins_with_slash, new_path, is_path_byte}

-- a text whose bytes all pass is written as it is
pub all_pass : (p : ℕ → Bool) (text : List ℕ) → list_all p text ≡ true → escaped p text ≡ text
all_pass p [] e = refl
all_pass p (b ∷ rest) e =
    let parts = and_parts (p b) (list_all p rest) e in
    ap₂ (λ (x y : List ℕ). x ++ y) (cond-true (p b) (b ∷ []) (escape_of b) parts.0) (all_pass p rest parts.1)

pub escaped-append : (p : ℕ → Bool) (front rest : List ℕ) → escaped p (front ++ rest) ≡ escaped p front ++ escaped p rest
escaped-append p front rest = flat_map-append (byte_text p) front rest

-- the two parts of a path that has its slash
pub with_slash : (front rest path : List ℕ) (r : Bool) → r ≡ begins_with_slash (front ++ rest) → r ≡ true
    → path ≡ escaped is_path_byte front ++ escaped is_path_byte rest → path ≡ new_path (front ++ rest)
with_slash front rest path r e t is =
    is ∙ sym (escaped-append is_path_byte front rest)
    ∙ ap (escaped is_path_byte) (sym (cond-true (begins_with_slash (front ++ rest)) (front ++ rest) (47 ∷ (front ++ rest)) (sym e ∙ t)))

-- and of one that is given one
pub without_slash : (front rest path : List ℕ) (r : Bool) → r ≡ begins_with_slash (front ++ rest) → r ≡ false
    → path ≡ 47 ∷ (escaped is_path_byte front ++ escaped is_path_byte rest) → path ≡ new_path (front ++ rest)
without_slash front rest path r e f is =
    is ∙ ap (λ (x : List ℕ). 47 ∷ x) (sym (escaped-append is_path_byte front rest))
    ∙ ap (escaped is_path_byte) (sym (cond-false (begins_with_slash (front ++ rest)) (front ++ rest) (47 ∷ (front ++ rest)) (sym e ∙ f)))
