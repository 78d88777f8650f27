-- One element of a list, by a test and by what the test says.
use Rattle.std.proofs.Common.{◌≡◌, ◌↔◌, ℕ, List, [], ◌∷◌, map, Bool, true, false, ◌&&◌, ◌||◌, IsTrue, refl, sym, ap, ◌∙◌, bytes_eq, Result, Ok, Err, IfOk}
use Rattle.std.specs.List.{list_any, Any}
use Rattle.std.proofs.lemmas.List.Folds.{Any-from_list_any, list_any-from_Any}
use Rattle.std.proofs.lemmas.Slice.Eq.{bytes_eq-Decides}
use Rattle.rule_eval.specs.Pairs.{Pair}

any_weaker : {X : Type 0} (P Q : X → Type 0) → ((x : X) → P x → Q x) → (xs : List X) → Any P xs → Any Q xs
any_weaker P Q f xs (k, x, below, at, p) = (k, x, below, at, f x p)

-- a test finds an element exactly where one is as the test says
pub any_says : {X : Type 0} (p : X → Bool) (P : X → Type 0) → ((x : X) → IsTrue (p x) ↔ P x) → (xs : List X) (r : Bool) → r ≡ list_any p xs → IsTrue r ↔ Any P xs
any_says p P same xs r e = (
  (λ t. any_weaker (λ x. p x ≡ true) P (λ x h. (same x).0 h) xs (Any-from_list_any p xs (sym e ∙ t))),
  (λ a. e ∙ list_any-from_Any p xs (any_weaker P (λ x. p x ≡ true) (λ x h. (same x).1 h) xs a)),
)

any_map : {X Y : Type 0} (f : X → Y) (p : Y → Bool) → (xs : List X) → list_any p (map f xs) ≡ list_any (λ x. p (f x)) xs
any_map f p [] = refl
any_map f p (x ∷ xs) = ap (λ b. p (f x) || b) (any_map f p xs)

-- the same over what the elements stand for
pub any_stands : {X Y : Type 0} (f : X → Y) (p : Y → Bool) (P : Y → Type 0) → ((y : Y) → IsTrue (p y) ↔ P y) → (xs : List X) (r : Bool) → r ≡ list_any (λ x. p (f x)) xs → IsTrue r ↔ Any P (map f xs)
any_stands f p P same xs r e = any_says p P same (map f xs) r (e ∙ sym (any_map f p xs))

pub is_bytes : (v w : List ℕ) → IsTrue (bytes_eq v w) ↔ (v ≡ w)
is_bytes v w = ((bytes_eq-Decides v w).0, (bytes_eq-Decides v w).1)

pub true_and : (a b : Bool) → IsTrue (a && b) ↔ (IsTrue a × IsTrue b)
true_and true b = ((λ h. (refl, h)), (λ h. h.1))
true_and false b = ((λ h. absurd cc), (λ h. absurd cc))

pub is_pair_so : (key value : List ℕ) → (p : Pair) → IsTrue (bytes_eq p.0 key && bytes_eq p.1 value) ↔ ((p.0 ≡ key) × (p.1 ≡ value))
is_pair_so key value p = (
  (λ t. let h = (true_and (bytes_eq p.0 key) (bytes_eq p.1 value)).0 t in ((is_bytes p.0 key).0 h.0, (is_bytes p.1 value).0 h.1)),
  (λ h. (true_and (bytes_eq p.0 key) (bytes_eq p.1 value)).1 ((is_bytes p.0 key).1 h.0, (is_bytes p.1 value).1 h.1)),
)

pub is_found_so : (key : List ℕ) (found : List ℕ → Bool) → (p : Pair) → IsTrue (bytes_eq p.0 key && found p.1) ↔ ((p.0 ≡ key) × IsTrue (found p.1))
is_found_so key found p = (
  (λ t. let h = (true_and (bytes_eq p.0 key) (found p.1)).0 t in ((is_bytes p.0 key).0 h.0, h.1)),
  (λ h. (true_and (bytes_eq p.0 key) (found p.1)).1 ((is_bytes p.0 key).1 h.0, h.1)),
)

pub ok_weaker : {A E : Type 0} (P Q : A → Type 0) → ((x : A) → P x → Q x) → (r : Result A E) → IfOk r P → IfOk r Q
ok_weaker P Q f (Ok x) h = f x h
ok_weaker P Q f (Err e) h = tt
