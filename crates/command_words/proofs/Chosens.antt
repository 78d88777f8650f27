-- The value of an option that stands once.
use Rattle.std.proofs.Common.{◌≡◌, ℕ, List, [], ◌∷◌, Result, Ok, Err, IsErrAnd, ap}
use Rattle.command_words.specs.Values.{Chosen}

-- the one value that is given can't be read
pub unread : {A : Type 0} → (values : List (List ℕ)) (value : List ℕ) (default : A) (P : List ℕ → A → Type 0) → values ≡ value ∷ [] → ((x : A) → ¬ (P value x)) → (x : A) → ¬ (Chosen values default P x)
unread values value default P e none x = λ is. none x (rw e at is)

-- the error that a `?` hands on
pub handed_on : {T E : Type 0} → (r : Result T E) (e : E) → IsErrAnd r (λ x. x ≡ e) → r ≡ Err e
handed_on (Ok v) e h = absurd h
handed_on (Err x) e h = ap (λ y. Err y) h
