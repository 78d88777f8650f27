-- A search for what a chain leads to.
use Rattle.std.specs.Prelude.{◌≡◌, ◌⊎◌, ℕ, ◌+◌, ◌<◌, Bool, true, false, List, length, Contains, Option, Some, slice_index_or, sum_by}

-- the middleware at this place was seen
abbrev pub IsSeen : List Bool → ℕ → Type 0
IsSeen seen place = slice_index_or seen place false ≡ true

abbrev pub unseen : Bool → ℕ
unseen false = 1
unseen true = 0

-- how many weren't seen yet
abbrev pub unseen_count : List Bool → ℕ
unseen_count seen = sum_by unseen seen

-- members were seen, and each for the first time is to be looked into
pub record Visited (members : List (Option ℕ)) (seen : List Bool) (waiting : List ℕ) (seen' : List Bool) (waiting' : List ℕ) : Type 0 where
  pub size : length seen' ≡ length seen
  pub kept : (u : ℕ) → IsSeen seen u → IsSeen seen' u
  pub came : (u : ℕ) → IsSeen seen' u → IsSeen seen u ⊎ (Contains members (Some u) × Contains waiting' u)
  pub all : (u : ℕ) → Contains members (Some u) → u < length seen → IsSeen seen' u
  pub still : (u : ℕ) → Contains waiting u → Contains waiting' u
  pub new : (u : ℕ) → Contains waiting' u → Contains waiting u ⊎ IsSeen seen' u
  pub count : unseen_count seen' + length waiting' ≡ unseen_count seen + length waiting
