-- A search for what an object reaches: what was seen so far, and whose references are still to be looked at.
use Rattle.std.specs.Prelude.{◌≡◌, ℕ, ◌+◌, ◌<◌, ◌==◌, ◌⊎◌, Bool, true, false, List, Option, length, sum_by, if◌then◌else◌}
use Rattle.std.specs.List.{slice_index_or, list_any}
use Rattle.reference_graph.specs.Links.{Links, refers, is_among}
use Rattle.reference_graph.specs.Reaching.{Reaches}

abbrev pub was_seen : List Bool → ℕ → Bool
was_seen seen at = slice_index_or seen at false

abbrev pub is_in : List ℕ → ℕ → Bool
is_in places at = list_any (λ place. place == at) places

abbrev pub unseen : Bool → ℕ
unseen seen = if seen then 0 else 1

-- how many were not seen
abbrev pub remaining : List Bool → ℕ
remaining seen = sum_by unseen seen

-- the places of references are seen, and those that were not seen before are still to be looked at
pub record IsMarked (places : List (Option ℕ)) (seen : List Bool) (todo : List ℕ) (seen' : List Bool) (todo' : List ℕ) : Type 0 where
  pub long : length seen' ≡ length seen
  pub marked : (to : ℕ) → is_among to places ≡ true → was_seen seen' to ≡ true
  pub kept : (to : ℕ) → was_seen seen to ≡ true → was_seen seen' to ≡ true
  pub no_more : (to : ℕ) → was_seen seen' to ≡ true → (was_seen seen to ≡ true) ⊎ (is_among to places ≡ true)
  pub queued : (to : ℕ) → was_seen seen' to ≡ true → (was_seen seen to ≡ true) ⊎ (is_in todo' to ≡ true)
  pub stays : (to : ℕ) → is_in todo to ≡ true → is_in todo' to ≡ true
  pub comes : (to : ℕ) → is_in todo' to ≡ true → (is_in todo to ≡ true) ⊎ (is_among to places ≡ true)
  pub steady : remaining seen' + length todo' ≡ remaining seen + length todo

-- what was seen is reached, and what is reached by one more reference is seen or still to be looked at
pub record IsUnderWay (links : Links) (from : ℕ) (seen : List Bool) (todo : List ℕ) : Type 0 where
  pub long : length seen ≡ length links
  pub inside : (at : ℕ) → is_in todo at ≡ true → at < length links
  pub begun : (at : ℕ) → is_in todo at ≡ true → (at ≡ from) ⊎ Reaches links from at
  pub found : (at : ℕ) → was_seen seen at ≡ true → Reaches links from at
  pub closed : (at to : ℕ) → (at ≡ from) ⊎ (was_seen seen at ≡ true) → refers links at to ≡ true
      → (is_in todo at ≡ true) ⊎ (was_seen seen to ≡ true)
