-- The numbers of sound objects. The next number goes to the object that is found so: begin at the first sound one, by its place,
-- that has no number; while it refers to one without a number, go on to the first such. So what an object refers to has its number
-- before it, and the order is that in which a walk that goes down before it goes on leaves the objects.
use Rattle.std.specs.Prelude.{◌≡◌, ℕ, ◌+◌, ◌<◌, ◌==◌, Bool, true, false, List, [], ◌∷◌, ◌++◌, length, Option, Some, None, is_some, sum_by, ⊤, if◌then◌else◌}
use Rattle.std.specs.List.{slice_index_or}
use Rattle.reference_graph.specs.Links.{Links, links_at, refers}
use Rattle.reference_graph.specs.Heights.{Heights, height_at, are_sound, depth_of}
use Rattle.reference_graph.specs.Search.{is_in}
use Rattle.reference_graph.specs.declared.height.Height.{Height}

-- the first place to which a reference leads, of those that don't pass the test
abbrev pub first_without : (ℕ → Bool) → List (Option ℕ) → Option ℕ
first_without numbered [] = None
first_without numbered (None ∷ rest) = first_without numbered rest
first_without numbered (Some at ∷ rest) = if numbered at then first_without numbered rest else Some at

-- from the one object to the other, going on each time to the first that has no number, until there is none
abbrev pub GoesDown : Links → (ℕ → Bool) → ℕ → List ℕ → ℕ → Type 0
GoesDown links numbered from [] at = (from ≡ at) × (first_without numbered (links_at links at) ≡ None)
GoesDown links numbered from (next ∷ between) at =
    (first_without numbered (links_at links from) ≡ Some next) × GoesDown links numbered next between at

-- the next number goes to this object
pub record IsNext (links : Links) (sound : ℕ → Bool) (numbered : ℕ → Bool) (at : ℕ) : Type 0 where
  pub first : ℕ
  pub is_sound_one : sound first ≡ true
  pub has_none : numbered first ≡ false
  pub is_first : (k : ℕ) → k < first → sound k ≡ true → numbered k ≡ true
  pub between : List ℕ
  pub down : GoesDown links numbered first between at

-- where these have their numbers, the next ones go to those, one after another
abbrev pub AreNext : Links → (ℕ → Bool) → List ℕ → List ℕ → Type 0
AreNext links sound done [] = ⊤
AreNext links sound done (at ∷ rest) = IsNext links sound (is_in done) at × AreNext links sound (done ++ at ∷ []) rest

-- the sound objects in the order of their numbers, which begin at 0
pub record IsNumbering (links : Links) (sound : ℕ → Bool) (order : List ℕ) : Type 0 where
  pub next : AreNext links sound [] order
  pub all : (at : ℕ) → at < length links → sound at ≡ true → is_in order at ≡ true

-- the number of an object: its place in their order, which is counted from n
abbrev pub number_from : ℕ → List ℕ → ℕ → Option ℕ
number_from n [] at = None
number_from n (place ∷ rest) at = if place == at then Some n else number_from (n + 1) rest at

abbrev pub number_of : List ℕ → ℕ → Option ℕ
number_of order at = number_from 0 order at

abbrev pub number_in : List (Option ℕ) → ℕ → Option ℕ
number_in numbers at = slice_index_or numbers at None

abbrev pub has_number : List (Option ℕ) → ℕ → Bool
has_number numbers at = is_some (number_in numbers at)

-- for each object its number
abbrev pub AreNumbers : List ℕ → List (Option ℕ) → Type 0
AreNumbers order numbers = (at : ℕ) → number_in numbers at ≡ number_of order at

-- sound objects refer to sound ones alone, whose trees are less deep
pub record IsLayered (links : Links) (heights : Heights) (at : ℕ) (h : Height) : Type 0 where
  pub sound : are_sound heights (links_at links at) ≡ true
  pub higher : (to : ℕ) → refers links at to ≡ true → depth_of (height_at heights to) < h.depth

abbrev pub AreLayered : Links → Heights → Type 0
AreLayered links heights = (at : ℕ) (h : Height) → height_at heights at ≡ Some h → IsLayered links heights at h

abbrev pub unnumbered : Option ℕ → ℕ
unnumbered number = if is_some number then 0 else 1

-- sound objects alone have numbers
abbrev pub AreOfSound : (ℕ → Bool) → List (Option ℕ) → Type 0
AreOfSound sound numbers = (at : ℕ) → has_number numbers at ≡ true → sound at ≡ true

-- the sound objects below a place have their numbers, and no others but sound ones
pub record IsNumberedBelow (links : Links) (sound : ℕ → Bool) (upto : ℕ) (order : List ℕ) (numbers : List (Option ℕ)) : Type 0 where
  pub long : length numbers ≡ length links
  pub numbers_are : AreNumbers order numbers
  pub next : AreNext links sound [] order
  pub all : (at : ℕ) → at < upto → sound at ≡ true → is_in order at ≡ true
  pub of_sound : AreOfSound sound numbers
  pub counted : length order + sum_by unnumbered numbers ≡ length links
