-- What is known of services before their nodes are made.
use Rattle.std.specs.Prelude.{◌≡◌, ℕ, ◌<◌, ◌≤◌, ◌^◌, List, length, Option, Some, All, slice_get}
use Rattle.reference_graph.specs.Heights.{is_sound}
use Rattle.reference_graph.specs.Numbering.{AreNumbers, AreOfSound, IsNumbering, number_in}
use Rattle.service_faults.specs.Faults.{IsPlain}
use Rattle.service_faults.specs.References.{ServiceEntry, links_of, places_of}
use Rattle.service_faults.specs.declared.judgement.Judgement.{Judgement}
use Rattle.service_nodes.specs.Nodes.{number_behind}

-- the sound services of a judgement are numbered
pub record AreNumbered (services : List ServiceEntry) (j : Judgement) (order : List ℕ) (numbers : List (Option ℕ)) : Type 0 where
  pub numbered : IsNumbering (links_of services) (is_sound j.heights.items) order
  pub are_numbers : AreNumbers order numbers
  pub of_sound : AreOfSound (is_sound j.heights.items) numbers
  pub few : length order ≤ length services

-- the reference leads to a service that has its number
abbrev pub HasNumber : List (Option ℕ) → Option ℕ → Type 0
HasNumber numbers place = (n : ℕ) × (number_behind (number_in numbers) place ≡ Some n) × (n < 2 ^ 32)

-- nothing in its own options stands against the service at this place, and all that it refers to has its number
pub record IsReady (services : List ServiceEntry) (numbers : List (Option ℕ)) (at : ℕ) : Type 0 where
  pub entry : ServiceEntry
  pub here : slice_get services at ≡ Some entry
  pub plain : IsPlain entry
  pub leads : All (HasNumber numbers) (places_of services entry)
