-- How all services are judged together: which are sound, how high their trees are, and which are disabled.
use Rattle.std.specs.Prelude.{◌≡◌, ℕ, Bool, ◌&&◌, nat_lt, is_none, List, length}
use Rattle.reference_graph.specs.Heights.{AreTall, is_sound}
use Rattle.reference_graph.specs.Numbering.{AreLayered}
use Rattle.service_faults.specs.Faults.{State, AreJudged, faults_from}
use Rattle.service_faults.specs.References.{ServiceEntry, links_of}
use Rattle.service_faults.specs.declared.judgement.Judgement.{Judgement}

-- a service is declared at this place, and nothing stands against it
abbrev pub is_sound_service : List ServiceEntry → (ℕ → State) → ℕ → Bool
is_sound_service services judged at = nat_lt at (length services) && is_none (judged at)

-- there is a judgement of all services, which tells the faults; a service has a height exactly where it is sound, and that is the depth
-- and the size of its tree; sound services refer to sound ones alone, whose trees are less deep
pub record IsJudgement (services : List ServiceEntry) (j : Judgement) : Type 0 where
  pub links_are : j.links.items ≡ links_of services
  pub judged : ℕ → State
  pub are_judged : AreJudged services judged
  pub faults_are : j.faults ≡ faults_from judged 0 services
  pub long : length j.heights.items ≡ length services
  pub sound : (at : ℕ) → is_sound j.heights.items at ≡ is_sound_service services judged at
  pub tall : AreTall (links_of services) j.heights.items
  pub layered : AreLayered (links_of services) j.heights.items
