-- Why a service is disabled: the first reason, in the order of the variants of `ServiceFault`.
use Rattle.std.specs.Prelude.{◌≡◌, ℕ, ◌+◌, Bool, true, false, List, [], ◌∷◌, ◌++◌, Option, Some, None, is_some, slice_get}
use Rattle.std.specs.List.{list_all}
use Rattle.reference_graph.specs.Links.{Links, links_at, is_among}
use Rattle.reference_graph.specs.Reaching.{Reaches}
use Rattle.reference_graph.specs.Trees.{Trees, AreTrees, IsSmall, IsLarge}
use Rattle.service_faults.specs.Own.{IsOwnState}
use Rattle.service_faults.specs.References.{ServiceEntry, links_of}
use Rattle.service_faults.specs.declared.fault.ServiceFault.{ServiceFault}
use Rattle.service_faults.specs.declared.fault.ServiceFault.TheVariants as fault

-- why a service is disabled, if it is
abbrev pub State : Type 0
State = Option ServiceFault

-- nothing in its own options stands against it
abbrev pub IsPlain : ServiceEntry → Type 0
IsPlain e = IsOwnState e.def None

-- each of its references leads to a declared service
abbrev pub is_declared : Links → ℕ → Bool
is_declared links at = list_all is_some (links_at links at)

-- nothing stands against it but what may be the matter with the services that it refers to
pub record IsFree (links : Links) (e : ServiceEntry) (at : ℕ) : Type 0 where
  pub plain : IsPlain e
  pub declared : is_declared links at ≡ true
  pub ends : ¬ (Reaches links at at)

-- each service that it refers to is sound
abbrev pub RefersToSound : Links → (ℕ → State) → ℕ → Type 0
RefersToSound links judged at = (to : ℕ) → is_among to (links_at links at) ≡ true → judged to ≡ None

-- it refers to a service that is disabled
abbrev pub RefersToDisabled : Links → (ℕ → State) → ℕ → Type 0
RefersToDisabled links judged at = (to : ℕ) × (is_among to (links_at links at) ≡ true) × (is_some (judged to) ≡ true)

-- what its tree has below it
abbrev pub HasBelow : Links → ℕ → (Trees → Type 0) → Type 0
HasBelow links at P = (below : Trees) × AreTrees links (links_at links at) below × P below

-- this is why a service is disabled, if it is, where all services are judged so
abbrev pub IsState : Links → (ℕ → State) → ServiceEntry → ℕ → State → Type 0
IsState links judged e at None = IsFree links e at × RefersToSound links judged at × HasBelow links at IsSmall
IsState links judged e at (Some fault.Missing) = IsPlain e × (is_declared links at ≡ false)
IsState links judged e at (Some fault.Cycle) = IsPlain e × (is_declared links at ≡ true) × Reaches links at at
IsState links judged e at (Some fault.Child) = IsFree links e at × RefersToDisabled links judged at
IsState links judged e at (Some fault.TooDeep) = IsFree links e at × RefersToSound links judged at × HasBelow links at IsLarge
IsState links judged e at (Some f) = IsOwnState e.def (Some f)

-- each declared service is judged so
abbrev pub AreJudged : List ServiceEntry → (ℕ → State) → Type 0
AreJudged services judged =
    (at : ℕ) (e : ServiceEntry) → slice_get services at ≡ Some e → IsState (links_of services) judged e at (judged at)

-- a disabled service with its fault
abbrev pub faults_at : List ℕ → State → List (List ℕ × ServiceFault)
faults_at name None = []
faults_at name (Some f) = (name, f) ∷ []

-- the disabled services by name, the first of these services having the place n
abbrev pub faults_from : (ℕ → State) → ℕ → List ServiceEntry → List (List ℕ × ServiceFault)
faults_from judged n [] = []
faults_from judged n (e ∷ es) = faults_at e.name (judged n) ++ faults_from judged (n + 1) es
