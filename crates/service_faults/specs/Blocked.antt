-- What stands against a service before the services that it refers to are judged.
use Rattle.std.specs.Prelude.{◌≡◌, ℕ, ◌<◌, true, false, List, length, Some, None, slice_get, if◌then◌else◌}
use Rattle.std.specs.List.{slice_index_or}
use Rattle.reference_graph.specs.Links.{Links, links_at}
use Rattle.reference_graph.specs.Reaching.{Reaches}
use Rattle.reference_graph.specs.Heights.{Heights, is_sound, are_sound}
use Rattle.service_faults.specs.Own.{IsOwnState}
use Rattle.service_faults.specs.References.{ServiceEntry}
use Rattle.service_faults.specs.Faults.{State, IsPlain, IsFree, is_declared}
use Rattle.service_faults.specs.declared.fault.ServiceFault.TheVariants as fault

abbrev pub IsBlockedBy : Links → ServiceEntry → ℕ → State → Type 0
IsBlockedBy links e at None = IsFree links e at
IsBlockedBy links e at (Some fault.Missing) = IsPlain e × (is_declared links at ≡ false)
IsBlockedBy links e at (Some fault.Cycle) = IsPlain e × (is_declared links at ≡ true) × Reaches links at at
IsBlockedBy links e at (Some fault.Child) = ⊥
IsBlockedBy links e at (Some fault.TooDeep) = ⊥
IsBlockedBy links e at (Some f) = IsOwnState e.def (Some f)

-- where the services that it refers to are judged
abbrev pub judged_by : Links → Heights → State → ℕ → State
judged_by links heights (Some f) at = Some f
judged_by links heights None at =
    if is_sound heights at then None else (if are_sound heights (links_at links at) then Some fault.TooDeep else Some fault.Child)

-- what stands against the service at a place
abbrev pub blocked_at : List State → ℕ → State
blocked_at blocked at = slice_index_or blocked at None

-- this stands against each service below a place
abbrev pub AreBlockedBelow : Links → List ServiceEntry → List State → ℕ → Type 0
AreBlockedBelow links services blocked upto =
    (at : ℕ) (e : ServiceEntry) → at < upto → slice_get services at ≡ Some e → IsBlockedBy links e at (blocked_at blocked at)

-- this stands against each service
abbrev pub AreBlocked : Links → List ServiceEntry → List State → Type 0
AreBlocked links services blocked = (length blocked ≡ length services) × AreBlockedBelow links services blocked (length services)

-- how all services are judged then
abbrev pub judgement : Links → Heights → List State → ℕ → State
judgement links heights blocked at = judged_by links heights (blocked_at blocked at) at
