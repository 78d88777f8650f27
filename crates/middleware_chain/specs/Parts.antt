-- What each declared middleware is by itself, before chains are judged by their members.
use Rattle.std.specs.Prelude.{◌≡◌, ℕ, ◌-◌, true, false, Bool, List, [], ◌∷◌, map, if◌then◌else◌, ⊤}
use Rattle.dyn_config.specs.declared.middleware.MiddlewareDef.{MiddlewareDef}
use Rattle.dyn_config.specs.declared.middleware.MiddlewareDef.TheVariants as def
use Rattle.middleware_graph.specs.declared.fault.MiddlewareFault.{MiddlewareFault}
use Rattle.middleware_graph.specs.declared.fault.MiddlewareFault.TheVariants as fault
use Rattle.middleware_graph.specs.declared.node.Node.{Node}
use Rattle.middleware_graph.specs.declared.node.Node.TheVariants as node
use Rattle.middleware_stage.specs.Faults.{Blames, IsUsable, is_chain, pattern_count}
use Rattle.middleware_stage.specs.Stage.{stage_def}
use Rattle.middleware_stage.specs.declared.stage.StageFault.{StageFault}
use Rattle.middleware_stage.specs.declared.stage.StageFault.TheVariants as own
use Rattle.middleware_chain.specs.Names.{MiddlewareEntry, place_of}
use Rattle.middleware_chain.specs.declared.part.Part.{Part}
use Rattle.middleware_chain.specs.declared.part.Part.TheVariants as part

-- the fault of a middleware that is no chain, as one of any middleware
abbrev pub fault_of : StageFault → MiddlewareFault
fault_of own.Unsupported = fault.Unsupported
fault_of own.Value = fault.Value
fault_of own.TooManyPatterns = fault.TooManyPatterns
fault_of own.Syntax = fault.Syntax
fault_of own.TooBig = fault.TooBig

-- the first fault of its own that a middleware has, where `left` patterns may be built
abbrev pub IsOwnFault : MiddlewareDef → ℕ → MiddlewareFault → Type 0
IsOwnFault def left f = (g : StageFault) × (f ≡ fault_of g) × Blames def left g

-- a middleware that is no chain, where `left` patterns may be built: built as it was declared, or at fault
abbrev pub IsStagePart : MiddlewareDef → ℕ → Part → Type 0
IsStagePart def left (part.Stage stage) = IsUsable def left × (stage_def stage ≡ def)
IsStagePart def left (part.Faulty f) = IsOwnFault def left f
IsStagePart def left (part.Chain members) = ⊥

-- a middleware by itself, where `left` patterns may be built: built as it was declared, at fault, or a chain of what its own
-- provider's references lead to
abbrev pub IsPart : List MiddlewareEntry → ℕ → MiddlewareEntry → Part → Type 0
IsPart all left e (part.Stage stage) = (is_chain e.def ≡ false) × IsUsable e.def left × (stage_def stage ≡ e.def)
IsPart all left e (part.Faulty f) = (is_chain e.def ≡ false) × IsOwnFault e.def left f
IsPart all left e (part.Chain members) =
    (names : List (List ℕ)) × (e.def ≡ def.Chain names) × (members ≡ map (place_of all e.provider) names)

-- the fault was found when its pattern was built, or its bad syntax was
abbrev pub is_of_pattern : MiddlewareFault → Bool
is_of_pattern fault.Syntax = true
is_of_pattern fault.TooBig = true
is_of_pattern fault.Unsupported = false
is_of_pattern fault.Value = false
is_of_pattern fault.TooManyPatterns = false
is_of_pattern fault.Missing = false
is_of_pattern fault.Cycle = false
is_of_pattern fault.Child = false
is_of_pattern fault.TooDeep = false

-- how many patterns a middleware uses of those that are left, also where its own pattern is at fault
abbrev pub used_by : MiddlewareDef → Part → ℕ
used_by def (part.Stage stage) = pattern_count def
used_by def (part.Faulty f) = if is_of_pattern f then pattern_count def else 0
used_by def (part.Chain members) = 0

-- the middlewares in order, each with the patterns that those before it left; `after` are left at the end
abbrev pub AreParts : List MiddlewareEntry → ℕ → List MiddlewareEntry → List Part → ℕ → Type 0
AreParts all left [] [] after = after ≡ left
AreParts all left [] (p ∷ ps) after = ⊥
AreParts all left (e ∷ es) [] after = ⊥
AreParts all left (e ∷ es) (p ∷ ps) after = IsPart all left e p × AreParts all (left - used_by e.def p) es ps after

-- a middleware as chains see it
abbrev pub node_of : Part → Node
node_of (part.Stage stage) = node.Stage
node_of (part.Faulty f) = node.Faulty f
node_of (part.Chain members) = node.Chain members

-- its pattern was refused for its size
abbrev pub is_too_big : MiddlewareFault → Bool
is_too_big fault.TooBig = true
is_too_big fault.Syntax = false
is_too_big fault.Unsupported = false
is_too_big fault.Value = false
is_too_big fault.TooManyPatterns = false
is_too_big fault.Missing = false
is_too_big fault.Cycle = false
is_too_big fault.Child = false
is_too_big fault.TooDeep = false

abbrev pub is_refused : Part → Bool
is_refused (part.Stage stage) = false
is_refused (part.Faulty f) = is_too_big f
is_refused (part.Chain members) = false
