-- Configurations that are held by their owners.
use Rattle.std.specs.Prelude.{◌≡◌, List, [], ◌∷◌, ◌++◌, map}
use Rattle.std.specs.declared.sync.Arc.{Arc}
use Rattle.std.specs.declared.alloc.Global.{Global}
use Rattle.std.specs.Arc.{arc_value}
use Rattle.conversation.specs.Plans.{Plan}
use Rattle.generation.specs.Meaning.{plan_of}
use Rattle.generation.specs.declared.generation.Generation.{Generation}

abbrev pub plan_at : Arc Generation Global → Plan
plan_at issue = plan_of (arc_value issue)

-- the earlier ones, then the newest
abbrev pub plans_in : List (Arc Generation Global) → Arc Generation Global → List Plan
plans_in earlier newest = map plan_at earlier ++ plan_at newest ∷ []

abbrev pub IsLast : List Plan → Plan → Type 0
IsLast ps p = (before : List Plan) × (ps ≡ before ++ p ∷ [])
