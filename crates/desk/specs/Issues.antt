-- Published generations that are held by their owners.
use Rattle.std.specs.Prelude.{ℕ, List, [], ◌∷◌, ◌++◌, map, replicate}
use Rattle.std.specs.List.{flat_map}
use Rattle.std.specs.declared.sync.Arc.{Arc}
use Rattle.std.specs.declared.alloc.Global.{Global}
use Rattle.std.specs.Arc.{arc_value}
use Rattle.conversation.specs.Plans.{Plan}
use Rattle.generation.specs.Meaning.{plan_of}
use Rattle.generation.specs.declared.generation.Generation.{Generation}
use Rattle.desk.specs.declared.timeline.Published.{Published}

abbrev pub issue_plan : Arc Generation Global → Plan
issue_plan issue = plan_of (arc_value issue)

abbrev pub published_plan : Published → Plan
published_plan p = issue_plan p.issue

-- those that a history tells
abbrev pub published_in : List (Published × ℕ) → List Published
published_in told = map (λ (e : Published × ℕ). e.0) told

-- the earlier ones, then the newest
abbrev pub generations_of : List Published → Published → List Plan
generations_of earlier newest = map published_plan earlier ++ published_plan newest ∷ []

-- its plan, as often as it was pinned
abbrev pub pins_by : Published → List Plan
pins_by p = replicate p.pins (published_plan p)

-- Only the newest is ever pinned, so the pins stand in the order of their generations.
abbrev pub pins_of : List Published → Published → List Plan
pins_of earlier newest = flat_map pins_by earlier ++ pins_by newest
