-- The steps of a connection, cut before each pin.
use Rattle.std.specs.Prelude.{◌≡◌, List, [], ◌∷◌, ◌++◌}
use Rattle.std.specs.List.{flat_map}
use Rattle.conversation.specs.Plans.{Plan}
use Rattle.conversation.specs.Steps.{Step, pinned, pins}

-- a pin, and the steps after it, of which none is a pin
pub record Stretch : Type 0 where
  pub plan : Plan
  pub after : List Step
  pub unpinned : pins after ≡ []

abbrev pub stretch_steps : Stretch → List Step
stretch_steps s = pinned s.plan ∷ s.after

-- the steps are these, of which none is a pin, and then these stretches
pub record IsCut (steps first : List Step) (stretches : List Stretch) : Type 0 where
  pub whole : steps ≡ first ++ flat_map stretch_steps stretches
  pub unpinned : pins first ≡ []
