-- The first of some worlds, before and after a call.
use Rattle.std.specs.Prelude.{◌≡◌, List, [], ◌∷◌}

-- the first may change so, and the others stay
abbrev pub AtFirst : {W : Type 0} → List W → List W → (W → W → Type 0) → Type 0
AtFirst [] new P = ⊥
AtFirst (w ∷ ws) [] P = ⊥
AtFirst (w ∷ ws) (v ∷ vs) P = P w v × (vs ≡ ws)
