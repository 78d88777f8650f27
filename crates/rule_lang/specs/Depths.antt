-- How deep a rule goes, a token at a time. `form_depth` says what the depth is; this only serves the proofs.
use Rattle.std.specs.Prelude.{ℕ, ◌+◌, max, Bool, true, false, List, [], ◌∷◌}
use Rattle.rule_lang.specs.declared.token.Token.{Token}
use Rattle.rule_lang.specs.declared.token.TokenKind.{TokenKind}
use Rattle.rule_lang.specs.declared.token.TokenKind.TheVariants as kind

-- whether a call is begun, the depth here and that of the group around, those of the groups outside, the greatest of a call
pub record Depths : Type 0 where
  pub in_call : Bool
  pub here : ℕ
  pub base : ℕ
  pub bases : List ℕ
  pub deepest : ℕ

abbrev pub depth_left : ℕ → List ℕ → ℕ → Depths
depth_left base [] deepest = record { in_call = false; here = base; base = base; bases = []; deepest = deepest }
depth_left base (outer ∷ bases) deepest = record { in_call = false; here = outer; base = outer; bases = bases; deepest = deepest }

abbrev pub depth_opened : Bool → Depths → Depths
depth_opened true d = d
depth_opened false d = record { in_call = false; here = d.here + 1; base = d.here + 1; bases = d.base ∷ d.bases; deepest = d.deepest }

abbrev pub depth_closed : Bool → Depths → Depths
depth_closed true d = record { in_call = false; here = d.base; base = d.base; bases = d.bases; deepest = d.deepest }
depth_closed false d = depth_left d.base d.bases d.deepest

abbrev pub depth_step : Depths → TokenKind → Depths
depth_step d kind.Not = record { in_call = d.in_call; here = d.here + 1; base = d.base; bases = d.bases; deepest = d.deepest }
depth_step d kind.Name = record { in_call = true; here = d.here; base = d.base; bases = d.bases; deepest = max d.deepest d.here }
depth_step d kind.Open = depth_opened d.in_call d
depth_step d kind.Close = depth_closed d.in_call d
depth_step d _ = d

abbrev pub depth_steps : Depths → List Token → Depths
depth_steps d [] = d
depth_steps d (t ∷ tokens) = depth_steps (depth_step d t.kind) tokens

abbrev pub depth_start : Depths
depth_start = record { in_call = false; here = 0; base = 0; bases = []; deepest = 0 }
