-- The text of a script.
use Rattle.std.specs.Prelude.{◌≡◌, ◌≢◌, ℕ, List, [], ◌∷◌, ◌++◌, All}

-- the text begins with this line, and this stands behind it; the last line may end with the text
pub data IsCut (text line rest : List ℕ) : Type 0 where
  fed : All (λ b. b ≢ 10) line → text ≡ line ++ 10 ∷ rest → IsCut text line rest
  last : All (λ b. b ≢ 10) line → text ≡ line → rest ≡ [] → IsCut text line rest

-- no bar stands at the front
abbrev pub IsUnbarred : List ℕ → Type 0
IsUnbarred text = (more : List ℕ) → text ≢ 124 ∷ more

-- the lines at the front that stand behind bars are this block, and this follows them
pub data IsBlock : List ℕ → List ℕ → List ℕ → Type 0 where
  none : (text : List ℕ) → IsUnbarred text → IsBlock text [] text
  barred : (behind line more block rest : List ℕ) → IsCut behind line more → IsBlock more block rest → IsBlock (124 ∷ behind) ((line ++ 10 ∷ []) ++ block) rest
