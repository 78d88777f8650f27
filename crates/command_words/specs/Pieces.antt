-- What the words behind a command's name are made of: options, other words, and what stands behind `--`.
use Rattle.std.specs.Prelude.{◌≡◌, ◌≢◌, ℕ, ⊤, List, [], ◌∷◌, ◌++◌, Option, Some, None}
use Rattle.std.specs.List.{AllByRecursion, flat_map}
use Rattle.command_words.specs.declared.sorting.Setting.{Setting}
use Rattle.command_words.specs.declared.sorting.Sorted.{Sorted}

-- `--name=value`, `--name value`, or a word that is no option
pub data Piece : Type 0 where
  whole : List ℕ → List ℕ → Piece
  halved : List ℕ → List ℕ → Piece
  plain : List ℕ → Piece

-- the words that a piece is: one, or an option's name and its value
abbrev pub words_of : Piece → List (List ℕ)
words_of (whole name value) = (45 ∷ 45 ∷ (name ++ 61 ∷ value)) ∷ []
words_of (halved name value) = (45 ∷ 45 ∷ name) ∷ value ∷ []
words_of (plain word) = word ∷ []

-- the text has no `=`
abbrev pub HasNoSign : List ℕ → Type 0
HasNoSign name = AllByRecursion (λ b. b ≢ 61) name

-- the word doesn't begin with a dash
abbrev pub IsUndashed : List ℕ → Type 0
IsUndashed [] = ⊤
IsUndashed (b ∷ bs) = b ≢ 45

-- An option's name has no `=`, and its value isn't empty. As a word of its own the value doesn't begin with a dash, and
-- the name before it isn't empty. A word that is no option doesn't begin with a dash.
abbrev pub IsPiece : Piece → Type 0
IsPiece (whole name value) = HasNoSign name × (value ≢ [])
IsPiece (halved name value) = (name ≢ []) × HasNoSign name × (value ≢ []) × IsUndashed value
IsPiece (plain word) = IsUndashed word

abbrev pub settings_of : Piece → List Setting
settings_of (whole name value) = record { name = name; value = value } ∷ []
settings_of (halved name value) = record { name = name; value = value } ∷ []
settings_of (plain word) = []

abbrev pub others_of : Piece → List (List ℕ)
others_of (whole name value) = []
others_of (halved name value) = []
others_of (plain word) = word ∷ []

-- what stands from `--` on, where it ends the options
abbrev pub ending : Option (List (List ℕ)) → List (List ℕ)
ending None = []
ending (Some words) = (45 ∷ 45 ∷ []) ∷ words

abbrev pub behind : Option (List (List ℕ)) → List (List ℕ)
behind None = []
behind (Some words) = words

-- The words are pieces, and then, where `--` ends the options, any others. The options are those of the pieces, and the
-- other words are the rest, each in their order.
pub record IsMadeOf (words : List (List ℕ)) (s : Sorted) : Type 0 where
  pub pieces : List Piece
  pub ended : Option (List (List ℕ))
  pub each : AllByRecursion IsPiece pieces
  pub words_are : words ≡ flat_map words_of pieces ++ ending ended
  pub settings : s.settings ≡ flat_map settings_of pieces
  pub others : s.others ≡ flat_map others_of pieces ++ behind ended
