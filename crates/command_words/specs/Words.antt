-- How the words behind a command's name are sorted into options and other words. An option is `--name value` or
-- `--name=value`, whose value isn't empty and, as a word of its own, doesn't begin with a dash. `--` ends the options;
-- before it, each other word that begins with a dash is refused.
use Rattle.std.specs.Prelude.{ℕ, ◌==◌, Bool, false, not, if◌then◌else◌, List, [], ◌∷◌, ◌++◌, Option, Some, None}
use Rattle.command_words.specs.declared.kind.Kind.{Kind}
use Rattle.command_words.specs.declared.kind.Kind.TheVariants as kind
use Rattle.command_words.specs.declared.sorting.Sorted.{Sorted}
use Rattle.command_words.specs.Cuts.{Cut, cut_at}

-- what one word is: the end of the options, the name of an option whose value is the next word, an option with its
-- value, a word that may not stand there, or another word
pub data WordKind : Type 0 where
  ends : WordKind
  named : List ℕ → WordKind
  valued : List ℕ → List ℕ → WordKind
  refused : WordKind
  other : WordKind

-- an option with this value, which may not be empty
abbrev pub valued_kind : List ℕ → List ℕ → WordKind
valued_kind name [] = refused
valued_kind name (b ∷ bs) = valued name (b ∷ bs)

abbrev pub cut_kind : List ℕ → Option Cut → WordKind
cut_kind text None = named text
cut_kind text (Some cut) = valued_kind cut.before cut.behind

-- by what stands behind two dashes
abbrev pub option_kind : List ℕ → WordKind
option_kind [] = ends
option_kind (b ∷ bs) = cut_kind (b ∷ bs) (cut_at 61 (b ∷ bs))

-- by what stands behind one dash
abbrev pub dashed_kind : List ℕ → WordKind
dashed_kind [] = refused
dashed_kind (b ∷ bs) = if b == 45 then option_kind bs else refused

abbrev pub kind_of : List ℕ → WordKind
kind_of [] = other
kind_of (b ∷ bs) = if b == 45 then dashed_kind bs else other

-- the word may be the value of the option that the word before it names
abbrev pub is_value : List ℕ → Bool
is_value [] = false
is_value (b ∷ bs) = not (b == 45)

-- a kind that the code found
abbrev pub shown_kind : Kind → WordKind
shown_kind kind.Ends = ends
shown_kind (kind.Named name) = named name.now
shown_kind (kind.Valued name value) = valued name.now value.now
shown_kind kind.Refused = refused
shown_kind kind.Other = other

-- no words
abbrev pub nothing : Sorted
nothing = record { settings = []; others = [] }

-- an option before the others, and a word before the others
abbrev pub and_setting : List ℕ → List ℕ → Option Sorted → Option Sorted
and_setting name value None = None
and_setting name value (Some s) = Some (record s { settings = record { name = name; value = value } ∷ s.settings })

abbrev pub and_other : List ℕ → Option Sorted → Option Sorted
and_other word None = None
and_other word (Some s) = Some (record s { others = word ∷ s.others })

-- an option whose value is a word of its own
abbrev pub and_named : List ℕ → List ℕ → Option Sorted → Option Sorted
and_named name value rest = if is_value value then and_setting name value rest else None

-- a first word of this kind, the words behind it, how these are sorted, and what they give to the option that it names
abbrev pub sorted_by : WordKind → List ℕ → List (List ℕ) → Option Sorted → (List ℕ → Option Sorted) → Option Sorted
sorted_by ends word words rest behind = Some (record { settings = []; others = words })
sorted_by (named name) word words rest behind = behind name
sorted_by (valued name value) word words rest behind = and_setting name value rest
sorted_by refused word words rest behind = None
sorted_by other word words rest behind = and_other word rest

-- the options and the other words, each in their order; none where a word is refused or an option lacks its value
abbrev pub sorted : List (List ℕ) → Option Sorted
sorted [] = Some nothing
sorted (word ∷ []) = sorted_by (kind_of word) word [] (Some nothing) (λ name. None)
sorted (word ∷ value ∷ words) =
    sorted_by (kind_of word) word (value ∷ words) (sorted (value ∷ words)) (λ name. and_named name value (sorted words))

-- what the words give to the option named before them: the first is its value
abbrev pub sorted_behind : List ℕ → List (List ℕ) → Option Sorted
sorted_behind name [] = None
sorted_behind name (value ∷ words) = and_named name value (sorted words)

-- what was sorted so far, and then the rest
abbrev pub joined : Sorted → Option Sorted → Option Sorted
joined found None = None
joined found (Some s) = Some (record { settings = found.settings ++ s.settings; others = found.others ++ s.others })
