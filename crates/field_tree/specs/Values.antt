-- What a value is in each style.
use Rattle.std.specs.Prelude.{◌≡◌, ℕ, ℤ, Bool, false, ◌||◌, List, [], bytes_eq, codes, Result, Ok, Err}
use Rattle.field_tree.specs.declared.fault.ValueFault.{ValueFault}
use Rattle.field_tree.specs.declared.fault.ValueFault.TheVariants.{Kind, Range}
use Rattle.field_tree.specs.declared.values.Style.{Style}
use Rattle.field_tree.specs.declared.values.Style.TheVariants.{Typed, Texts}
use Rattle.field_tree.specs.declared.tree.Tree.{Tree, out-Tree}
use Rattle.field_tree.specs.declared.tree.Tree.TheOpen.{Tree-F}
use Rattle.field_tree.specs.Texts.{number_of, flag_of}
use Rattle.field_tree.specs.Durations.{IsTimeOf, seconds_time}

abbrev pub text_in : Tree-F Tree → Result (List ℕ) ValueFault
text_in (Tree-F.Text text) = Ok text
text_in _ = Err Kind

-- The text of a value.
abbrev pub text_of : Tree → Result (List ℕ) ValueFault
text_of tree = text_in (out-Tree tree)

abbrev pub is_empty_at : Tree-F Tree → Bool
is_empty_at (Tree-F.Text text) = bytes_eq text [] || bytes_eq text (codes "true")
is_empty_at _ = false

-- In style `Texts` an empty text and the text `true` stand for a table or a list without entries.
abbrev pub is_empty_sign : Tree → Bool
is_empty_sign tree = is_empty_at (out-Tree tree)

abbrev pub number_at : Style → Tree-F Tree → Result ℤ ValueFault
number_at Typed (Tree-F.Num number) = Ok number
number_at Texts (Tree-F.Text text) = number_of text
number_at _ _ = Err Kind

-- The number of a value: a number, or in style `Texts` a text that spells one.
abbrev pub number_in : Style → Tree → Result ℤ ValueFault
number_in style tree = number_at style (out-Tree tree)

abbrev pub flag_at : Style → Tree-F Tree → Result Bool ValueFault
flag_at Typed (Tree-F.Flag flag) = Ok flag
flag_at Texts (Tree-F.Text text) = flag_of text
flag_at _ _ = Err Kind

-- The flag of a value: a flag, or in style `Texts` a text that spells one.
abbrev pub flag_in : Style → Tree → Result Bool ValueFault
flag_in style tree = flag_at style (out-Tree tree)

-- What a text of style `Texts` says of a time: a number is seconds.
abbrev pub IsTimeBy : Result ℤ ValueFault → List ℕ → Result ℕ ValueFault → Type 0
IsTimeBy (Ok seconds) text result = result ≡ seconds_time seconds
IsTimeBy (Err Range) text result = result ≡ Err Range
IsTimeBy (Err Kind) text result = IsTimeOf text result

abbrev pub IsTimeAt : Style → Tree-F Tree → Result ℕ ValueFault → Type 0
IsTimeAt Typed (Tree-F.Num seconds) result = result ≡ seconds_time seconds
IsTimeAt Typed (Tree-F.Text text) result = IsTimeOf text result
IsTimeAt Texts (Tree-F.Text text) result = IsTimeBy (number_of text) text result
IsTimeAt _ _ result = result ≡ Err Kind

-- What reading a value as a time answers: a number of its style is seconds, and a text is a time.
abbrev pub IsTimeIn : Style → Tree → Result ℕ ValueFault → Type 0
IsTimeIn style tree result = IsTimeAt style (out-Tree tree) result
