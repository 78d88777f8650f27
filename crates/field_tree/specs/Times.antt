-- The time of a text, cut into its parts from the left.
use Rattle.std.specs.Prelude.{ℕ, zero, suc, ℤ, ◌+◌, ◌*◌, ◌&&◌, nat_le, if◌then◌else◌, List, [], ◌∷◌, length, take, drop, Option, Some, None, option_map, Result, Ok, Err}
use Rattle.std.specs.List.{prefix_len}
use Rattle.std.specs.Char.{is_ascii_digit}
use Rattle.std.specs.Str.Parse.{digits_value}
use Rattle.field_tree.specs.declared.fault.ValueFault.{ValueFault}
use Rattle.field_tree.specs.declared.fault.ValueFault.TheVariants.{Kind, Range}
use Rattle.field_tree.specs.declared.values.Style.{Style}
use Rattle.field_tree.specs.declared.values.Style.TheVariants.{Typed, Texts}
use Rattle.field_tree.specs.declared.tree.Tree.{Tree, out-Tree}
use Rattle.field_tree.specs.declared.tree.Tree.TheOpen.{Tree-F}
use Rattle.field_tree.specs.declared.durations.TimeUnit.{TimeUnit}
use Rattle.field_tree.specs.Texts.{number_of}
use Rattle.field_tree.specs.Durations.{unit_text, unit_millis, unit_of, seconds_time}

-- A unit, and the time of what stands after it.
abbrev pub at_unit : ℕ → List ℕ → Option TimeUnit → (List ℕ → Option ℕ) → Option ℕ
at_unit value tail None after = None
at_unit value tail (Some unit) after = option_map (λ left. value * unit_millis unit + left) (after (drop (length (unit_text unit)) tail))

-- Decimals, a unit, and the time of what stands after it.
abbrev pub at_part : ℕ → List ℕ → (List ℕ → Option ℕ) → Option ℕ
at_part digits text after =
    if nat_le 1 digits then at_unit (digits_value 10 (take digits text)) (drop digits text) (unit_of (drop digits text)) after else None

-- The time of at most so many parts, one after another.
abbrev pub parts_time : ℕ → List ℕ → Option ℕ
parts_time most [] = Some 0
parts_time zero (first ∷ rest) = None
parts_time (suc most) (first ∷ rest) = at_part (prefix_len is_ascii_digit (first ∷ rest)) (first ∷ rest) (parts_time most)

abbrev pub within_a_day : Option ℕ → Result ℕ ValueFault
within_a_day None = Err Range
within_a_day (Some millis) = if nat_le 1 millis && nat_le millis 86400000 then Ok millis else Err Range

-- The time of a text, in milliseconds. A text has no more parts than bytes.
abbrev pub time_of : List ℕ → Result ℕ ValueFault
time_of text = within_a_day (parts_time (length text) text)

abbrev pub time_by : Result ℤ ValueFault → List ℕ → Result ℕ ValueFault
time_by (Ok seconds) text = seconds_time seconds
time_by (Err Range) text = Err Range
time_by (Err Kind) text = time_of text

abbrev pub time_at : Style → Tree-F Tree → Result ℕ ValueFault
time_at Typed (Tree-F.Num seconds) = seconds_time seconds
time_at Typed (Tree-F.Text text) = time_of text
time_at Texts (Tree-F.Text text) = time_by (number_of text) text
time_at _ _ = Err Kind

-- The time of a value: a number of its style is seconds, and a text is a time.
abbrev pub time_in : Style → Tree → Result ℕ ValueFault
time_in style tree = time_at style (out-Tree tree)
