-- How a text spells a time.
use Rattle.std.specs.Prelude.{ℕ, ◌+◌, ◌-◌, ◌*◌, ◌^◌, min, drop, ◌≡◌, ◌<◌, ◌≤◌, ◌==◌, Bool, false, IsTrue, if◌then◌else◌, List, [], ◌∷◌, ◌++◌, length, Option, Some, None, codes, ℤ, pos, negsuc, ◌&&◌, nat_le, Result, Ok, Err}
use Rattle.std.specs.List.{list_all, AllByRecursion, flat_map, sum_by}
use Rattle.std.specs.Char.{is_ascii_digit}
use Rattle.std.specs.Str.Parse.{digits_value}
use Rattle.field_tree.specs.declared.fault.ValueFault.{ValueFault}
use Rattle.field_tree.specs.declared.fault.ValueFault.TheVariants.{Range}
use Rattle.field_tree.specs.declared.durations.TimeUnit.{TimeUnit}
use Rattle.field_tree.specs.declared.durations.TimeUnit.TheVariants.{Milliseconds, Seconds, Minutes, Hours}

abbrev pub unit_text : TimeUnit → List ℕ
unit_text Milliseconds = codes "ms"
unit_text Seconds = codes "s"
unit_text Minutes = codes "m"
unit_text Hours = codes "h"

abbrev pub unit_millis : TimeUnit → ℕ
unit_millis Milliseconds = 1
unit_millis Seconds = 1000
unit_millis Minutes = 60000
unit_millis Hours = 3600000

-- One decimal digit or more.
abbrev pub AreDecimals : List ℕ → Type 0
AreDecimals digits = (0 < length digits) × IsTrue (list_all is_ascii_digit digits)

-- Decimal digits and a unit.
pub record TimePart : Type 0 where
  pub digits : List ℕ
  pub unit : TimeUnit

abbrev pub part_text : TimePart → List ℕ
part_text part = part.digits ++ unit_text part.unit

abbrev pub part_millis : TimePart → ℕ
part_millis part = digits_value 10 part.digits * unit_millis part.unit

-- The text is such parts, one after another, and the time is the sum of theirs.
pub record Spells (text : List ℕ) (millis : ℕ) : Type 0 where
  pub parts : List TimePart
  pub decimals : AllByRecursion (λ part. AreDecimals part.digits) parts
  pub whole : text ≡ flat_map part_text parts
  pub time : millis ≡ sum_by part_millis parts

-- A time that an option may have: 1 millisecond to 24 hours.
abbrev pub IsWithinADay : ℕ → Type 0
IsWithinADay millis = (1 ≤ millis) × (millis ≤ 86400000)

-- What reading a text as a time answers.
abbrev pub IsTimeOf : List ℕ → Result ℕ ValueFault → Type 0
IsTimeOf text (Ok millis) = Spells text millis × IsWithinADay millis
IsTimeOf text (Err fault) = (fault ≡ Range) × ((millis : ℕ) → Spells text millis → ¬ IsWithinADay millis)

-- A number of seconds as a time.
abbrev pub seconds_time : ℤ → Result ℕ ValueFault
seconds_time (pos seconds) = if nat_le 1 seconds && nat_le seconds 86400 then Ok (1000 * seconds) else Err Range
seconds_time (negsuc less) = Err Range

-- The unit that stands first in a text; `ms` is milliseconds, and `m` minutes where no `s` follows.
abbrev pub s_first : List ℕ → Bool
s_first [] = false
s_first (first ∷ rest) = first == 115

abbrev pub unit_of : List ℕ → Option TimeUnit
unit_of [] = None
unit_of (first ∷ rest) =
    if first == 109 then (if s_first rest then Some Milliseconds else Some Minutes)
    else (if first == 115 then Some Seconds else (if first == 104 then Some Hours else None))

-- A part of `len` bytes stands first in the text, and no other does. Its time is `millis`, or more where
-- `millis` is the greatest number of 64 bits.
pub record FirstPart (text : List ℕ) (millis len : ℕ) : Type 0 where
  pub time : ℕ
  pub kept : millis ≡ min time (2 ^ 64 - 1)
  pub within : len ≤ length text
  pub some_ : 0 < len
  pub back : (left : ℕ) → Spells (drop len text) left → Spells text (time + left)
  pub on : (whole : ℕ) → Spells text whole → (left : ℕ) × Spells (drop len text) left × (whole ≡ time + left)
