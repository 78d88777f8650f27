-- What a text spells.
use Rattle.std.specs.Prelude.{ℕ, ℤ, pos, neg_ℤ, ◌^◌, ◌==◌, Bool, true, false, ◌&&◌, nat_le, nat_lt, if◌then◌else◌, List, [], ◌∷◌, length, drop, Option, Some, None, Result, Ok, Err, bytes_eq, codes}
use Rattle.std.specs.List.{list_all}
use Rattle.std.specs.Char.{digit_value}
use Rattle.std.specs.Str.Parse.{digits_value}
use Rattle.field_tree.specs.declared.fault.ValueFault.{ValueFault}
use Rattle.field_tree.specs.declared.fault.ValueFault.TheVariants.{Kind, Range}

-- 1 to 19 decimal digits.
abbrev pub are_digits : List ℕ → Bool
are_digits text = nat_le 1 (length text) && nat_le (length text) 19 && list_all (λ byte. nat_lt (digit_value byte) 10) text

abbrev pub digits_of : List ℕ → Option ℕ
digits_of text = if are_digits text then Some (digits_value 10 text) else None

-- A minus sign stands first.
abbrev pub is_negative : List ℕ → Bool
is_negative [] = false
is_negative (first ∷ rest) = first == 45

abbrev pub unsigned_part : List ℕ → List ℕ
unsigned_part text = if is_negative text then drop 1 text else text

-- The number of this sign and size, where it is one of 64 bits.
abbrev pub signed_number : Bool → Option ℕ → Result ℤ ValueFault
signed_number negative None = Err Kind
signed_number true (Some size) = if nat_le size (2 ^ 63) then Ok (neg_ℤ (pos size)) else Err Range
signed_number false (Some size) = if nat_lt size (2 ^ 63) then Ok (pos size) else Err Range

-- The number that `-` or nothing and then 1 to 19 digits spell.
abbrev pub number_of : List ℕ → Result ℤ ValueFault
number_of text = signed_number (is_negative text) (digits_of (unsigned_part text))

-- The flag that `true` or `false` spells.
abbrev pub flag_of : List ℕ → Result Bool ValueFault
flag_of text = if bytes_eq text (codes "true") then Ok true else (if bytes_eq text (codes "false") then Ok false else Err Kind)
