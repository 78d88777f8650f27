-- The walk over a tree: what is asked of a value, and the first fault that the walk meets.
use Rattle.std.specs.Prelude.{ℕ, ◌+◌, ◌==◌, Bool, true, false, not, ◌&&◌, if◌then◌else◌, List, [], ◌∷◌, ◌++◌, map, filter, fold, length, nat_le, Option, Some, None, Result, Ok, Err, codes, bytes_eq}
use Rattle.std.specs.List.{flat_map, list_any, list_all}
use Rattle.std.specs.Char.{is_ascii_digit}
use Rattle.std.specs.Str.{str_eq_ignore_ascii_case}
use Rattle.std.specs.Fmt.{decimal}
use Rattle.std.specs.Ordering.{nat_cmp, ordering_then}
use Rattle.std.specs.Cmp.Lexicographic.{slice_cmp}
use Rattle.std.specs.declared.cmp.Ordering.{Ordering}
use Rattle.std.specs.declared.cmp.Ordering.TheVariants.{Less, Equal, Greater}
use Rattle.field_tree.specs.declared.fault.ValueFault.{ValueFault}
use Rattle.field_tree.specs.declared.fault.ValueFault.TheVariants.{Kind, Range}
use Rattle.field_tree.specs.declared.tree.Tree.{Tree}
use Rattle.field_tree.specs.declared.values.Style.{Style}
use Rattle.field_tree.specs.declared.values.Style.TheVariants.{Typed, Texts}
use Rattle.field_tree.specs.Keys.{walk_cmp}
use Rattle.field_tree.specs.Trees.{table_of, list_of}
use Rattle.field_tree.specs.Values.{text_of, is_empty_sign}
use Rattle.dyn_config.specs.Names.{is_name}
use Rattle.dyn_config.specs.Values.{is_field_name, is_field_value}
use Rattle.dyn_config.specs.declared.found.Cause.{Cause}
use Rattle.dyn_config.specs.declared.found.Cause.TheVariants.{Unknown as unknown, Twice as twice, Kind as kind, Missing as missing, Range as range, BadName as bad_name, TooMany as too_many}
use Rattle.dyn_config.specs.declared.found.Fault.{Fault}
use Rattle.dyn_config.specs.declared.found.Found.{Found}

-- A key with its value.
abbrev pub Entry : Type 0
Entry = List ℕ × Tree

-- What is asked of a value: its first fault, where it has one. Paths begin at the value.
abbrev pub Check : Type 0
Check = Style → Tree → Option Fault

-- A fault of the value itself.
abbrev pub here : Cause → Option Fault
here c = Some (record { cause = c; path = [] })

-- A fault of a value as one of what the value stands in.
abbrev pub under : List ℕ → Option Fault → Option Fault
under step None = None
under step (Some fault) = Some (record { cause = fault.cause; path = step ++ fault.path })

abbrev pub key_step : List ℕ → List ℕ
key_step key = 46 ∷ key

abbrev pub place_step : ℕ → List ℕ
place_step place = codes "[" ++ decimal place ++ codes "]"

-- What is met at a key.
abbrev pub Stop : Type 0
Stop = List ℕ × Option Fault

abbrev pub is_less : Ordering → Bool
is_less Less = true
is_less Equal = false
is_less Greater = false

-- The fault at the key that an order visits first, of two.
abbrev pub sooner : (List ℕ → List ℕ → Ordering) → Option Found → Stop → Option Found
sooner order first (key, None) = first
sooner order None (key, Some fault) = Some (record { key = key; fault = fault })
sooner order (Some first) (key, Some fault) =
    if is_less (order key first.key) then Some (record { key = key; fault = fault }) else Some first

-- The fault that is met first, however the stops are listed.
abbrev pub first_of : (List ℕ → List ℕ → Ordering) → List Stop → Option Found
first_of order stops = fold (sooner order) None stops

-- That fault as one of the table.
abbrev pub at_key : Option Found → Option Fault
at_key None = None
at_key (Some first) = under (key_step first.key) (Some first.fault)

-- The fault of the first of these keys in the order of the walk.
abbrev pub by_walk : List Stop → Option Fault
by_walk stops = at_key (first_of walk_cmp stops)

abbrev pub fault_unless : Bool → Option Fault
fault_unless true = None
fault_unless false = here range

-- The fault of a value that is read: one outside the range is `Range`.
abbrev pub fault_in : {A : Type 0} → (A → Bool) → Result A ValueFault → Option Fault
fault_in test (Ok value) = fault_unless (test value)
fault_in test (Err Kind) = here kind
fault_in test (Err Range) = here range

-- Tables ---------------------------------------------------------------------------------------------

-- In style `Texts` an empty text and `true` are the empty table.
abbrev pub is_empty_in : Style → Tree → Bool
is_empty_in Typed tree = false
is_empty_in Texts tree = is_empty_sign tree

-- The entries of a table.
abbrev pub entries_in : Style → Tree → Option (List Entry)
entries_in style tree = if is_empty_in style tree then Some [] else table_of tree

abbrev pub in_entries : (List Entry → Option Fault) → Option (List Entry) → Option Fault
in_entries check None = here kind
in_entries check (Some entries) = check entries

-- An option of a table: its key, whether it is required, and what is asked of its value.
pub record Row : Type 0 where
  pub key : List ℕ
  pub required : Bool
  pub check : Check

abbrev pub required : List ℕ → Check → Row
required k c = record { key = k; required = true; check = c }

abbrev pub optional : List ℕ → Check → Row
optional k c = record { key = k; required = false; check = c }

abbrev pub same_key : List ℕ → List ℕ → Bool
same_key a b = str_eq_ignore_ascii_case a b

-- The entries under a key, without case.
abbrev pub under_key : List ℕ → List Entry → List Entry
under_key key entries = filter (λ entry. same_key key entry.0) entries

-- An option is absent, or its value is checked, and a second key of that name is one too many.
abbrev pub stops_in : Style → Row → List Entry → List Stop
stops_in style row [] = if row.required then (row.key, here missing) ∷ [] else []
stops_in style row (entry ∷ []) = (entry.0, row.check style entry.1) ∷ []
stops_in style row (entry ∷ second ∷ others) = (entry.0, row.check style entry.1) ∷ (second.0, here twice) ∷ []

abbrev pub row_stops : Style → List Entry → Row → List Stop
row_stops style entries row = stops_in style row (under_key row.key entries)

abbrev pub is_known : List Row → List ℕ → Bool
is_known rows key = list_any (λ row. same_key row.key key) rows

-- A table of options: each option as its row says, and no other key.
abbrev pub unknown_fault : List Row → List ℕ → Option Fault
unknown_fault rows key = if is_known rows key then None else here unknown

abbrev pub unknown_stop : List Row → Entry → Stop
unknown_stop rows entry = (entry.0, unknown_fault rows entry.0)

abbrev pub options_fault : List Row → Style → List Entry → Option Fault
options_fault rows style entries = by_walk (flat_map (row_stops style entries) rows ++ map (unknown_stop rows) entries)

abbrev pub table : List Row → Check
table rows style tree = in_entries (options_fault rows style) (entries_in style tree)

-- Two texts of which the first is the lesser by its bytes, and that are equal by `same`.
abbrev pub is_twin : (List ℕ → List ℕ → Bool) → List ℕ → List ℕ → Bool
is_twin same lesser key = same lesser key && is_less (slice_cmp nat_cmp lesser key)

abbrev pub has_twin : (List ℕ → List ℕ → Bool) → List Entry → List ℕ → Bool
has_twin same entries key = list_any (λ other. is_twin same other.0 key) entries

-- A table of options that takes other keys too, each once.
abbrev pub other_fault : List Row → List Entry → List ℕ → Option Fault
other_fault rows entries key =
    if not (is_known rows key) && has_twin same_key entries key then here twice else None

abbrev pub other_stop : List Row → List Entry → Entry → Stop
other_stop rows entries entry = (entry.0, other_fault rows entries entry.0)

abbrev pub open_fault : List Row → Style → List Entry → Option Fault
open_fault rows style entries = by_walk (flat_map (row_stops style entries) rows ++ map (other_stop rows entries) entries)

abbrev pub open_table : List Row → Check
open_table rows style tree = in_entries (open_fault rows style) (entries_in style tree)

-- A table of any content.
abbrev pub any_table : Check
any_table style tree = in_entries (λ entries. None) (entries_in style tree)

-- Declared names, at most so many.
abbrev pub name_stop : Check → Style → Entry → Stop
name_stop check style entry = (entry.0, if is_name entry.0 then check style entry.1 else here bad_name)

abbrev pub names_fault : ℕ → Check → Style → List Entry → Option Fault
names_fault limit check style entries =
    if nat_le (length entries) limit then by_walk (map (name_stop check style) entries) else here too_many

abbrev pub names : ℕ → Check → Check
names limit check style tree = in_entries (names_fault limit check style) (entries_in style tree)

-- What a table's rows ask of the value under a key; of one without a row, nothing.
abbrev pub named_check : List Row → List ℕ → Check
named_check [] key style tree = None
named_check (row ∷ rows) key style tree =
    if same_key row.key key then row.check style tree else named_check rows key style tree

-- The key that the walk visits first.
abbrev pub lesser_key : List ℕ → Entry → List ℕ
lesser_key key entry = if is_less (walk_cmp entry.0 key) then entry.0 else key

abbrev pub least_key : List Entry → List ℕ
least_key [] = []
least_key (entry ∷ entries) = fold lesser_key entry.0 entries

-- A table of one entry, which is of one of these kinds or of an unknown one.
abbrev pub kind_stop : List Row → Style → List ℕ → Entry → Stop
kind_stop rows style first entry =
    (entry.0, if bytes_eq entry.0 first then named_check rows entry.0 style entry.1 else here twice)

abbrev pub kinds_fault : List Row → Style → List Entry → Option Fault
kinds_fault rows style [] = here missing
kinds_fault rows style (entry ∷ entries) =
    by_walk (map (kind_stop rows style (least_key (entry ∷ entries))) (entry ∷ entries))

abbrev pub one_of : List Row → Check
one_of rows style tree = in_entries (kinds_fault rows style) (entries_in style tree)

-- Names and values of field lines.
abbrev pub line_fault : Entry → Option Fault
line_fault entry = if is_field_name entry.0 then fault_in is_field_value (text_of entry.1) else here range

abbrev pub line_stop_fault : List Entry → Entry → Option Fault
line_stop_fault entries entry = if has_twin same_key entries entry.0 then here twice else line_fault entry

abbrev pub line_stop : List Entry → Entry → Stop
line_stop entries entry = (entry.0, line_stop_fault entries entry)

abbrev pub lines_fault : List Entry → Option Fault
lines_fault entries = by_walk (map (line_stop entries) entries)

abbrev pub lines : Check
lines style tree = in_entries lines_fault (entries_in style tree)

-- Lists ----------------------------------------------------------------------------------------------

abbrev pub or_else : Option Fault → Option Fault → Option Fault
or_else None other = other
or_else (Some fault) other = Some fault

-- The first value that has a fault, the places counting from `place` on.
abbrev pub first_place : Check → Style → ℕ → List Tree → Option Fault
first_place check style place [] = None
first_place check style place (value ∷ values) =
    or_else (under (place_step place) (check style value)) (first_place check style (place + 1) values)

abbrev pub in_values : (List Tree → Option Fault) → Option (List Tree) → Option Fault
in_values check None = here kind
in_values check (Some values) = check values

abbrev pub is_decimal : List ℕ → Bool
is_decimal key = nat_le 1 (length key) && list_all is_ascii_digit key

-- A decimal without its leading zeros.
abbrev pub plain : List ℕ → List ℕ
plain [] = []
plain (byte ∷ bytes) = if byte == 48 then plain bytes else byte ∷ bytes

abbrev pub same_number : List ℕ → List ℕ → Bool
same_number a b = bytes_eq (plain a) (plain b)

-- By number: without leading zeros the longer decimal is the greater, and of one length that with the greater
-- digit first. Equal numbers by the bytes of their keys.
abbrev pub number_cmp : List ℕ → List ℕ → Ordering
number_cmp a b = ordering_then (nat_cmp (length (plain a)) (length (plain b)))
    (ordering_then (slice_cmp nat_cmp (plain a) (plain b)) (slice_cmp nat_cmp a b))

-- In style `Texts` the values of a list stand under decimals, each number once.
abbrev pub number_stop : Check → List Entry → Entry → Stop
number_stop check entries entry = (entry.0, if has_twin same_number entries entry.0 then here twice else check Texts entry.1)

abbrev pub numbered : Check → List Entry → Option Fault
numbered check entries =
    if list_all (λ entry. is_decimal entry.0) entries
    then at_key (first_of number_cmp (map (number_stop check entries) entries))
    else here kind

abbrev pub list : Check → Check
list check Typed tree = in_values (first_place check Typed 0) (list_of tree)
list check Texts tree = in_entries (numbered check) (entries_in Texts tree)
