-- The print of a rule, with the fewest parentheses.
use Rattle.std.specs.Prelude.{ℕ, Bool, true, false, ◌||◌, ◌==◌, if◌then◌else◌, List, [], ◌∷◌, ◌++◌, codes, flat_map}
use Rattle.std.specs.List.{list_any}
use Rattle.rule_lang.specs.declared.matcher.Matcher.{Matcher}
use Rattle.rule_lang.specs.declared.matcher.Matcher.TheVariants.{Header, HeaderRegexp, Query, QueryRegexp}
use Rattle.rule_lang.specs.declared.print.Level.{Level}
use Rattle.rule_lang.specs.declared.print.Level.TheVariants as level
use Rattle.rule_lang.specs.Matchers.{name_of_matcher}
use Rattle.rule_lang.specs.Trees.{Tree, call, negation, both, either}

-- a byte in double quotes
abbrev pub escaped : ℕ → List ℕ
escaped b = if (b == 34) || (b == 92) then 92 ∷ b ∷ [] else b ∷ []

-- a value stands in backquotes, or in double quotes where it has a backquote
abbrev pub value_print : List ℕ → List ℕ
value_print value =
    if list_any (λ b. b == 96) value
    then 34 ∷ flat_map escaped value ++ 34 ∷ []
    else 96 ∷ value ++ 96 ∷ []

-- two values with a comma between them
abbrev pub pair_print : List ℕ → List ℕ → List ℕ
pair_print key value = value_print key ++ codes ", " ++ value_print value

-- the values of a call: `Query` leaves an empty value out
abbrev pub values_print : Matcher → List ℕ → List ℕ → List ℕ
values_print Header key value = pair_print key value
values_print HeaderRegexp key value = pair_print key value
values_print QueryRegexp key value = pair_print key value
values_print Query key [] = value_print key
values_print Query key (b ∷ value) = pair_print key (b ∷ value)
values_print _ key value = value_print value

-- a call
abbrev pub call_print : Matcher → List ℕ → List ℕ → List ℕ
call_print matcher key value = name_of_matcher matcher ++ codes "(" ++ values_print matcher key value ++ codes ")"

-- a text as it is, or in parentheses
abbrev pub bracketed : Bool → List ℕ → List ℕ
bracketed bare text = (if bare then [] else codes "(") ++ text ++ (if bare then [] else codes ")")

-- `a && b` stands bare alone, beside `||` and to the left of `&&`
abbrev pub and_is_bare : Level → Bool
and_is_bare level.Or = true
and_is_bare level.And = true
and_is_bare level.Unary = false

-- `a || b` stands bare alone and to the left of `||`
abbrev pub or_is_bare : Level → Bool
or_is_bare level.Or = true
or_is_bare level.And = false
or_is_bare level.Unary = false

-- a rule, where an operand of this level may stand
abbrev pub print_at : Level → Tree → List ℕ
print_at at (call matcher key value) = call_print matcher key value
print_at at (negation r) = codes "!" ++ print_at level.Unary r
print_at at (both r s) = bracketed (and_is_bare at) (print_at level.And r ++ codes " && " ++ print_at level.Unary s)
print_at at (either r s) = bracketed (or_is_bare at) (print_at level.Or r ++ codes " || " ++ print_at level.And s)

-- a whole rule
abbrev pub rule_print : Tree → List ℕ
rule_print rule = print_at level.Or rule
