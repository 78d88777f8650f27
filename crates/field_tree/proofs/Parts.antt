-- A text that spells a time begins with one part, cut in one way.
use Rattle.std.proofs.Common.{◌≡◌, ℕ, suc, ◌+◌, ◌-◌, ◌*◌, ◌^◌, min, ◌<◌, ◌≤◌, ◌==◌, Bool, true, false, cond, if◌then◌else◌, List, [], ◌∷◌, ◌++◌, length, take, drop, get_or, Some, None, refl, sym, ap, ◌∙◌, subst, append_assoc, zero-add, arith}
use Rattle.std.specs.List.{list_all, AllByRecursion, flat_map, sum_by, prefix_len}
use Rattle.std.specs.Char.{is_ascii_digit}
use Rattle.std.specs.Str.Parse.{digits_value}
use Rattle.std.specs.Char.{digit_value}
use Rattle.std.proofs.Math.Dec.{eqb-suc-zero}
use Rattle.std.proofs.lemmas.Int.Digits.{digits_value_more}
use Rattle.std.proofs.lemmas.List.{drop_more}
use Rattle.std.proofs.lemmas.Bool.{eqb-true}
use Rattle.std.proofs.lemmas.Bool.Decides.{nat_tests}
use Rattle.std.proofs.lemmas.List.Sums.{sum_by-cons, prefix_len-le-length}
use Rattle.std.proofs.lemmas.List.{take-append-drop, length-append, length-drop, length-take, drop-drop}
use Rattle.field_tree.specs.declared.durations.TimeUnit.{TimeUnit}
use Rattle.field_tree.specs.declared.durations.TimeUnit.TheVariants.{Milliseconds, Seconds, Minutes, Hours}
use Rattle.field_tree.specs.Durations.{unit_text, unit_millis, AreDecimals, TimePart, part_text, part_millis, Spells, s_first, unit_of, FirstPart, IsWithinADay}
use Rattle.field_tree.proofs.Digits.{and_parts}

abbrev pub count_of : List ℕ → ℕ
count_of text = prefix_len is_ascii_digit text

count-append : (digits tail : List ℕ) → list_all is_ascii_digit digits ≡ true → count_of tail ≡ 0 → count_of (digits ++ tail) ≡ length digits
count-append [] tail all none = none
count-append (d ∷ ds) tail all none =
    let both = and_parts (is_ascii_digit d) (list_all is_ascii_digit ds) all in
    let rest = count-append ds tail both.1 none in
    rw both.0 (omega (arith, rest))

take-exact : (xs ys : List ℕ) → take (length xs) (xs ++ ys) ≡ xs
take-exact [] ys = refl
take-exact (x ∷ xs) ys = ap (λ zs. x ∷ zs) (take-exact xs ys)

drop-exact : (xs ys : List ℕ) → drop (length xs) (xs ++ ys) ≡ ys
drop-exact [] ys = refl
drop-exact (x ∷ xs) ys = drop-exact xs ys

count-unit : (unit : TimeUnit) (rest : List ℕ) → count_of (unit_text unit ++ rest) ≡ 0
count-unit Milliseconds rest = refl
count-unit Seconds rest = refl
count-unit Minutes rest = refl
count-unit Hours rest = refl

digit_not_s : (d : ℕ) → is_ascii_digit d ≡ true → (d == 115) ≡ false
digit_not_s d e = grind (arith, nat_tests)

digits_not_s : (digits tail : List ℕ) → AreDecimals digits → s_first (digits ++ tail) ≡ false
digits_not_s [] tail are = absurd (omega (arith, are.0))
digits_not_s (d ∷ ds) tail are = digit_not_s d (and_parts (is_ascii_digit d) (list_all is_ascii_digit ds) are.1).0

parts_not_s : (parts : List TimePart) → AllByRecursion (λ part. AreDecimals part.digits) parts → s_first (flat_map part_text parts) ≡ false
parts_not_s [] are = refl
parts_not_s (part ∷ parts) are =
    rw (append_assoc part.digits (unit_text part.unit) (flat_map part_text parts))
    (digits_not_s part.digits (unit_text part.unit ++ flat_map part_text parts) are.0)

unit_of-text : (unit : TimeUnit) (rest : List ℕ) → s_first rest ≡ false → unit_of (unit_text unit ++ rest) ≡ Some unit
unit_of-text Milliseconds rest h = refl
unit_of-text Seconds rest h = refl
unit_of-text Minutes rest h = rw h refl
unit_of-text Hours rest h = refl

-- how a text that spells a time is cut
pub record Cut (text : List ℕ) (millis : ℕ) : Type 0 where
  pub unit : TimeUnit
  pub left : ℕ
  pub digits : AreDecimals (take (count_of text) text)
  pub unit_is : unit_of (drop (count_of text) text) ≡ Some unit
  pub rest : Spells (drop (length (unit_text unit)) (drop (count_of text) text)) left
  pub time : millis ≡ digits_value 10 (take (count_of text) text) * unit_millis unit + left

cut_first : (digits rest : List ℕ) (unit : TimeUnit) (left : ℕ) → AreDecimals digits → s_first rest ≡ false → Spells rest left → Cut (digits ++ (unit_text unit ++ rest)) (digits_value 10 digits * unit_millis unit + left)
cut_first digits rest unit left are begins more =
    let tail : List ℕ = unit_text unit ++ rest in
    let count : count_of (digits ++ tail) ≡ length digits = count-append digits tail are.1 (count-unit unit rest) in
    let front : take (count_of (digits ++ tail)) (digits ++ tail) ≡ digits = ap (λ n. take n (digits ++ tail)) count ∙ take-exact digits tail in
    let back : drop (count_of (digits ++ tail)) (digits ++ tail) ≡ tail = ap (λ n. drop n (digits ++ tail)) count ∙ drop-exact digits tail in
    record {
      unit = unit;
      left = left;
      digits = subst AreDecimals (sym front) are;
      unit_is = ap unit_of back ∙ unit_of-text unit rest begins;
      rest = let P : List ℕ → Type 0 = λ t. Spells (drop (length (unit_text unit)) t) left in
          let Q : List ℕ → Type 0 = λ t. Spells t left in
          subst P (sym back) (subst Q (sym (drop-exact (unit_text unit) rest)) more);
      time = ap (λ ds. digits_value 10 ds * unit_millis unit + left) (sym front);
    }

cut_parts : (text : List ℕ) (millis : ℕ) (parts : List TimePart) → AllByRecursion (λ part. AreDecimals part.digits) parts → text ≡ flat_map part_text parts → millis ≡ sum_by part_millis parts → 0 < length text → Cut text millis
cut_parts text millis [] are whole time some_ = absurd (omega (arith, ap length whole, some_))
cut_parts text millis (part ∷ parts) are whole time some_ =
    let rest : List ℕ = flat_map part_text parts in
    let more : Spells rest (sum_by part_millis parts) = record { parts = parts; decimals = are.1; whole = refl; time = refl } in
    let whole' : part.digits ++ (unit_text part.unit ++ rest) ≡ text = sym (whole ∙ append_assoc part.digits (unit_text part.unit) rest) in
    let P : List ℕ → Type 0 = λ t. Cut t millis in
    let Q : ℕ → Type 0 = λ n. Cut (part.digits ++ (unit_text part.unit ++ rest)) n in
    subst P whole' (subst Q (sym (time ∙ sum_by-cons part_millis part parts)) (cut_first part.digits rest part.unit (sum_by part_millis parts) are.0 (parts_not_s parts are.1) more))

pub cut : (text : List ℕ) (millis : ℕ) → Spells text millis → 0 < length text → Cut text millis
cut text millis h some_ = cut_parts text millis h.parts h.decimals h.whole h.time some_

after_m : (rest : List ℕ) (unit : TimeUnit) (s : Bool) → s_first rest ≡ s → (if s then Some Milliseconds else Some Minutes) ≡ Some unit → 109 ∷ rest ≡ unit_text unit ++ drop (length (unit_text unit)) (109 ∷ rest)
after_m [] unit true h e = absurd (cc)
after_m (c ∷ rest) unit true h e =
    let same : Milliseconds ≡ unit = cc in
    let P : TimeUnit → Type 0 = λ u. 109 ∷ c ∷ rest ≡ unit_text u ++ drop (length (unit_text u)) (109 ∷ c ∷ rest) in
    subst P same (ap (λ b. 109 ∷ b ∷ rest) (eqb-true c 115 h))
after_m rest unit false h e =
    let same : Minutes ≡ unit = cc in
    let P : TimeUnit → Type 0 = λ u. 109 ∷ rest ≡ unit_text u ++ drop (length (unit_text u)) (109 ∷ rest) in
    subst P same refl

by_first : (first : ℕ) (rest : List ℕ) (unit : TimeUnit) (m s h : Bool) → (first == 109) ≡ m → (first == 115) ≡ s → (first == 104) ≡ h
    → (if m then (if s_first rest then Some Milliseconds else Some Minutes) else (if s then Some Seconds else (if h then Some Hours else None))) ≡ Some unit
    → first ∷ rest ≡ unit_text unit ++ drop (length (unit_text unit)) (first ∷ rest)
by_first first rest unit true s h em es eh e =
    let P : ℕ → Type 0 = λ b. b ∷ rest ≡ unit_text unit ++ drop (length (unit_text unit)) (b ∷ rest) in
    subst P (sym (eqb-true first 109 em)) (after_m rest unit (s_first rest) refl e)
by_first first rest unit false true h em es eh e =
    let same : Seconds ≡ unit = cc in
    let P : TimeUnit → Type 0 = λ u. first ∷ rest ≡ unit_text u ++ drop (length (unit_text u)) (first ∷ rest) in
    subst P same (ap (λ b. b ∷ rest) (eqb-true first 115 es))
by_first first rest unit false false true em es eh e =
    let same : Hours ≡ unit = cc in
    let P : TimeUnit → Type 0 = λ u. first ∷ rest ≡ unit_text u ++ drop (length (unit_text u)) (first ∷ rest) in
    subst P same (ap (λ b. b ∷ rest) (eqb-true first 104 eh))
by_first first rest unit false false false em es eh e = absurd (cc)

-- the unit that was found stands first
unit_cut : (tail : List ℕ) (unit : TimeUnit) → unit_of tail ≡ Some unit → tail ≡ unit_text unit ++ drop (length (unit_text unit)) tail
unit_cut [] unit e = absurd (cc)
unit_cut (first ∷ rest) unit e = by_first first rest unit (first == 109) (first == 115) (first == 104) refl refl refl e

-- a part before a text that spells a time
pub rejoin : (text : List ℕ) (count : ℕ) (unit : TimeUnit) (left : ℕ) → AreDecimals (take count text) → unit_of (drop count text) ≡ Some unit → Spells (drop (length (unit_text unit)) (drop count text)) left → Spells text (digits_value 10 (take count text) * unit_millis unit + left)
rejoin text count unit left are found more =
    let rest : List ℕ = drop (length (unit_text unit)) (drop count text) in
    let part : TimePart = record { digits = take count text; unit = unit } in
    let front : text ≡ take count text ++ (unit_text unit ++ rest) =
    sym (take-append-drop count text) ∙ ap (λ t. take count text ++ t) (unit_cut (drop count text) unit found) in
    record {
      parts = part ∷ more.parts;
      decimals = (are, more.decimals);
      whole = front ∙ sym (append_assoc (take count text) (unit_text unit) rest) ∙ ap (λ t. (take count text ++ unit_text unit) ++ t) more.whole;
      time = ap (λ n. digits_value 10 (take count text) * unit_millis unit + n) more.time ∙ sym (sum_by-cons part_millis part more.parts);
    }

all-prefix_by : (first : ℕ) (rest : List ℕ) (test : Bool) → is_ascii_digit first ≡ test → list_all is_ascii_digit (take (count_of rest) rest) ≡ true → list_all is_ascii_digit (take (cond test (1 + count_of rest) 0) (first ∷ rest)) ≡ true
all-prefix_by first rest true e h =
    let next : 1 + count_of rest ≡ suc (count_of rest) = omega arith in
    rw next (rw e h)
all-prefix_by first rest false e h = refl

all-prefix : (text : List ℕ) → list_all is_ascii_digit (take (count_of text) text) ≡ true
all-prefix [] = refl
all-prefix (first ∷ rest) = all-prefix_by first rest (is_ascii_digit first) refl (all-prefix rest)

pub digits_first : (text : List ℕ) → 0 < count_of text → AreDecimals (take (count_of text) text)
digits_first text some_ =
    (omega (arith, length-take (count_of text) text, prefix_len-le-length is_ascii_digit text), all-prefix text)

kept_scaled : (value : ℕ) (unit : TimeUnit) → min (min value (2 ^ 64 - 1) * unit_millis unit) (2 ^ 64 - 1) ≡ min (value * unit_millis unit) (2 ^ 64 - 1)
kept_scaled value Milliseconds = omega arith
kept_scaled value Seconds = omega arith
kept_scaled value Minutes = omega arith
kept_scaled value Hours = omega arith

pub unit_some : (unit : TimeUnit) → 0 < length (unit_text unit)
unit_some Milliseconds = omega arith
unit_some Seconds = omega arith
unit_some Minutes = omega arith
unit_some Hours = omega arith

pub first_part_is : (text : List ℕ) (unit : TimeUnit) (millis len : ℕ) → 0 < length text → 0 < count_of text → unit_of (drop (count_of text) text) ≡ Some unit
    → millis ≡ min (min (digits_value 10 (take (count_of text) text)) (2 ^ 64 - 1) * unit_millis unit) (2 ^ 64 - 1) → len ≡ count_of text + length (unit_text unit) → FirstPart text millis len
first_part_is text unit millis len some_ digits found m l =
    let value : ℕ = digits_value 10 (take (count_of text) text) in
    let tail : List ℕ = drop (count_of text) text in
    let beyond : List ℕ = drop (length (unit_text unit)) tail in
    let sizes : length tail ≡ length (unit_text unit) + length beyond =
    ap length (unit_cut tail unit found) ∙ length-append (unit_text unit) beyond in
    let same : drop len text ≡ beyond = ap (λ n. drop n text) l ∙ sym (drop-drop (length (unit_text unit)) (count_of text) text) in
    let P : ℕ → List ℕ → Type 0 = λ left t. Spells t left in
    record {
      time = value * unit_millis unit;
      kept = m ∙ kept_scaled value unit;
      within = omega (arith, l, sizes, length-drop (count_of text) text, unit_some unit);
      some_ = omega (arith, l, digits);
      back = λ left more. rejoin text (count_of text) unit left (digits_first text digits) found (subst (P left) same more);
      on = λ whole h.
          let c : Cut text whole = cut text whole h some_ in
          let is : c.unit ≡ unit = cc (c.unit_is, found) in
          let Q : TimeUnit → Type 0 = λ u. Spells (drop (length (unit_text u)) tail) c.left in
          (c.left, subst (P c.left) (sym same) (subst Q is c.rest), c.time ∙ ap (λ u. value * unit_millis u + c.left) is);
    }

pub no_digits : (text : List ℕ) (millis : ℕ) → 0 < length text → count_of text ≡ 0 → ¬ Spells text millis
no_digits text millis some_ none h =
    let c : Cut text millis = cut text millis h some_ in
    omega (arith, c.digits.0, length-take (count_of text) text, none)

pub no_unit : (text : List ℕ) (millis : ℕ) → 0 < length text → None ≡ unit_of (drop (count_of text) text) → ¬ Spells text millis
no_unit text millis some_ none h =
    let c : Cut text millis = cut text millis h some_ in
    absurd (cc (c.unit_is, none))

-- What is read of a text, and what is left of it.
pub record Left (text : List ℕ) (total : ℕ) (rest : List ℕ) : Type 0 where
  pub time : ℕ
  pub kept : total ≡ min time (2 ^ 64 - 1)
  pub back : (left : ℕ) → Spells rest left → Spells text (time + left)
  pub on : (whole : ℕ) → Spells text whole → (left : ℕ) × Spells rest left × (whole ≡ time + left)

pub left_start : (text : List ℕ) → Left text 0 text
left_start text =
    let P : ℕ → Type 0 = λ n. Spells text n in
    record {
      time = 0;
      kept = omega arith;
      back = λ left h. subst P (sym (zero-add left)) h;
      on = λ whole h. (whole, h, sym (zero-add whole));
    }

pub left_step : (text rest next : List ℕ) (total millis after len : ℕ) → Left text total rest → FirstPart rest millis len → after ≡ min (total + millis) (2 ^ 64 - 1) → next ≡ drop len rest → Left text after next
left_step text rest next total millis after len l p e n =
    let P : ℕ → Type 0 = λ m. Spells text m in
    let Q : (left : ℕ) → List ℕ → Type 0 = λ left t. Spells t left in
    record {
      time = l.time + p.time;
      kept = omega (arith, e, l.kept, p.kept);
      back = λ left h. let same : l.time + (p.time + left) ≡ l.time + p.time + left = omega arith in subst P same (l.back (p.time + left) (p.back left (subst (Q left) n h)));
      on = λ whole h.
          let a = l.on whole h in
          let b = p.on a.0 a.1 in
          let e1 : whole ≡ l.time + a.0 = a.2 in
          let e2 : a.0 ≡ p.time + b.0 = b.2 in
          (b.0, subst (Q b.0) (sym n) b.1, omega (arith, e1, e2));
    }

pub nothing_spells : Spells [] 0
nothing_spells = record { parts = []; decimals = tt; whole = refl; time = refl }

pub nothing_left : (parts : List TimePart) (left : ℕ) → AllByRecursion (λ part. AreDecimals part.digits) parts → [] ≡ flat_map part_text parts → left ≡ sum_by part_millis parts → left ≡ 0
nothing_left [] left are whole time = time
nothing_left (part ∷ parts) left are whole time =
    absurd (omega (arith, ap length whole, length-append (part_text part) (flat_map part_text parts), length-append part.digits (unit_text part.unit), are.0.0))

all_read : (text : List ℕ) (total whole : ℕ) (l : Left text total []) → Spells text whole → whole ≡ l.time
all_read text total whole l h =
    let a = l.on whole h in
    let e1 : whole ≡ l.time + a.0 = a.2 in
    let e2 : a.0 ≡ 0 = nothing_left a.1.parts a.0 a.1.decimals a.1.whole a.1.time in
    omega (arith, e1, e2)

pub time_read : (text rest : List ℕ) (total : ℕ) → Left text total rest → rest ≡ [] → 1 ≤ total → total ≤ 86400000 → Spells text total × IsWithinADay total
time_read text rest total l none low high =
    let P : List ℕ → Type 0 = λ t. Left text total t in
    let all : Left text total [] = subst P none l in
    let same : all.time + 0 ≡ total = omega (arith, all.kept) in
    let Q : ℕ → Type 0 = λ n. Spells text n in
    (subst Q same (all.back 0 nothing_spells), (low, high))

pub time_only : (text rest : List ℕ) (total other : ℕ) → Left text total rest → rest ≡ [] → total ≤ 86400000 → Spells text other → other ≡ total
time_only text rest total other l none high h =
    let P : List ℕ → Type 0 = λ t. Left text total t in
    let all : Left text total [] = subst P none l in
    omega (arith, all.kept, all_read text total other all h)

pub out_of_range : (text rest : List ℕ) (total other : ℕ) → Left text total rest → rest ≡ [] → (1 ≤ total → total ≤ 86400000 → ⊥) → Spells text other → ¬ IsWithinADay other
out_of_range text rest total other l none out h within =
    let P : List ℕ → Type 0 = λ t. Left text total t in
    let all : Left text total [] = subst P none l in
    let same : other ≡ all.time = all_read text total other all h in
    out (omega (arith, all.kept, same, within.0, within.1)) (omega (arith, all.kept, same, within.0, within.1))

pub not_parts : (text rest : List ℕ) (total other : ℕ) → Left text total rest → ((millis : ℕ) → ¬ Spells rest millis) → ¬ Spells text other
not_parts text rest total other l none h = let a = l.on other h in none a.0 a.1

-- one more digit
pub digits_more : (text : List ℕ) (i : ℕ) → i < length text → is_ascii_digit (get_or text i 0) ≡ true → count_of text ≡ i + count_of (drop i text) → count_of text ≡ i + 1 + count_of (drop (i + 1) text)
digits_more text i h digit e =
    let more : count_of (drop i text) ≡ 1 + count_of (drop (i + 1) text) =
    ap count_of (drop_more text i 0 h) ∙ ap (λ b. cond b (1 + count_of (drop (i + 1) text)) 0) digit in
    omega (arith, e, more)

pub value_more : (text : List ℕ) (i value next : ℕ) → i < length text → next ≡ min (value * 10 + digit_value (get_or text i 0)) (2 ^ 64 - 1) → value ≡ min (digits_value 10 (take i text)) (2 ^ 64 - 1) → next ≡ min (digits_value 10 (take (i + 1) text)) (2 ^ 64 - 1)
value_more text i value next h e v = omega (arith, e, v, digits_value_more 10 text i h)

pub nil_when : (text : List ℕ) → (length text == 0) ≡ true → text ≡ []
nil_when [] e = refl
nil_when (x ∷ xs) e = absurd (cc (e, eqb-suc-zero (length xs)))
