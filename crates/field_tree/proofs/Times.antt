-- The time of a text as a function is the time that the text spells.
use Rattle.std.proofs.Common.{◌≡◌, ℕ, zero, suc, ◌+◌, ◌*◌, ◌<◌, ◌≤◌, ◌&&◌, nat_le, Bool, true, false, if◌then◌else◌, List, [], ◌∷◌, length, take, drop, Option, Some, None, Result, Ok, Err, ℤ, refl, sym, ap, ◌∙◌, subst, arith}
use Rattle.std.specs.Option.{option_map}
use Rattle.std.specs.Str.Parse.{digits_value}
use Rattle.std.proofs.lemmas.Bool.Decides.{nat_tests}
use Rattle.std.proofs.lemmas.List.{length-drop, length-take}
use Rattle.field_tree.specs.declared.fault.ValueFault.{ValueFault}
use Rattle.field_tree.specs.declared.fault.ValueFault.TheVariants.{Kind, Range}
use Rattle.field_tree.specs.declared.values.Style.{Style}
use Rattle.field_tree.specs.declared.values.Style.TheVariants.{Typed, Texts}
use Rattle.field_tree.specs.declared.tree.Tree.{Tree, out-Tree}
use Rattle.field_tree.specs.declared.tree.Tree.TheOpen.{Tree-F}
use Rattle.field_tree.specs.declared.durations.TimeUnit.{TimeUnit}
use Rattle.field_tree.specs.Texts.{number_of}
use Rattle.field_tree.specs.Durations.{unit_text, unit_millis, unit_of, Spells, IsTimeOf, IsWithinADay}
use Rattle.field_tree.specs.Values.{IsTimeBy, IsTimeAt, IsTimeIn}
use Rattle.field_tree.specs.Times.{at_unit, parts_time, within_a_day, time_of, time_by, time_at, time_in}
use Rattle.field_tree.proofs.Parts.{count_of, Cut, cut, rejoin, digits_first, nothing_spells, nothing_left}

some_test : (n : ℕ) → 1 ≤ n → nat_le 1 n ≡ true
some_test n h = grind (arith, nat_tests)

some_is : (n : ℕ) → nat_le 1 n ≡ true → 0 < n
some_is n h = grind (arith, nat_tests)

-- what the text spells is read
reads : (most : ℕ) (text : List ℕ) (millis : ℕ) → length text ≤ most → Spells text millis → parts_time most text ≡ Some millis
reads most [] millis le h = ap (λ n. Some n) (sym (nothing_left h.parts millis h.decimals h.whole h.time))
reads zero (c ∷ cs) millis le h = absurd (omega (arith, le))
reads (suc most) (c ∷ cs) millis le h =
    let text : List ℕ = c ∷ cs in
    let k : Cut text millis = cut text millis h (omega arith) in
    let digits : 0 < length (take (count_of text) text) = k.digits.0 in
    let some_ : 1 ≤ count_of text = omega (arith, digits, length-take (count_of text) text) in
    let tail : List ℕ = drop (length (unit_text k.unit)) (drop (count_of text) text) in
    let shorter : length tail ≤ most = omega (arith, le, some_, length-drop (length (unit_text k.unit)) (drop (count_of text) text), length-drop (count_of text) text) in
    let left : parts_time most tail ≡ Some k.left = reads most tail k.left shorter k.rest in
    ap (λ b. if b then at_unit (digits_value 10 (take (count_of text) text)) (drop (count_of text) text) (unit_of (drop (count_of text) text)) (parts_time most) else None) (some_test (count_of text) some_)
    ∙ ap (λ u. at_unit (digits_value 10 (take (count_of text) text)) (drop (count_of text) text) u (parts_time most)) k.unit_is
    ∙ ap (option_map (λ left. digits_value 10 (take (count_of text) text) * unit_millis k.unit + left)) left
    ∙ ap (λ n. Some n) (sym k.time)

mapped : (o : Option ℕ) (f : ℕ → ℕ) (m : ℕ) → option_map f o ≡ Some m → (left : ℕ) × (o ≡ Some left) × (f left ≡ m)
mapped None f m e = absurd (cc)
mapped (Some left) f m e = (left, refl, cc)

record Part (text : List ℕ) (count millis : ℕ) (after : List ℕ → Option ℕ) : Type 0 where
  unit : TimeUnit
  left : ℕ
  some_ : nat_le 1 count ≡ true
  unit_is : unit_of (drop count text) ≡ Some unit
  rest : after (drop (length (unit_text unit)) (drop count text)) ≡ Some left
  time : digits_value 10 (take count text) * unit_millis unit + left ≡ millis

part_of : (text : List ℕ) (count millis : ℕ) (after : List ℕ → Option ℕ) (some_ : Bool) (u : Option TimeUnit) → nat_le 1 count ≡ some_ → unit_of (drop count text) ≡ u
    → (if some_ then at_unit (digits_value 10 (take count text)) (drop count text) u after else None) ≡ Some millis → Part text count millis after
part_of text count millis after false u t f e = absurd (cc)
part_of text count millis after true None t f e = absurd (cc)
part_of text count millis after true (Some unit) t f e =
    let m = mapped (after (drop (length (unit_text unit)) (drop count text))) (λ left. digits_value 10 (take count text) * unit_millis unit + left) millis e in
    record { unit = unit; left = m.0; some_ = t; unit_is = f; rest = m.1; time = m.2 }

-- what is read is spelled
spells : (most : ℕ) (text : List ℕ) (millis : ℕ) → parts_time most text ≡ Some millis → Spells text millis
spells most [] millis e =
    let P : ℕ → Type 0 = λ n. Spells [] n in
    let z : 0 ≡ millis = cc in subst P z nothing_spells
spells zero (c ∷ cs) millis e = absurd (cc)
spells (suc most) (c ∷ cs) millis e =
    let text : List ℕ = c ∷ cs in
    let p : Part text (count_of text) millis (parts_time most) = part_of text (count_of text) millis (parts_time most) (nat_le 1 (count_of text)) (unit_of (drop (count_of text) text)) refl refl e in
    let more = spells most (drop (length (unit_text p.unit)) (drop (count_of text) text)) p.left p.rest in
    let P : ℕ → Type 0 = λ n. Spells text n in
    subst P p.time (rejoin text (count_of text) p.unit p.left (digits_first text (some_is (count_of text) p.some_)) p.unit_is more)

within_test : (m : ℕ) → 1 ≤ m → m ≤ 86400000 → (nat_le 1 m && nat_le m 86400000) ≡ true
within_test m a b = grind (arith, nat_tests)

within_is : (m : ℕ) → (nat_le 1 m && nat_le m 86400000) ≡ true → IsWithinADay m
within_is m h = (grind (arith, nat_tests), grind (arith, nat_tests))

refused : (text : List ℕ) (o : Option ℕ) → parts_time (length text) text ≡ o → ((millis : ℕ) → Spells text millis → ¬ IsWithinADay millis) → within_a_day o ≡ Err Range
refused text None e h = refl
refused text (Some m) e h = by_test (nat_le 1 m && nat_le m 86400000) refl
  where
    by_test : (b : Bool) → (nat_le 1 m && nat_le m 86400000) ≡ b → (if b then Ok m else Err Range) ≡ Err Range
    by_test false t = refl
    by_test true t = absurd (h m (spells (length text) text m e) (within_is m t))

text_time : (text : List ℕ) (r : Result ℕ ValueFault) → IsTimeOf text r → r ≡ time_of text
text_time text (Ok millis) h =
    sym (ap within_a_day (reads (length text) text millis (omega arith) h.0) ∙ ap (λ b. if b then Ok millis else Err Range) (within_test millis h.1.0 h.1.1))
text_time text (Err fault) h = ap (λ f. Err f) h.0 ∙ sym (refused text (parts_time (length text) text) refl h.1)

time_is_by : (n : Result ℤ ValueFault) (text : List ℕ) (r : Result ℕ ValueFault) → IsTimeBy n text r → r ≡ time_by n text
time_is_by (Ok seconds) text r h = h
time_is_by (Err Range) text r h = h
time_is_by (Err Kind) text r h = text_time text r h

time_is_at : (style : Style) (t : Tree-F Tree) (r : Result ℕ ValueFault) → IsTimeAt style t r → r ≡ time_at style t
time_is_at Typed (Tree-F.Text text) r h = text_time text r h
time_is_at Typed (Tree-F.Num n) r h = h
time_is_at Typed (Tree-F.Flag b) r h = h
time_is_at Typed Tree-F.Other r h = h
time_is_at Typed (Tree-F.List ts) r h = h
time_is_at Typed (Tree-F.Table fs) r h = h
time_is_at Texts (Tree-F.Text text) r h = time_is_by (number_of text) text r h
time_is_at Texts (Tree-F.Num n) r h = h
time_is_at Texts (Tree-F.Flag b) r h = h
time_is_at Texts Tree-F.Other r h = h
time_is_at Texts (Tree-F.List ts) r h = h
time_is_at Texts (Tree-F.Table fs) r h = h

pub time_is : (style : Style) (tree : Tree) (r : Result ℕ ValueFault) → IsTimeIn style tree r → r ≡ time_in style tree
time_is style tree r h = time_is_at style (out-Tree tree) r h
