-- The order of decimals is that of their numbers.
use Rattle.std.proofs.Common.{◌≡◌, ℕ, zero, suc, ◌+◌, ◌-◌, ◌*◌, ◌<◌, ◌≤◌, ◌==◌, Bool, true, false, if◌then◌else◌, nat_le, inl, inr, List, [], ◌∷◌, length, get_or, refl, sym, ap, ap₂, ◌∙◌, subst, arith, nat_cmp, Ordering, Less, Equal, Greater, IsSortedBy}
use Rattle.std.specs.List.{list_all}
use Rattle.std.specs.Char.{is_ascii_digit, digit_value}
use Rattle.std.specs.Str.Parse.{digits_value, digits_value_after}
use Rattle.std.specs.Ordering.{is_lt, is_eq, ordering_then}
use Rattle.std.specs.Cmp.Lexicographic.{slice_cmp}
use Rattle.std.proofs.lemmas.Bool.{cases_lt}
use Rattle.std.proofs.lemmas.Bool.Decides.{nat_tests}
use Rattle.std.proofs.lemmas.Cmp.{ranked, by_ranked}
use Rattle.std.proofs.lemmas.Map.Text.{is_eq-slice_cmp}
use Rattle.std.proofs.lemmas.Slice.Eq.{bytes_eq-Decides}
use Rattle.field_tree.specs.Keys.{fold_cmp, walk_cmp}
use Rattle.dyn_config.specs.Walk.{Entry, is_decimal, plain, number_cmp}
use Rattle.dyn_config.specs.Orders.{IsLinear}
use Rattle.dyn_config.proofs.Twins.{and_right, walk_total}
use Rattle.dyn_config.proofs.Sorted.{AreUp}

less_n : (a b : ℕ) → a < b → nat_cmp a b ≡ Less
less_n a b l = by_ranked (a < b) (a ≡ b) (b < a) (nat_cmp a b) (ranked a b (nat_cmp a b) refl) (λ e _. e) (λ e h. absurd (omega (arith, h, l))) (λ e h. absurd (omega (arith, h, l)))

equal_n : (a b : ℕ) → a ≡ b → nat_cmp a b ≡ Equal
equal_n a b l = by_ranked (a < b) (a ≡ b) (b < a) (nat_cmp a b) (ranked a b (nat_cmp a b) refl) (λ e h. absurd (omega (arith, h, l))) (λ e _. e) (λ e h. absurd (omega (arith, h, l)))

greater_n : (a b : ℕ) → b < a → nat_cmp a b ≡ Greater
greater_n a b l = by_ranked (a < b) (a ≡ b) (b < a) (nat_cmp a b) (ranked a b (nat_cmp a b) refl) (λ e h. absurd (omega (arith, h, l))) (λ e h. absurd (omega (arith, h, l))) (λ e _. e)

less_equal : Less ≡ Equal → ⊥
less_equal e = cc

less_greater : Less ≡ Greater → ⊥
less_greater e = cc

lt_of_less : (a b : ℕ) → nat_cmp a b ≡ Less → a < b
lt_of_less a b less = by_ranked (a < b) (a ≡ b) (b < a) (nat_cmp a b) (ranked a b (nat_cmp a b) refl) (λ _ l. l) (λ e _. absurd (less_equal (sym less ∙ e))) (λ e _. absurd (less_greater (sym less ∙ e)))

then_equal : (o : Ordering) → ordering_then o Equal ≡ o
then_equal Less = refl
then_equal Equal = refl
then_equal Greater = refl

then_assoc : (a b c : Ordering) → ordering_then a (ordering_then b c) ≡ ordering_then (ordering_then a b) c
then_assoc Less b c = refl
then_assoc Equal b c = refl
then_assoc Greater b c = refl

abbrev AreDigits : List ℕ → Type 0
AreDigits [] = Unit {0}
AreDigits (b ∷ bs) = ((48 ≤ b) × (b ≤ 57)) × AreDigits bs

-- One more digit decides where what stands before it ties.
one_digit : (m n a b x y : ℕ) → 48 ≤ a → a ≤ 57 → 48 ≤ b → b ≤ 57 → x ≡ a - 48 → y ≡ b - 48 → nat_cmp (m * 10 + x) (n * 10 + y) ≡ ordering_then (nat_cmp m n) (nat_cmp a b)
one_digit m n a b x y la ha lb hb ex ey =
    by_ranked (m < n) (m ≡ n) (n < m) (nat_cmp m n) (ranked m n (nat_cmp m n) refl)
    (λ e l. less_n (m * 10 + x) (n * 10 + y) (omega (arith, l, la, ha, lb, hb, ex, ey)) ∙ sym (ap (λ o. ordering_then o (nat_cmp a b)) e))
    (λ e l. by_ranked (a < b) (a ≡ b) (b < a) (nat_cmp a b) (ranked a b (nat_cmp a b) refl)
    (λ f k. less_n (m * 10 + x) (n * 10 + y) (omega (arith, l, k, la, ha, lb, hb, ex, ey)) ∙ sym f ∙ sym (ap (λ o. ordering_then o (nat_cmp a b)) e))
    (λ f k. equal_n (m * 10 + x) (n * 10 + y) (omega (arith, l, k, la, ha, lb, hb, ex, ey)) ∙ sym f ∙ sym (ap (λ o. ordering_then o (nat_cmp a b)) e))
    (λ f k. greater_n (m * 10 + x) (n * 10 + y) (omega (arith, l, k, la, ha, lb, hb, ex, ey)) ∙ sym f ∙ sym (ap (λ o. ordering_then o (nat_cmp a b)) e)))
    (λ e l. greater_n (m * 10 + x) (n * 10 + y) (omega (arith, l, la, ha, lb, hb, ex, ey)) ∙ sym (ap (λ o. ordering_then o (nat_cmp a b)) e))

digit_is : (b : ℕ) → 48 ≤ b → b ≤ 57 → digit_value b ≡ b - 48
digit_is b low high = grind (arith, nat_tests)

-- Of as many digits those with the greater number are the greater by their bytes.
same_length : (xs ys : List ℕ) (m n : ℕ) → AreDigits xs → AreDigits ys → length xs ≡ length ys
    → nat_cmp (digits_value_after 10 m xs) (digits_value_after 10 n ys) ≡ ordering_then (nat_cmp m n) (slice_cmp nat_cmp xs ys)
same_length [] [] m n da db e = sym (then_equal (nat_cmp m n))
same_length [] (b ∷ ys) m n da db e = absurd (omega (arith, e))
same_length (a ∷ xs) [] m n da db e = absurd (omega (arith, e))
same_length (a ∷ xs) (b ∷ ys) m n da db e =
    same_length xs ys (m * 10 + digit_value a) (n * 10 + digit_value b) da.1 db.1 (omega (arith, e))
    ∙ ap (λ o. ordering_then o (slice_cmp nat_cmp xs ys))
    (one_digit m n a b (digit_value a) (digit_value b) da.0.0 da.0.1 db.0.0 db.0.1 (digit_is a da.0.0 da.0.1) (digit_is b db.0.0 db.0.1))
    ∙ sym (then_assoc (nat_cmp m n) (nat_cmp a b) (slice_cmp nat_cmp xs ys))

-- No zero leads.
abbrev Leads : List ℕ → Type 0
Leads [] = Unit {0}
Leads (b ∷ bs) = (b == 48) ≡ false

-- What follows a number above 0 makes a greater one than no more digits.
grown : (xs ys : List ℕ) (n : ℕ) → AreDigits xs → AreDigits ys → 1 ≤ n → length xs ≤ length ys → digits_value_after 10 0 xs < digits_value_after 10 n ys
grown [] [] n dx dy some_ l = omega (arith, some_)
grown (x ∷ xs) [] n dx dy some_ l = absurd (omega (arith, l))
grown xs (y ∷ ys) n dx dy some_ l = elim (cases_lt (length ys) (length xs)) [
  | inl longer ↦
      lt_of_less (digits_value_after 10 0 xs) (digits_value_after 10 n (y ∷ ys))
      (same_length xs (y ∷ ys) 0 n dx dy (omega (arith, longer, l)) ∙ ap (λ o. ordering_then o (slice_cmp nat_cmp xs (y ∷ ys))) (less_n 0 n (omega (arith, some_))))
  | inr no_longer ↦ grown xs ys (n * 10 + digit_value y) dx dy.1 (omega (arith, some_)) no_longer
]

leading : (c : ℕ) → 48 ≤ c → c ≤ 57 → (c == 48) ≡ false → 1 ≤ 0 * 10 + digit_value c
leading c low high apart = let d = digit_is c low high in let more : 48 < c = grind (arith, nat_tests) in omega (arith, d, more)

shorter_less : (xs ys : List ℕ) → AreDigits xs → AreDigits ys → Leads ys → length xs < length ys → digits_value 10 xs < digits_value 10 ys
shorter_less xs [] dx dy lead l = absurd (omega (arith, l))
shorter_less xs (c ∷ cs) dx dy lead l = grown xs cs (0 * 10 + digit_value c) dx dy.1 (leading c dy.0.0 dy.0.1 lead) (omega (arith, l))

by_length : (xs ys : List ℕ) → AreDigits xs → AreDigits ys → Leads xs → Leads ys
    → nat_cmp (digits_value 10 xs) (digits_value 10 ys) ≡ ordering_then (nat_cmp (length xs) (length ys)) (slice_cmp nat_cmp xs ys)
by_length xs ys dx dy lx ly =
    by_ranked (length xs < length ys) (length xs ≡ length ys) (length ys < length xs) (nat_cmp (length xs) (length ys)) (ranked (length xs) (length ys) (nat_cmp (length xs) (length ys)) refl)
    (λ e l. less_n (digits_value 10 xs) (digits_value 10 ys) (shorter_less xs ys dx dy ly l) ∙ sym (ap (λ o. ordering_then o (slice_cmp nat_cmp xs ys)) e))
    (λ e l. same_length xs ys 0 0 dx dy l ∙ sym (ap (λ o. ordering_then o (slice_cmp nat_cmp xs ys)) e))
    (λ e l. greater_n (digits_value 10 xs) (digits_value 10 ys) (shorter_less ys xs dy dx lx l) ∙ sym (ap (λ o. ordering_then o (slice_cmp nat_cmp xs ys)) e))

-- Leading zeros.
plain_value : (bs : List ℕ) → digits_value 10 (plain bs) ≡ digits_value 10 bs
plain_value [] = refl
plain_value (b ∷ bs) = by_test (b == 48) refl (plain_value bs)
  where
    by_test : (t : Bool) → (b == 48) ≡ t → digits_value 10 (plain bs) ≡ digits_value 10 bs → digits_value 10 (if t then plain bs else b ∷ bs) ≡ digits_value 10 (b ∷ bs)
    by_test true t h = let zero_ : b ≡ 48 = grind (arith, nat_tests) in h ∙ ap (λ c. digits_value 10 (c ∷ bs)) (sym zero_)
    by_test false t h = refl

plain_leads : (bs : List ℕ) → Leads (plain bs)
plain_leads [] = tt
plain_leads (b ∷ bs) = by_test (b == 48) refl (plain_leads bs)
  where
    by_test : (t : Bool) → (b == 48) ≡ t → Leads (plain bs) → Leads (if t then plain bs else b ∷ bs)
    by_test true t h = h
    by_test false t h = t

plain_digits : (bs : List ℕ) → AreDigits bs → AreDigits (plain bs)
plain_digits [] h = tt
plain_digits (b ∷ bs) h = by_test (b == 48) (plain_digits bs h.1)
  where
    by_test : (t : Bool) → AreDigits (plain bs) → AreDigits (if t then plain bs else b ∷ bs)
    by_test true later = later
    by_test false later = h

digit_range : (b : ℕ) → is_ascii_digit b ≡ true → (48 ≤ b) × (b ≤ 57)
digit_range b t =
    let low : 48 ≤ b = grind (arith, nat_tests) in
    let high : b ≤ 57 = grind (arith, nat_tests) in
    (low, high)

digits_of_all : (bs : List ℕ) → list_all is_ascii_digit bs ≡ true → AreDigits bs
digits_of_all [] h = tt
digits_of_all (b ∷ bs) h = (digit_range b (Rattle.dyn_config.proofs.Twins.and_left (is_ascii_digit b) (list_all is_ascii_digit bs) h), digits_of_all bs (and_right (is_ascii_digit b) (list_all is_ascii_digit bs) h))

decimal_digits : (key : List ℕ) → is_decimal key ≡ true → AreDigits (plain key)
decimal_digits key h = plain_digits key (digits_of_all key (and_right (nat_le 1 (length key)) (list_all is_ascii_digit key) h))

pub goes_by_number : (a b : List ℕ) → is_decimal a ≡ true → is_decimal b ≡ true
    → number_cmp a b ≡ ordering_then (nat_cmp (digits_value 10 a) (digits_value 10 b)) (slice_cmp nat_cmp a b)
goes_by_number a b da db =
    then_assoc (nat_cmp (length (plain a)) (length (plain b))) (slice_cmp nat_cmp (plain a) (plain b)) (slice_cmp nat_cmp a b)
    ∙ ap (λ o. ordering_then o (slice_cmp nat_cmp a b))
    (sym (by_length (plain a) (plain b) (decimal_digits a da) (decimal_digits b db) (plain_leads a) (plain_leads b)) ∙ ap₂ nat_cmp (plain_value a) (plain_value b))

-- The walk.
second_tied : (a b : Ordering) → ordering_then a b ≡ Equal → b ≡ Equal
second_tied Less b e = absurd (less_equal e)
second_tied Equal b e = e
second_tied Greater b e = cc

pub walk_linear : IsLinear walk_cmp
walk_linear = record {
  either = walk_total.antisymm;
  same = λ a b e. (bytes_eq-Decides a b).0 (sym (is_eq-slice_cmp a b) ∙ ap is_eq (second_tied (fold_cmp a b) (slice_cmp nat_cmp a b) e));
  chain = walk_total.trans;
}

-- Entries of which none is below an earlier one are in order.
pub up_sorted : (es : List Entry) → AreUp es → IsSortedBy (λ (x y : Entry). is_lt (number_cmp x.0 y.0)) es
up_sorted [] up k d low high = absurd (omega (arith, high))
up_sorted (e ∷ []) up k d low high = absurd (omega (arith, high))
up_sorted (e ∷ f ∷ es) up zero d low high = up.0.0
up_sorted (e ∷ f ∷ es) up (suc k) d low high =
    let n : suc (k + 1) ≡ suc k + 1 = omega arith in
    subst (λ m. is_lt (number_cmp (get_or (e ∷ f ∷ es) m d).0 (get_or (f ∷ es) k d).0) ≡ false) n (up_sorted (f ∷ es) up.1 k d (omega arith) (omega (arith, high)))
