-- Entries of which the keys differ have one order by their numbers.
use Rattle.std.proofs.Common.{◌≡◌, ℕ, suc, ◌+◌, Bool, true, false, if◌then◌else◌, inl, inr, ◌⊎◌, List, [], ◌∷◌, ◌++◌, map, length, get_or, fold, refl, sym, ap, ap₂, ◌∙◌, subst, arith, nat_cmp, Ordering, Less, Equal, Greater, IsPermutation}
use Rattle.std.specs.List.{AllByRecursion, IsDistinct}
use Rattle.std.specs.List.Sorted.{IsStrictlySortedBy}
use Rattle.std.specs.Map.{keys_of}
use Rattle.std.specs.Ordering.{is_lt, is_eq, eq_by_cmp, ordering_then, ordering_reverse}
use Rattle.std.specs.Cmp.{IsStrictWeakOrder}
use Rattle.std.specs.Cmp.Lexicographic.{slice_cmp}
use Rattle.std.proofs.lemmas.Bool.{false≢true}
use Rattle.std.proofs.lemmas.Cmp.{tied_itself, eq_by_cmp_equiv}
use Rattle.std.proofs.lemmas.List.{length-map, get_or-map, append-nil, append_assoc}
use Rattle.std.proofs.lemmas.List.Elements.{All-from_recursion, recursion_from_All}
use Rattle.std.proofs.lemmas.List.Sorted.{ranks_by, IsPermutation-refl, IsPermutation-sym, IsPermutation-trans, IsPermutation-cons, IsPermutation-middle, IsPermutation-append_left, IsPermutation-map, All-permutation}
use Rattle.std.proofs.lemmas.Map.Keys.{IsDistinct-from_sorted, IsDistinct-IsPermutation, sorted_head, sorted_tail}
use Rattle.field_tree.specs.Table.{KeysRise}
use Rattle.dyn_config.specs.Walk.{Entry, is_less, plain, number_cmp}
use Rattle.dyn_config.specs.Readings.{with_number, by_number}
use Rattle.dyn_config.specs.Ordered.{entry_view, AreInOrder}
use Rattle.dyn_config.specs.declared.ordered.EntryRef.{EntryRef}
use Rattle.dyn_config.specs.declared.found.Order.TheVariants.{Number}
use Rattle.dyn_config.proofs.Twins.{number_total}

abbrev Key : Type 0
Key = List ℕ

same_test : (o : Ordering) → is_lt o ≡ is_less o
same_test Less = refl
same_test Equal = refl
same_test Greater = refl

-- The entries are permuted.
with_moved : (es : List Entry) (new : Entry) → IsPermutation (new ∷ es) (with_number es new)
with_moved [] new = IsPermutation-refl (new ∷ [])
with_moved (e ∷ es) new = by_test (is_less (number_cmp new.0 e.0)) (with_moved es new)
  where
    by_test : (b : Bool) → IsPermutation (new ∷ es) (with_number es new) → IsPermutation (new ∷ e ∷ es) (if b then new ∷ e ∷ es else e ∷ with_number es new)
    by_test true moved = IsPermutation-refl (new ∷ e ∷ es)
    by_test false moved =
        IsPermutation-trans (new ∷ e ∷ es) (e ∷ new ∷ es) (e ∷ with_number es new) (IsPermutation-sym (e ∷ new ∷ es) (new ∷ e ∷ es) (IsPermutation-middle (e ∷ []) new es))
        (IsPermutation-cons e (new ∷ es) (with_number es new) moved)

pub fold_moved : (es done : List Entry) → IsPermutation (done ++ es) (fold with_number done es)
fold_moved [] done = subst (λ l. IsPermutation l done) (sym (append-nil done)) (IsPermutation-refl done)
fold_moved (e ∷ es) done =
    IsPermutation-trans (done ++ e ∷ es) (with_number done e ++ es) (fold with_number (with_number done e) es)
    (IsPermutation-trans (done ++ e ∷ es) ((e ∷ done) ++ es) (with_number done e ++ es) (IsPermutation-middle done e es) (IsPermutation-append_left es (e ∷ done) (with_number done e) (with_moved done e)))
    (fold_moved es (with_number done e))

all_more : {X : Type 0} {P Q : X → Type 0} (more : (x : X) → P x → Q x) (xs : List X) → AllByRecursion P xs → AllByRecursion Q xs
all_more more [] h = tt
all_more more (x ∷ xs) h = (more x h.0, all_more more xs h.1)

-- The second is not below the first.
abbrev pub IsUp : Entry → Entry → Type 0
IsUp e f = is_lt (number_cmp f.0 e.0) ≡ false

-- Nor is any later entry below an earlier one.
abbrev pub AreUp : List Entry → Type 0
AreUp [] = Unit {0}
AreUp (e ∷ es) = AllByRecursion (IsUp e) es × AreUp es

weak : IsStrictWeakOrder (λ (e f : Entry). is_lt (number_cmp e.0 f.0))
weak = ranks_by number_total (λ (e : Entry). e.0)

with_all : (P : Entry → Type 0) (es : List Entry) (new : Entry) → P new → AllByRecursion P es → AllByRecursion P (with_number es new)
with_all P [] new n h = (n, tt)
with_all P (e ∷ es) new n h = by_test (is_less (number_cmp new.0 e.0)) (with_all P es new n h.1)
  where
    by_test : (b : Bool) → AllByRecursion P (with_number es new) → AllByRecursion P (if b then new ∷ e ∷ es else e ∷ with_number es new)
    by_test true later = (n, h)
    by_test false later = (h.0, later)

with_up : (es : List Entry) (new : Entry) → AreUp es → AreUp (with_number es new)
with_up [] new up = (tt, tt)
with_up (e ∷ es) new up = by_test (is_less (number_cmp new.0 e.0)) refl (with_up es new up.1)
  where
    by_test : (b : Bool) → is_less (number_cmp new.0 e.0) ≡ b → AreUp (with_number es new) → AreUp (if b then new ∷ e ∷ es else e ∷ with_number es new)
    by_test true t later =
        let w = weak in
        let after : IsUp new e = w.one_way new e (same_test (number_cmp new.0 e.0) ∙ t) in
        ((after, all_more (λ f above. w.chain f e new above after) es up.0), up)
    by_test false t later = (with_all (IsUp e) es new (same_test (number_cmp new.0 e.0) ∙ t) up.0, later)

pub fold_up : (es done : List Entry) → AreUp done → AreUp (fold with_number done es)
fold_up [] done up = up
fold_up (e ∷ es) done up = fold_up es (with_number done e) (with_up done e up)

-- Keys of which no two are equal rise.
abbrev Strict : List Entry → Type 0
Strict es = IsStrictlySortedBy number_cmp (keys_of es)

by_order : (o : Ordering) (a b : Key) → number_cmp a b ≡ o → is_lt (number_cmp b a) ≡ false → eq_by_cmp number_cmp a b ≡ false → number_cmp a b ≡ Less
by_order Less a b e up apart = e
by_order Equal a b e up apart = absurd (false≢true (sym apart ∙ ap is_eq e))
by_order Greater a b e up apart = absurd (false≢true (sym up ∙ ap is_lt (number_total.antisymm b a) ∙ ap (λ o. is_lt (ordering_reverse o)) e))

rises_all : (e : Entry) (es : List Entry) → AllByRecursion (IsUp e) es → AllByRecursion (λ k. eq_by_cmp number_cmp e.0 k ≡ false) (keys_of es) → AllByRecursion (λ k. number_cmp e.0 k ≡ Less) (keys_of es)
rises_all e [] up apart = tt
rises_all e (f ∷ es) up apart = (by_order (number_cmp e.0 f.0) e.0 f.0 refl up.0 apart.0, rises_all e es up.1 apart.1)

up_strict : (es : List Entry) → AreUp es → IsDistinct (eq_by_cmp number_cmp) (keys_of es) → Strict es
unfolding IsDistinct IsStrictlySortedBy
up_strict [] up apart = tt
up_strict (e ∷ es) up apart = (rises_all e es up.0 apart.0, up_strict es up.1 apart.1)

-- A key that differs by its bytes isn't equal.
not_eq_then : (a b : Ordering) → is_eq b ≡ false → is_eq (ordering_then a b) ≡ false
not_eq_then Less b f = refl
not_eq_then Equal b f = f
not_eq_then Greater b f = refl

apart_more : (ks : List Key) → IsDistinct (eq_by_cmp (slice_cmp nat_cmp)) ks → IsDistinct (eq_by_cmp number_cmp) ks
unfolding IsDistinct
apart_more [] h = tt
apart_more (k ∷ ks) h =
    (all_more (λ j f. not_eq_then (nat_cmp (length (plain k)) (length (plain j))) (ordering_then (slice_cmp nat_cmp (plain k) (plain j)) (slice_cmp nat_cmp k j)) (not_eq_then (slice_cmp nat_cmp (plain k) (plain j)) (slice_cmp nat_cmp k j) f)) ks h.0, apart_more ks h.1)

keys_apart : (entries moved : List Entry) → KeysRise entries → IsPermutation entries moved → IsDistinct (eq_by_cmp number_cmp) (keys_of moved)
keys_apart entries moved rise m =
    IsDistinct-IsPermutation (eq_by_cmp number_cmp) (eq_by_cmp_equiv number_total).symm (keys_of entries) (keys_of moved) (IsPermutation-map (λ (e : Entry). e.0) entries moved m)
    (apart_more (keys_of entries) (IsDistinct-from_sorted (slice_cmp nat_cmp) (keys_of entries) rise))

-- An entry among others.
abbrev Has : Entry → List Entry → Type 0
Has x [] = ⊥
Has x (y ∷ ys) = (x ≡ y) ⊎ Has x ys

has_itself : (ys : List Entry) → AllByRecursion (λ z. Has z ys) ys
has_itself [] = tt
has_itself (y ∷ ys) = (inl refl, all_more (λ z h. inr h) ys (has_itself ys))

pick : (P : Entry → Type 0) (xs : List Entry) → AllByRecursion P xs → (z : Entry) → Has z xs → P z
pick P [] h z has = elim has [ ]
pick P (x ∷ xs) h z (inl s) = subst P (sym s) h.0
pick P (x ∷ xs) h z (inr more) = pick P xs h.1 z more

has_moved : (xs ys : List Entry) → IsPermutation xs ys → (z : Entry) → Has z xs → Has z ys
has_moved xs ys moved =
    pick (λ z. Has z ys) xs (recursion_from_All (λ z. Has z ys) xs (All-permutation (λ z. Has z ys) ys xs (IsPermutation-sym xs ys moved) (All-from_recursion (λ z. Has z ys) ys (has_itself ys))))

below : (x : Entry) (es : List Entry) → AllByRecursion (λ k. number_cmp x.0 k ≡ Less) (keys_of es) → (z : Entry) → Has z es → number_cmp x.0 z.0 ≡ Less
below x [] h z has = elim has [ ]
below x (e ∷ es) h z (inl s) = ap (λ (w : Entry). number_cmp x.0 w.0) s ∙ h.0
below x (e ∷ es) h z (inr more) = below x es h.1 z more

equal_less : Equal ≡ Less → ⊥
equal_less e = cc

not_itself : (k : Key) → number_cmp k k ≡ Less → ⊥
not_itself k e = equal_less (sym (tied_itself number_total k) ∙ e)

unique : (xs ys : List Entry) → Strict xs → Strict ys → ((z : Entry) → Has z xs → Has z ys) → ((z : Entry) → Has z ys → Has z xs) → xs ≡ ys
unique [] [] sx sy to back = refl
unique [] (y ∷ ys) sx sy to back = absurd (back y (inl refl))
unique (x ∷ xs) [] sx sy to back = absurd (to x (inl refl))
unique (x ∷ xs) (y ∷ ys) sx sy to back =
    let above_x = sorted_head number_cmp x.0 (keys_of xs) sx in
    let above_y = sorted_head number_cmp y.0 (keys_of ys) sy in
    let first : x ≡ y = elim (to x (inl refl)) [
      | inl s ↦ s
      | inr later ↦ elim (back y (inl refl)) [
        | inl s ↦ sym s
        | inr other ↦ absurd (not_itself x.0 (number_total.trans x.0 y.0 x.0 (below x xs above_x y other) (below y ys above_y x later)))
      ]
    ] in
    let on : (z : Entry) → Has z xs → Has z ys = λ z h. elim (to z (inr h)) [
      | inl s ↦ absurd (not_itself x.0 (ap (λ (w : Entry). number_cmp x.0 w.0) (first ∙ sym s) ∙ below x xs above_x z h))
      | inr more ↦ more
    ] in
    let off : (z : Entry) → Has z ys → Has z xs = λ z h. elim (back z (inr h)) [
      | inl s ↦ absurd (not_itself y.0 (ap (λ (w : Entry). number_cmp y.0 w.0) (sym first ∙ sym s) ∙ below y ys above_y z h))
      | inr more ↦ more
    ] in
    ap₂ (λ a l. a ∷ l) first (unique xs ys (sorted_tail number_cmp x.0 (keys_of xs) sx) (sorted_tail number_cmp y.0 (keys_of ys) sy) on off)

-- What a sort ensures, of the entries that the references lead to.
all_up : (x : EntryRef) (xs : List EntryRef) → AllByRecursion (λ (y : EntryRef). is_lt (number_cmp y.key.now x.key.now) ≡ false) xs → AllByRecursion (IsUp (entry_view x)) (map entry_view xs)
all_up x [] h = tt
all_up x (y ∷ ys) h = (h.0, all_up x ys h.1)

sorted_up : (xs : List EntryRef) → AreInOrder Number xs → AreUp (map entry_view xs)
sorted_up [] up = tt
sorted_up (x ∷ xs) up =
    let lt = λ (a b : EntryRef). is_lt (number_cmp a.key.now b.key.now) in
    let far = Rattle.std.proofs.lemmas.List.Sorted.sorted_far lt (ranks_by number_total (λ (e : EntryRef). e.key.now)) (x ∷ xs) up in (
      all_up x xs (recursion_from_All (λ y. lt y x ≡ false) xs (λ k d within. far 0 (suc k) d (omega arith) (omega arith))),
      sorted_up xs (λ k d low high. let e : suc k + 1 ≡ suc (k + 1) = omega arith in subst (λ n. lt (get_or (x ∷ xs) n d) (get_or xs k d) ≡ false) e (up (suc k) d (omega arith) (omega arith))),
    )

-- So the entries that were sorted by their numbers are those of a list.
pub sorted_is : (entries : List Entry) (xs : List EntryRef) → KeysRise entries → IsPermutation entries (map entry_view xs) → AreInOrder Number xs → map entry_view xs ≡ by_number entries
sorted_is entries xs rise moved up =
    let listed = fold_moved entries [] in
    let between = IsPermutation-trans (map entry_view xs) entries (by_number entries) (IsPermutation-sym entries (map entry_view xs) moved) listed in
    unique (map entry_view xs) (by_number entries)
    (up_strict (map entry_view xs) (sorted_up xs up) (keys_apart entries (map entry_view xs) rise moved))
    (up_strict (by_number entries) (fold_up entries [] tt) (keys_apart entries (by_number entries) rise listed))
    (has_moved (map entry_view xs) (by_number entries) between) (has_moved (by_number entries) (map entry_view xs) (IsPermutation-sym (map entry_view xs) (by_number entries) between))
