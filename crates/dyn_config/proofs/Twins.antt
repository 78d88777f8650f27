-- The orders of keys, and keys that are one in them.
use Rattle.std.proofs.Common.{◌≡◌, ℕ, ◌+◌, ◌-◌, ◌<◌, ◌≤◌, Bool, true, false, ◌&&◌, inl, inr, List, [], ◌∷◌, ◌++◌, map, length, drop, get_or, slice_get, Some, append_assoc, append-nil, refl, sym, ap, ◌∙◌, arith, bytes_eq, nat_cmp, Ordering, Less, Equal, Greater, IsPermutation, IsSortedBy}
use Rattle.std.specs.List.{list_any}
use Rattle.std.specs.List.Sorted.{IsPartitionPoint}
use Rattle.std.specs.Ordering.{is_lt, is_eq, ordering_then}
use Rattle.std.specs.Cmp.{IsTotalOrder}
use Rattle.std.specs.Cmp.Lexicographic.{slice_cmp}
use Rattle.std.specs.Str.{str_to_ascii_lowercase}
use Rattle.std.proofs.lemmas.Bool.{false≢true, cases_Bool, cases_lt}
use Rattle.std.proofs.lemmas.Cmp.{nat_cmp_total, nat_list_cmp_total, then_total, on_total, alike_right, tied_itself}
use Rattle.std.specs.Map.{keys_of, values_of}
use Rattle.std.proofs.lemmas.List.{get_or_default, drop_all, map-append}
use Rattle.std.proofs.lemmas.List.Folds.{list_any_none, list_any_at}
use Rattle.std.proofs.lemmas.List.Sorted.{sorted_far, ranks_by, list_any-IsPermutation}
use Rattle.std.proofs.lemmas.Map.Text.{is_eq-slice_cmp}
use Rattle.std.proofs.lemmas.Slice.Eq.{bytes_eq-Decides}
use Rattle.field_tree.specs.Keys.{fold_cmp, walk_cmp}
use Rattle.dyn_config.specs.Walk.{Entry, is_less, is_twin, has_twin, plain, same_number, number_cmp}
use Rattle.dyn_config.specs.Shapes.{order_of, sameness_of}
use Rattle.dyn_config.specs.declared.found.Order.{Order}
use Rattle.dyn_config.specs.declared.found.Order.TheVariants.{Walk, Number}
use Rattle.dyn_config.specs.declared.ordered.EntryRef.{EntryRef}
use Rattle.dyn_config.specs.Ordered.{entry_view, AreInOrder}
use Rattle.dyn_config.proofs.Loops.{drop_entry}

abbrev Key : Type 0
Key = List ℕ

abbrev bytes_cmp : Key → Key → Ordering
bytes_cmp = slice_cmp nat_cmp

pub walk_total : IsTotalOrder walk_cmp
walk_total = then_total (on_total str_to_ascii_lowercase nat_list_cmp_total) nat_list_cmp_total

-- By the numbers alone.
abbrev pub value_cmp : Key → Key → Ordering
value_cmp a b = ordering_then (nat_cmp (length (plain a)) (length (plain b))) (bytes_cmp (plain a) (plain b))

pub value_total : IsTotalOrder value_cmp
value_total = then_total (on_total (λ (k : Key). length (plain k)) nat_cmp_total) (on_total plain nat_list_cmp_total)

pub number_total : IsTotalOrder number_cmp
number_total = then_total (on_total (λ (k : Key). length (plain k)) nat_cmp_total) (then_total (on_total plain nat_list_cmp_total) nat_list_cmp_total)

then_assoc : (a b c : Ordering) → ordering_then a (ordering_then b c) ≡ ordering_then (ordering_then a b) c
then_assoc Less b c = refl
then_assoc Equal b c = refl
then_assoc Greater b c = refl

is_eq_then : (a b : Ordering) → is_eq b ≡ true → a ≡ Equal → is_eq (ordering_then a b) ≡ true
is_eq_then a b t e = ap (λ o. is_eq (ordering_then o b)) e ∙ t

not_eq_then : (a b : Ordering) → is_eq b ≡ false → is_eq (ordering_then a b) ≡ false
not_eq_then Less b f = refl
not_eq_then Equal b f = f
not_eq_then Greater b f = refl

-- Two decimals are one number exactly where the order by numbers ties.
number_tied : (a b : Key) → same_number a b ≡ is_eq (value_cmp a b)
number_tied a b =
    let bytes : is_eq (bytes_cmp (plain a) (plain b)) ≡ bytes_eq (plain a) (plain b) = is_eq-slice_cmp (plain a) (plain b) in
    elim (cases_Bool (bytes_eq (plain a) (plain b))) [
      | inl t ↦
          let same : plain a ≡ plain b = (bytes_eq-Decides (plain a) (plain b)).0 t in
          let long : nat_cmp (length (plain a)) (length (plain b)) ≡ Equal =
          ap (λ k. nat_cmp (length (plain a)) (length k)) (sym same) ∙ tied_itself nat_cmp_total (length (plain a)) in
          t ∙ sym (is_eq_then (nat_cmp (length (plain a)) (length (plain b))) (bytes_cmp (plain a) (plain b)) (bytes ∙ t) long)
      | inr f ↦ f ∙ sym (not_eq_then (nat_cmp (length (plain a)) (length (plain b))) (bytes_cmp (plain a) (plain b)) (bytes ∙ f))
    ]

-- An order that goes by another first, which ties exactly where two keys are one, and then by the bytes.
pub record IsInLevels (cmp : Key → Key → Ordering) (same : Key → Key → Bool) : Type 0 where
  pub total : IsTotalOrder cmp
  pub first : Key → Key → Ordering
  pub first_total : IsTotalOrder first
  pub steps : (a b : Key) → cmp a b ≡ ordering_then (first a b) (bytes_cmp a b)
  pub tied : (a b : Key) → same a b ≡ is_eq (first a b)

levels : (order : Order) → IsInLevels (order_of order) (sameness_of order)
levels Walk = record {
  total = walk_total;
  first = fold_cmp;
  first_total = on_total str_to_ascii_lowercase nat_list_cmp_total;
  steps = λ a b. refl;
  tied = λ a b. sym (is_eq-slice_cmp (str_to_ascii_lowercase a) (str_to_ascii_lowercase b));
}
levels Number = record {
  total = number_total;
  first = value_cmp;
  first_total = value_total;
  steps = λ a b. then_assoc (nat_cmp (length (plain a)) (length (plain b))) (bytes_cmp (plain a) (plain b)) (bytes_cmp a b);
  tied = number_tied;
}

pub order_total : (order : Order) → IsTotalOrder (order_of order)
order_total order = (levels order).total

pub less_of : (o : Ordering) → is_less o ≡ true → o ≡ Less
less_of Less e = refl
less_of Equal e = absurd (false≢true e)
less_of Greater e = absurd (false≢true e)

equal_of : (o : Ordering) → is_eq o ≡ true → o ≡ Equal
equal_of Less e = absurd (false≢true e)
equal_of Equal e = refl
equal_of Greater e = absurd (false≢true e)

greater_less : Greater ≡ Less → ⊥
greater_less e = cc

pub and_left : (a b : Bool) → (a && b) ≡ true → a ≡ true
and_left true b e = refl
and_left false b e = e

pub and_right : (a b : Bool) → (a && b) ≡ true → b ≡ true
and_right true b e = e
and_right false b e = absurd (false≢true e)

pub both_true : (a b : Bool) → a ≡ true → b ≡ true → (a && b) ≡ true
both_true a b x y = rw (x, y) refl

not_true : (b : Bool) → (b ≡ true → ⊥) → b ≡ false
not_true true h = absurd (h refl)
not_true false h = refl

module _ (cmp : Key → Key → Ordering) (same : Key → Key → Bool) (l : IsInLevels cmp same) where
  -- What stands between two keys that are one, is one with them.
  between : (x y key : Key) → l.first x key ≡ Equal → is_lt (cmp y x) ≡ false → cmp y key ≡ Less → l.first y key ≡ Equal
  between x y key tie up below = by_first (l.first y key) refl
    where
      by_first : (o : Ordering) → l.first y key ≡ o → l.first y key ≡ Equal
      by_first Less e =
          let before : l.first y x ≡ Less = alike_right l.first_total x key y tie ∙ e in
          absurd (false≢true (sym up ∙ ap is_lt (l.steps y x) ∙ ap (λ o. is_lt (ordering_then o (bytes_cmp y x))) before))
      by_first Equal e = e
      by_first Greater e = absurd (greater_less (sym (l.steps y key ∙ ap (λ o. ordering_then o (bytes_cmp y key)) e) ∙ below))

  tie_of : (x key : Key) → same x key ≡ true → l.first x key ≡ Equal
  tie_of x key one = equal_of (l.first x key) (sym (l.tied x key) ∙ one)

  -- A twin is tied by the first order, and stands before.
  twin_before : (x key : Key) → is_twin same x key ≡ true → cmp x key ≡ Less
  twin_before x key t =
      l.steps x key ∙ ap (λ o. ordering_then o (bytes_cmp x key)) (tie_of x key (and_left (same x key) (is_less (bytes_cmp x key)) t))
      ∙ less_of (bytes_cmp x key) (and_right (same x key) (is_less (bytes_cmp x key)) t)

  twin_from : (x key : Key) → same x key ≡ true → cmp x key ≡ Less → is_twin same x key ≡ true
  twin_from x key one less =
      both_true (same x key) (is_less (bytes_cmp x key)) one
      (ap is_less (sym (ap (λ o. ordering_then o (bytes_cmp x key)) (tie_of x key one)) ∙ sym (l.steps x key) ∙ less))

  module _ {X : Type 0} (name : X → Key) (xs : List X) (key : Key) (up : IsSortedBy (λ x y. is_lt (cmp (name x) (name y))) xs) (i : ℕ)
      (part : IsPartitionPoint (λ y. is_less (cmp (name y) key) ≡ true) (λ y. is_less (cmp (name y) key) ≡ false) xs i) where
    -- A twin stands before the place of the key.
    place_before : (k : ℕ) (d : X) → k < length xs → is_twin same (name (get_or xs k d)) key ≡ true → k < i
    place_before k d within t = elim (cases_lt k i) [
      | inl lower ↦ lower
      | inr past ↦ absurd (false≢true (sym (part.1 k d past within) ∙ ap is_less (twin_before (name (get_or xs k d)) key t)))
    ]

    pub no_twin : i ≡ 0 → list_any (λ x. is_twin same (name x) key) xs ≡ false
    no_twin none =
        list_any_none (λ x. is_twin same (name x) key) xs
        (λ k d within. not_true (is_twin same (name (get_or xs k d)) key) (λ t. let before : k < i = place_before k d within t in absurd (omega (arith, before, none))))

    pub last_twin : (x : X) → 0 < i → i ≤ length xs → x ≡ get_or xs (i - 1) x → list_any (λ x. is_twin same (name x) key) xs ≡ same (name x) key
    last_twin x some_ inside is = elim (cases_Bool (same (name x) key)) [
      | inl one ↦
          let below : is_less (cmp (name (get_or xs (i - 1) x)) key) ≡ true = part.0 (i - 1) x (omega arith) (omega arith) in
          let less : cmp (name x) key ≡ Less = ap (λ y. cmp (name y) key) is ∙ less_of (cmp (name (get_or xs (i - 1) x)) key) below in
          let twin : is_twin same (name (get_or xs (i - 1) x)) key ≡ true = ap (λ y. is_twin same (name y) key) (sym is) ∙ twin_from (name x) key one less in
          list_any_at (λ y. is_twin same (name y) key) xs (i - 1) x (omega arith) twin ∙ sym one
      | inr apart ↦
          list_any_none (λ y. is_twin same (name y) key) xs
          (λ k d within. not_true (is_twin same (name (get_or xs k d)) key) (λ t.
          let before : k < i = place_before k d within t in
          let last = get_or xs (i - 1) d in
          let known : x ≡ last = is ∙ get_or_default xs (i - 1) x d (omega arith) in
          let tie : l.first (name (get_or xs k d)) key ≡ Equal = tie_of (name (get_or xs k d)) key (and_left (same (name (get_or xs k d)) key) (is_less (bytes_cmp (name (get_or xs k d)) key)) t) in
          let far : is_lt (cmp (name last) (name (get_or xs k d))) ≡ false =
          sorted_far (λ x y. is_lt (cmp (name x) (name y))) (ranks_by l.total name) xs up k (i - 1) d (omega arith) (omega arith) in
          let below : cmp (name last) key ≡ Less = less_of (cmp (name last) key) (part.0 (i - 1) d (omega arith) (omega arith)) in
          let one : same (name last) key ≡ true = l.tied (name last) key ∙ ap is_eq (between (name (get_or xs k d)) (name last) key tie far below) in
          false≢true (sym apart ∙ ap (λ y. same (name y) key) known ∙ one)))
          ∙ sym apart
    ]

-- A test of mapped elements.
any_map : {X Y : Type 0} (f : X → Y) (test : Y → Bool) (xs : List X) → list_any test (map f xs) ≡ list_any (λ x. test (f x)) xs
any_map f test [] = refl
any_map f test (x ∷ xs) = ap (λ b. Rattle.std.specs.Prelude.◌||◌ (test (f x)) b) (any_map f test xs)

abbrev name_of : EntryRef → Key
name_of entry = entry.key.now

module _ (order : Order) (xs : List EntryRef) (key : Key) (up : AreInOrder order xs) (i : ℕ)
    (part : IsPartitionPoint (λ (y : EntryRef). is_less (order_of order y.key.now key) ≡ true) (λ (y : EntryRef). is_less (order_of order y.key.now key) ≡ false) xs i) where
  -- No entry stands before the key.
  pub none_before : i ≡ 0 → false ≡ has_twin (sameness_of order) (map entry_view xs) key
  none_before none =
      sym (any_map entry_view (λ (other : Entry). is_twin (sameness_of order) other.0 key) xs ∙ no_twin (order_of order) (sameness_of order) (levels order) name_of xs key up i part none)

  -- The last one before it tells.
  pub last_before : (x : EntryRef) → 0 < i → i ≤ length xs → x ≡ get_or xs (i - 1) x → sameness_of order x.key.now key ≡ has_twin (sameness_of order) (map entry_view xs) key
  last_before x some_ inside is =
      sym (any_map entry_view (λ (other : Entry). is_twin (sameness_of order) other.0 key) xs ∙ last_twin (order_of order) (sameness_of order) (levels order) name_of xs key up i part x some_ inside is)

-- The same twins stand among the entries in whatever order.
pub same_twins : (same : Key → Key → Bool) (entries sorted : List Entry) (key : Key) → IsPermutation entries sorted → has_twin same sorted key ≡ has_twin same entries key
same_twins same entries sorted key moved = sym (list_any-IsPermutation (λ (other : Entry). is_twin same other.0 key) entries sorted moved)

-- What is before a key is an initial part of what is in order.
pub parted : (order : Order) (xs : List EntryRef) (key : Key) → AreInOrder order xs → Rattle.std.specs.List.Sorted.IsPartitionedBy (λ (y : EntryRef). is_less (order_of order y.key.now key)) xs
parted order xs key up i j d le within before =
    let l = levels order in
    let x = (get_or xs i d).key.now in
    let y = (get_or xs j d).key.now in
    let far : is_lt (order_of order y x) ≡ false =
    sorted_far (λ (a b : EntryRef). is_lt (order_of order a.key.now b.key.now)) (ranks_by l.total name_of) xs up i j d le within in
    let below : order_of order y key ≡ Less = less_of (order_of order y key) before in
    elim (cases_Bool (is_less (order_of order x key))) [
      | inl t ↦ t
      | inr f ↦ absurd (false≢true (sym ((ranks_by l.total (λ (k : Key). k)).chain y x key far (same_test (order_of order x key) ∙ f)) ∙ ap is_lt below))
    ]
  where
    same_test : (o : Ordering) → is_lt o ≡ is_less o
    same_test Less = refl
    same_test Equal = refl
    same_test Greater = refl

-- One more entry is referred to.
pub one_more : (entries : List Entry) (i : ℕ) (x : EntryRef) (xs more : List EntryRef) → slice_get (keys_of entries) i ≡ Some x.key.now → slice_get (values_of entries) i ≡ Some x.value.now
    → more ≡ xs ++ x ∷ [] → entries ≡ map entry_view xs ++ drop i entries → entries ≡ map entry_view more ++ drop (i + 1) entries
one_more entries i x xs more k v m h =
    h ∙ ap (λ es. map entry_view xs ++ es) (drop_entry entries i x.key.now x.value.now k v)
    ∙ sym (append_assoc (map entry_view xs) (entry_view x ∷ []) (drop (i + 1) entries))
    ∙ ap (λ es. es ++ drop (i + 1) entries) (sym (map-append entry_view xs (x ∷ [])) ∙ ap (map entry_view) (sym m))

pub all_there : (entries : List Entry) (i : ℕ) (xs : List EntryRef) → length entries ≤ i → entries ≡ map entry_view xs ++ drop i entries → map entry_view xs ≡ entries
all_there entries i xs past h = sym (h ∙ ap (λ es. map entry_view xs ++ es) (drop_all i entries past) ∙ append-nil (map entry_view xs))
