-- Qualified names are valid and differ.
use Rattle.std.proofs.Common.{◌≡◌, ℕ, zero, suc, ◌+◌, ◌-◌, ◌<◌, ◌≤◌, true, false, Bool, ◌&&◌, List, [], ◌∷◌, ◌++◌, length, map, take, get_or, codes, refl, sym, ap, ◌∙◌, subst, arith, nat_le, Less, Equal, Greater, Ordering, nat_cmp, bytes_eq, inl, inr}
use Rattle.std.specs.List.{IsDistinct, AllByRecursion, list_all}
use Rattle.std.specs.List.Sorted.{IsPermutation, IsStrictlySortedBy, IsSortedBy}
use Rattle.std.specs.Ordering.{is_eq, is_lt, eq_by_cmp, ordering_reverse}
use Rattle.std.specs.Cmp.Lexicographic.{slice_cmp}
use Rattle.std.specs.Map.{keys_of}
use Rattle.std.proofs.lemmas.Bool.{false≢true, cases_Bool, le-leb}
use Rattle.std.proofs.lemmas.Cmp.{nat_list_cmp_total, tied_itself, eq_by_cmp_equiv}
use Rattle.std.proofs.lemmas.List.{append_cancel_right, take-append-le, length-append, length-map, take_all, get_or-map, get_or-append-add, map-append}
use Rattle.std.proofs.lemmas.List.Sorted.{IsPermutation-map, All-permutation}
use Rattle.std.proofs.lemmas.List.Folds.{list_all-append, list_all-map}
use Rattle.std.proofs.lemmas.List.Sums.{AllPass-from_list_all, list_all-from_AllPass}
use Rattle.std.proofs.lemmas.Map.Keys.{IsDistinct-IsPermutation, sorted_head, sorted_tail, sorted_from_all_adjacent}
use Rattle.std.proofs.lemmas.Map.Text.{is_eq-slice_cmp}
use Rattle.std.proofs.lemmas.Slice.Eq.{bytes_eq-Decides}
use Rattle.dyn_config.specs.Names.{is_name, suffix_of, qualified}
use Rattle.dyn_config.specs.Joined.{declared_name, is_qualified, IsQualified}
use Rattle.dyn_config.specs.Kept.{IsNamed}
use Rattle.dyn_config.specs.declared.merged.Entry.{Entry}
use Rattle.provider_merge.specs.Merging.{entry_of, entries_of}

abbrev pub cmp : List ℕ → List ℕ → Ordering
cmp = slice_cmp nat_cmp

abbrev pub same : List ℕ → List ℕ → Bool
same = eq_by_cmp cmp

same_is : (k l : List ℕ) → same k l ≡ true → k ≡ l
same_is k l e = (bytes_eq-Decides k l).0 (sym (is_eq-slice_cmp k l) ∙ e)

differ : (k l : List ℕ) → (k ≡ l → ⊥) → same k l ≡ false
differ k l apart = elim (cases_Bool (same k l)) [ inl e ↦ absurd (apart (same_is k l e)) | inr e ↦ e ]

equal_less : Equal ≡ Less → ⊥
equal_less e = cc

less_apart : (k l : List ℕ) → cmp k l ≡ Less → k ≡ l → ⊥
less_apart k l less e =
    let h : cmp k k ≡ Less = ap (cmp k) e ∙ less in
    let contra : Equal ≡ Less = sym (tied_itself nat_list_cmp_total k) ∙ h in
    equal_less contra

-- a name differs from the later ones, also with what the provider adds
apart_from : (s k : List ℕ) (ks : List (List ℕ)) → AllByRecursion (λ y. cmp k y ≡ Less) ks
    → AllByRecursion (λ y. same (k ++ s) y ≡ false) (map (λ n. n ++ s) ks)
apart_from s k [] all = tt
apart_from s k (l ∷ ks) all = (differ (k ++ s) (l ++ s) (λ e. less_apart k l all.0 (append_cancel_right k l s e)), apart_from s k ks all.1)

pub suffixed_distinct : (s : List ℕ) (ks : List (List ℕ)) → IsStrictlySortedBy cmp ks → IsDistinct same (map (λ n. n ++ s) ks)
unfolding IsDistinct
suffixed_distinct s [] rise = tt
suffixed_distinct s (k ∷ ks) rise = (apart_from s k ks (sorted_head cmp k ks rise), suffixed_distinct s ks (sorted_tail cmp k ks rise))

last_differs : (x y : List ℕ) → x ++ codes "@file" ≡ y ++ codes "@consul" → ⊥
last_differs x y e =
    let lengths : length x + 5 ≡ length y + 7 = sym (length-append x (codes "@file")) ∙ ap length e ∙ length-append y (codes "@consul") in
    let place : length x + 4 ≡ length y + 6 = omega (arith, lengths) in
    let here : get_or (x ++ codes "@file") (length x + 4) 0 ≡ 101 = get_or-append-add x (codes "@file") 4 0 in
    let there : get_or (y ++ codes "@consul") (length y + 6) 0 ≡ 108 = get_or-append-add y (codes "@consul") 6 0 in
    let one : 101 ≡ 108 = sym here ∙ ap (λ w. get_or w (length x + 4) 0) e ∙ ap (λ n. get_or (y ++ codes "@consul") n 0) place ∙ there in
    omega (arith, one)

-- a name of the file differs from those of Consul
across : (x : List ℕ) (ls : List (List ℕ)) → AllByRecursion (λ y. same (x ++ codes "@file") y ≡ false) (map (λ n. n ++ codes "@consul") ls)
across x [] = tt
across x (l ∷ ls) = (differ (x ++ codes "@file") (l ++ codes "@consul") (last_differs x l), across x ls)

all_both : {X : Type 0} (P : X → Type 0) (xs ys : List X) → AllByRecursion P xs → AllByRecursion P ys → AllByRecursion P (xs ++ ys)
all_both P [] ys a b = b
all_both P (x ∷ xs) ys a b = (a.0, all_both P xs ys a.1 b)

pub both_distinct : (ks ls : List (List ℕ)) → IsStrictlySortedBy cmp ks → IsStrictlySortedBy cmp ls
    → IsDistinct same (map (λ n. n ++ codes "@file") ks ++ map (λ n. n ++ codes "@consul") ls)
unfolding IsDistinct
both_distinct [] ls rise_k rise_l = suffixed_distinct (codes "@consul") ls rise_l
both_distinct (k ∷ ks) ls rise_k rise_l = (
  all_both (λ y. same (k ++ codes "@file") y ≡ false) (map (λ n. n ++ codes "@file") ks) (map (λ n. n ++ codes "@consul") ls) (apart_from (codes "@file") k ks (sorted_head cmp k ks rise_k)) (across k ls),
  both_distinct ks ls (sorted_tail cmp k ks rise_k) rise_l,
)

-- the names of what a provider adds
pub names_added : {D : Type 0} (provider : ℕ) (declared : List (List ℕ × D)) → map (λ (e : Entry D). e.name) (entries_of provider declared) ≡ map (qualified provider) (keys_of declared)
names_added provider [] = refl
names_added provider (d ∷ ds) = ap (λ ns. qualified provider d.0 ∷ ns) (names_added provider ds)

names_of_both : {D : Type 0} (file consul : List (List ℕ × D)) → map (λ (e : Entry D). e.name) (entries_of 0 file ++ entries_of 1 consul)
    ≡ map (λ n. n ++ codes "@file") (keys_of file) ++ map (λ n. n ++ codes "@consul") (keys_of consul)
names_of_both {D} file consul =
    map-append (λ (e : Entry D). e.name) (entries_of 0 file) (entries_of 1 consul) ∙ ap (λ ns. ns ++ map (λ (e : Entry D). e.name) (entries_of 1 consul)) (names_added 0 file)
    ∙ ap (λ ns. map (qualified 0) (keys_of file) ++ ns) (names_added 1 consul)

-- neighbours differ
neighbours : (ks : List (List ℕ)) (k : ℕ) → IsDistinct same ks → k + 1 < length ks → same (get_or ks k []) (get_or ks (k + 1) []) ≡ false
unfolding IsDistinct
neighbours [] k d l = absurd (omega (arith, l))
neighbours (x ∷ []) k d l = absurd (omega (arith, l))
neighbours (x ∷ y ∷ ks) zero d l = d.0.0
neighbours (x ∷ y ∷ ks) (suc k) d l =
    let P : ℕ → Type 0 = λ n. same (get_or (y ∷ ks) k []) (get_or (x ∷ y ∷ ks) n []) ≡ false in
    let e : suc (k + 1) ≡ suc k + 1 = omega arith in
    subst P e (neighbours (y ∷ ks) k d.1 (omega (arith, l)))

is_less : (o : Ordering) → o ≡ Greater → is_lt (ordering_reverse o) ≡ true
is_less o e = ap (λ w. is_lt (ordering_reverse w)) e

by_order : (o : Ordering) (k l : List ℕ) → cmp k l ≡ o → is_lt (cmp l k) ≡ false → same k l ≡ false → cmp k l ≡ Less
by_order Less k l e up apart = e
by_order Equal k l e up apart = absurd (false≢true (sym apart ∙ ap is_eq e))
by_order Greater k l e up apart = absurd (false≢true (sym up ∙ ap is_lt (nat_list_cmp_total.antisymm l k) ∙ is_less (cmp k l) e))

-- two names of which the later isn't less, and which differ, rise
rises : (k l : List ℕ) → is_lt (cmp l k) ≡ false → same k l ≡ false → cmp k l ≡ Less
rises k l up apart = by_order (cmp k l) k l refl up apart

pub strict : {D : Type 0} (es : List (Entry D)) → IsSortedBy (λ (x y : Entry D). is_lt (cmp x.name y.name)) es → IsDistinct same (map (λ (e : Entry D). e.name) es)
    → IsStrictlySortedBy cmp (map (λ (e : Entry D). e.name) es)
strict {D} [] up distinct = sorted_from_all_adjacent nat_list_cmp_total (map (λ (x : Entry D). x.name) []) [] (λ k l. absurd (omega (arith, l)))
strict {D} (e ∷ es) up distinct =
    let names = map (λ (x : Entry D). x.name) (e ∷ es) in
    sorted_from_all_adjacent nat_list_cmp_total names [] (λ k l.
    let inside : k + 1 < length (e ∷ es) = omega (arith, l, length-map (e ∷ es) (λ (x : Entry D). x.name)) in
    let at : get_or names k [] ≡ (get_or (e ∷ es) k e).name = get_or-map (λ (x : Entry D). x.name) (e ∷ es) k e [] (omega (arith, inside)) in
    let next : get_or names (k + 1) [] ≡ (get_or (e ∷ es) (k + 1) e).name = get_or-map (λ (x : Entry D). x.name) (e ∷ es) (k + 1) e [] inside in
    let below : is_lt (cmp (get_or names (k + 1) []) (get_or names k [])) ≡ false = rw (at, next) (up k e (omega arith) inside) in
    rises (get_or names k []) (get_or names (k + 1) []) below (neighbours names k distinct l))

declared_again : (provider : ℕ) (name : List ℕ) → declared_name provider (qualified provider name) ≡ name
declared_again provider name =
    let s = suffix_of provider in
    let n : length (name ++ s) - length s ≡ length name = omega (arith, length-append name s) in
    ap (λ k. take k (name ++ s)) n ∙ take-append-le (length name) name s (omega arith) ∙ take_all (length name) name (omega arith)

all_three : (a b c : Bool) → a ≡ true → b ≡ true → c ≡ true → (a && b && c) ≡ true
all_three a b c x y z = rw (x, y, z) refl

entry_qualified : {D : Type 0} (provider : ℕ) (declared : List ℕ × D) → provider ≤ 1 → is_name declared.0 ≡ true → is_qualified (entry_of provider declared) ≡ true
entry_qualified provider declared small valid =
    let again = declared_again provider declared.0 in
    let named : is_name (declared_name provider (qualified provider declared.0)) ≡ true = ap is_name again ∙ valid in
    let equal : bytes_eq (qualified provider declared.0) (qualified provider (declared_name provider (qualified provider declared.0))) ≡ true =
    (bytes_eq-Decides _ _).1 (ap (qualified provider) (sym again)) in
    all_three (nat_le provider 1) _ _ (le-leb provider 1 small) named equal

both_true : (a b : Bool) → a ≡ true → b ≡ true → (a && b) ≡ true
both_true a b x y = rw (x, y) refl

and_left : (a b : Bool) → (a && b) ≡ true → a ≡ true
and_left true b e = refl
and_left false b e = e

and_right : (a b : Bool) → (a && b) ≡ true → b ≡ true
and_right true b e = e
and_right false b e = absurd (false≢true e)

-- what a provider adds is under qualified names
added_qualified : {D : Type 0} (provider : ℕ) (declared : List (List ℕ × D)) → provider ≤ 1 → list_all (λ (entry : List ℕ × D). is_name entry.0) declared ≡ true
    → list_all (λ (e : Entry D). is_qualified e) (entries_of provider declared) ≡ true
added_qualified provider [] small valid = refl
added_qualified {D} provider (d ∷ ds) small valid =
    both_true (is_qualified (entry_of provider d)) (list_all (λ (e : Entry D). is_qualified e) (entries_of provider ds))
    (entry_qualified provider d small (and_left _ _ valid)) (added_qualified provider ds small (and_right (is_name d.0) _ valid))

-- a test that each passes, each passes in any order
all_moved : {X : Type 0} (p : X → Bool) (xs ys : List X) → IsPermutation xs ys → list_all p xs ≡ true → list_all p ys ≡ true
all_moved p xs ys moved all = list_all-from_AllPass p ys (All-permutation (λ x. p x ≡ true) xs ys moved (AllPass-from_list_all p xs all))

same_flips : (k l : List ℕ) → same k l ≡ same l k
same_flips k l = (eq_by_cmp_equiv nat_list_cmp_total).symm k l

-- the union in order is under qualified names that rise
pub union_qualified : {D : Type 0} (file consul : List (List ℕ × D)) (es : List (Entry D)) → IsNamed file → IsNamed consul
    → IsPermutation (entries_of 0 file ++ entries_of 1 consul) es → IsSortedBy (λ (x y : Entry D). is_lt (cmp x.name y.name)) es → IsQualified es
union_qualified {D} file consul es named_f named_c moved up =
    let before : IsDistinct same (map (λ (e : Entry D). e.name) (entries_of 0 file ++ entries_of 1 consul)) =
    subst (IsDistinct same) (sym (names_of_both file consul)) (both_distinct (keys_of file) (keys_of consul) named_f.0 named_c.0) in
    let after : IsDistinct same (map (λ (e : Entry D). e.name) es) =
    IsDistinct-IsPermutation same same_flips _ _ (IsPermutation-map (λ (e : Entry D). e.name) _ _ moved) before in
    let all : list_all (λ (e : Entry D). is_qualified e) (entries_of 0 file ++ entries_of 1 consul) ≡ true =
    list_all-append (λ (e : Entry D). is_qualified e) (entries_of 0 file) (entries_of 1 consul)
    ∙ both_true _ _ (added_qualified 0 file (omega arith) named_f.1) (added_qualified 1 consul (omega arith) named_c.1) in
    (strict es up after, all_moved (λ (e : Entry D). is_qualified e) _ es moved all)

-- a test of definitions that each passes, each passes in the union
pub union_passes : {D : Type 0} (p : D → Bool) (file consul : List (List ℕ × D)) (es : List (Entry D)) → IsPermutation (entries_of 0 file ++ entries_of 1 consul) es
    → list_all (λ (entry : List ℕ × D). p entry.1) file ≡ true → list_all (λ (entry : List ℕ × D). p entry.1) consul ≡ true → list_all (λ (e : Entry D). p e.def) es ≡ true
union_passes {D} p file consul es moved all_f all_c =
    all_moved (λ (e : Entry D). p e.def) _ es moved
    (list_all-append (λ (e : Entry D). p e.def) (entries_of 0 file) (entries_of 1 consul)
    ∙ both_true _ _ (list_all-map (λ (e : Entry D). p e.def) (entry_of 0) file ∙ all_f) (list_all-map (λ (e : Entry D). p e.def) (entry_of 1) consul ∙ all_c))
