-- A table as a list of keys beside a list of values.
use Rattle.std.proofs.Common.{◌≡◌, ℕ, zero, suc, ◌+◌, ◌<◌, ◌≤◌, Bool, true, false, cond, List, [], ◌∷◌, ◌++◌, length, drop, get_or, Option, Some, None, refl, sym, ap, ◌∙◌, subst, arith, ◌==◌, IsTrue, ◌↔◌}
use Rattle.std.specs.List.{zip, slice_get}
use Rattle.std.specs.Ordering.{nat_cmp}
use Rattle.std.specs.List.Sorted.{IsStrictlySortedBy}
use Rattle.std.specs.Cmp.Lexicographic.{slice_cmp}
use Rattle.std.specs.Map.{keys_of, values_of}
use Rattle.std.specs.Str.{bytes_eq}
use Rattle.std.proofs.Math.Dec.{eqb-suc-zero}
use Rattle.std.proofs.lemmas.Option.{slice_get-get_or}
use Rattle.std.proofs.lemmas.List.{length_push}
use Rattle.std.specs.Option.{unwrap_or}
use Rattle.std.specs.List.{Contains}
use Rattle.std.specs.Ordering.{eq_by_cmp}
use Rattle.std.specs.List.{IsDistinct}
use Rattle.std.specs.Cmp.Lexicographic.{nat_list_eq_equiv}
use Rattle.std.proofs.lemmas.Slice.Eq.{bytes_eq-Decides}
use Rattle.std.proofs.lemmas.Map.Text.{is_eq-slice_cmp}
use Rattle.std.proofs.lemmas.Map.Keys.{IsDistinct-from_sorted}
use Rattle.std.proofs.lemmas.Map.Views.{Contains-from_lookup, lookup-from_Contains}
use Rattle.std.proofs.lemmas.Map.Made.{keys_of-zip}
use Rattle.std.proofs.lemmas.Map.Entries.{length-values_of}
use Rattle.field_tree.specs.Table.{KeysRise, value_at}

abbrev Key : Type 0
Key = List ℕ

-- the columns that a table is kept as
pub record IsKeptAs {T : Type 0} (keys : List (List ℕ)) (values : List T) (fields : List (List ℕ × T)) : Type 0 where
  pub is : zip keys values ≡ fields
  pub level : length values ≡ length keys
  pub rising : IsStrictlySortedBy (slice_cmp nat_cmp) keys

values_of-zip : {T : Type 0} (keys : List Key) (values : List T) → length values ≡ length keys → values_of (zip keys values) ≡ values
values_of-zip [] [] e = refl
values_of-zip [] (v ∷ vs) e = absurd (omega arith)
values_of-zip (k ∷ ks) [] e = absurd (omega arith)
values_of-zip (k ∷ ks) (v ∷ vs) e = ap (λ xs. v ∷ xs) (values_of-zip ks vs (omega arith))

module _ {T : Type 0} (keys : List Key) (values : List T) (fields : List (Key × T)) (kept : IsKeptAs keys values fields) where
  pub keys_are : keys_of fields ≡ keys
  keys_are = ap (λ (es : List (Key × T)). keys_of es) (sym kept.is) ∙ keys_of-zip keys values kept.level

  pub values_are : values_of fields ≡ values
  values_are = ap (λ (es : List (Key × T)). values_of es) (sym kept.is) ∙ values_of-zip keys values kept.level

  pub length_is : length values ≡ length fields
  length_is = ap (λ (vs : List T). length vs) (sym values_are) ∙ length-values_of fields

  pub keys_length_is : length keys ≡ length fields
  keys_length_is = sym kept.level ∙ length_is

  pub rises : KeysRise fields
  rises = let P : List Key → Type 0 = IsStrictlySortedBy (slice_cmp nat_cmp) in subst P (sym keys_are) kept.rising

-- the entry at a place is found there
zip-found : {T : Type 0} (keys : List Key) (values : List T) (i : ℕ) (key default : Key) → length values ≡ length keys → i < length keys → bytes_eq key (get_or keys i default) ≡ true → value_at (drop i (zip keys values)) key ≡ slice_get values i
zip-found [] values i key default e h same = absurd (omega arith)
zip-found (k ∷ ks) [] i key default e h same = absurd (omega arith)
zip-found (k ∷ ks) (v ∷ vs) zero key default e h same = ap (λ b. cond b (Some v) (value_at (zip ks vs) key)) same
zip-found (k ∷ ks) (v ∷ vs) (suc i) key default e h same = zip-found ks vs i key default (omega arith) (omega arith) same

-- an entry under another key is passed over
zip-passed : {T : Type 0} (keys : List Key) (values : List T) (i : ℕ) (key default : Key) → length values ≡ length keys → i < length keys → bytes_eq key (get_or keys i default) ≡ false → value_at (drop i (zip keys values)) key ≡ value_at (drop (suc i) (zip keys values)) key
zip-passed [] values i key default e h other = absurd (omega arith)
zip-passed (k ∷ ks) [] i key default e h other = absurd (omega arith)
zip-passed (k ∷ ks) (v ∷ vs) zero key default e h other = ap (λ b. cond b (Some v) (value_at (zip ks vs) key)) other
zip-passed (k ∷ ks) (v ∷ vs) (suc i) key default e h other = zip-passed ks vs i key default (omega arith) (omega arith) other

zip-ended : {T : Type 0} (fields : List (Key × T)) (i : ℕ) (key : Key) → length fields ≤ i → value_at (drop i fields) key ≡ None
zip-ended [] zero key h = refl
zip-ended [] (suc i) key h = refl
zip-ended (e ∷ es) zero key h = absurd (omega arith)
zip-ended (e ∷ es) (suc i) key h = zip-ended es i key (omega arith)

module _ {T : Type 0} (keys : List Key) (values : List T) (fields : List (Key × T)) (kept : IsKeptAs keys values fields) where
  pub found : (i : ℕ) (key default : Key) → i < length keys → bytes_eq key (get_or keys i default) ≡ true → value_at fields key ≡ value_at (drop i fields) key → slice_get values i ≡ value_at fields key
  found i key default h same before =
      sym (before ∙ ap (λ (es : List (Key × T)). value_at (drop i es) key) (sym kept.is) ∙ zip-found keys values i key default kept.level h same)

  pub passed : (i : ℕ) (key default : Key) → i < length keys → bytes_eq key (get_or keys i default) ≡ false → value_at fields key ≡ value_at (drop i fields) key → value_at fields key ≡ value_at (drop (i + 1) fields) key
  passed i key default h other before =
      let next : i + 1 ≡ suc i = omega arith in
      rw next
      (before ∙ ap (λ (es : List (Key × T)). value_at (drop i es) key) (sym kept.is) ∙ zip-passed keys values i key default kept.level h other
      ∙ ap (λ (es : List (Key × T)). value_at (drop (suc i) es) key) kept.is)

  pub ended : (i : ℕ) (key : Key) → length keys ≤ i → value_at fields key ≡ value_at (drop i fields) key → None ≡ value_at fields key
  ended i key h before = sym (before ∙ zip-ended fields i key (omega (arith, keys_length_is keys values fields kept)))

-- what an index read is what `get` gives
pub read_at : {T : Type 0} (xs : List T) (i : ℕ) (x : T) → i < length xs → x ≡ get_or xs i x → slice_get xs i ≡ Some x
read_at xs i x h e = slice_get-get_or xs i x h ∙ ap Some (sym e)

pub none_when : {T : Type 0} (xs : List T) (b : Bool) → b ≡ (length xs == 0) → IsTrue b ↔ (xs ≡ [])
none_when [] b e = (λ _. refl, λ _. e)
none_when (x ∷ xs) b e = (λ h. absurd (cc (e, h, eqb-suc-zero (length xs))), λ h. absurd (cc (h)))

zip-push : {T : Type 0} (keys : List Key) (values : List T) (key : Key) (value : T) → length values ≡ length keys → zip (keys ++ key ∷ []) (values ++ value ∷ []) ≡ zip keys values ++ (key, value) ∷ []
zip-push [] [] key value e = refl
zip-push [] (v ∷ vs) key value e = absurd (omega arith)
zip-push (k ∷ ks) [] key value e = absurd (omega arith)
zip-push (k ∷ ks) (v ∷ vs) key value e = ap (λ es. (k, v) ∷ es) (zip-push ks vs key value (omega arith))

keys_of-push : {T : Type 0} (fields : List (Key × T)) (key : Key) (value : T) → keys_of (fields ++ (key, value) ∷ []) ≡ keys_of fields ++ key ∷ []
keys_of-push [] key value = refl
keys_of-push (e ∷ es) key value = ap (λ ks. e.0 ∷ ks) (keys_of-push es key value)

-- a table grows at the end of both columns
pub kept_push : {T : Type 0} (keys : List Key) (values : List T) (fields : List (Key × T)) (key : Key) (value : T) → IsKeptAs keys values fields → KeysRise (fields ++ (key, value) ∷ []) → IsKeptAs (keys ++ key ∷ []) (values ++ value ∷ []) (fields ++ (key, value) ∷ [])
kept_push keys values fields key value kept rise = record {
  is = zip-push keys values key value kept.level ∙ ap (λ es. es ++ (key, value) ∷ []) kept.is;
  level = omega (arith, length_push values value, length_push keys key, kept.level);
  rising = let P : List Key → Type 0 = IsStrictlySortedBy (slice_cmp nat_cmp) in
      subst P (keys_of-push fields key value ∙ ap (λ ks. ks ++ key ∷ []) (keys_are keys values fields kept)) rise;
}

-- nothing has keys that rise
pub rises_none : {T : Type 0} (table : Option (List (Key × T))) → None ≡ table → KeysRise (unwrap_or table [])
unfolding IsStrictlySortedBy
rises_none None e = tt
rises_none (Some fields) e = absurd (cc)

same_key : (x y : Key) → bytes_eq x y ≡ true → x ≡ y
same_key x y e = (bytes_eq-Decides x y).0 e

keys_differ : (keys : List Key) → IsStrictlySortedBy (slice_cmp nat_cmp) keys → IsDistinct bytes_eq keys
keys_differ keys h =
    let P : (Key → Key → Bool) → Type 0 = λ eq. IsDistinct eq keys in
    let same : eq_by_cmp (slice_cmp nat_cmp) ≡ bytes_eq = λ i x y. is_eq-slice_cmp x y i in
    subst P same (IsDistinct-from_sorted (slice_cmp nat_cmp) keys h)

-- the value under a key is that of the one entry with the key
pub value_at-entry : {T : Type 0} (fields : List (Key × T)) (key : Key) (value : T) → KeysRise fields → (value_at fields key ≡ Some value) ↔ Contains fields (key, value)
value_at-entry fields key value h = (
  Contains-from_lookup same_key key value fields,
  lookup-from_Contains nat_list_eq_equiv key value fields (keys_differ (keys_of fields) h),
)

pub entry_found : {T : Type 0} (table : Option (List (Key × T))) (fields : List (Key × T)) (key : Key) (value : T) (found_value : Option T) → Some fields ≡ table → found_value ≡ value_at fields key → KeysRise fields → (found_value ≡ Some value) ↔ Contains (unwrap_or table []) (key, value)
entry_found table fields key value found_value is e h = rw (← is) (rw e (value_at-entry fields key value h))

pub entry_missing : {T : Type 0} (table : Option (List (Key × T))) (key : Key) (value : T) (found_value : Option T) → None ≡ table → found_value ≡ None → (found_value ≡ Some value) ↔ Contains (unwrap_or table []) (key, value)
entry_missing table key value found_value is e = rw (← is) (rw e ((λ h. absurd (cc)), λ h. absurd (omega (arith, h.1))))
