-- Loops over the entries of a table, over rows and over lists, by what is left of them.
use Rattle.std.proofs.Common.{◌≡◌, ℕ, zero, suc, ◌+◌, ◌<◌, ◌≤◌, Bool, true, false, cond, List, [], ◌∷◌, ◌++◌, map, length, drop, get_or, Option, Some, refl, sym, ap, ap₂, ◌∙◌, arith, add-one, append_assoc, append-nil, if◌then◌else◌, IsTrue, ◌↔◌, Result, subst}
use Rattle.std.specs.Prelude.{IfOk}
use Rattle.std.proofs.Math.Seq.{drop-cons}
use Rattle.std.proofs.lemmas.List.{drop_all}
use Rattle.std.specs.List.{slice_get, fold, list_any, list_all, flat_map, filter}
use Rattle.std.specs.Map.{keys_of, values_of}
use Rattle.field_tree.specs.declared.tree.Tree.{Tree}
use Rattle.field_tree.specs.declared.values.Style.{Style}
use Rattle.dyn_config.specs.declared.found.Found.{Found}
use Rattle.dyn_config.specs.declared.found.Fault.{Fault}
use Rattle.field_tree.specs.Keys.{walk_cmp}
use Rattle.std.specs.Option.{unwrap_or}
use Rattle.field_tree.specs.Trees.{table_of, entries_of}
use Rattle.dyn_config.specs.Readings.{first_or, value_first, value_under, text_or, line_of, is_line}
use Rattle.dyn_config.specs.Steps.{NextUnder}
use Rattle.dyn_config.specs.declared.found.Cause.TheVariants.{Twice as twice}
use Rattle.dyn_config.specs.Walk.{here, stops_in, row_stops, is_less, Entry, Stop, Row, under_key, same_key, lesser_key, least_key}

-- What a call answers where it had memory, under another name.
pub ok_same : {A E : Type 0} (r : Result A E) (a b : A) → a ≡ b → IfOk r (λ x. x ≡ a) → IfOk r (λ x. x ≡ b)
ok_same r a b e h = subst (λ y. IfOk r (λ x. x ≡ y)) e h

-- What is left of a list at one of its elements.
pub drop_at : {X : Type 0} (xs : List X) (i : ℕ) (x : X) → i < length xs → x ≡ get_or xs i x → drop i xs ≡ x ∷ drop (i + 1) xs
drop_at xs i x h e = rw (add-one) (drop-cons xs i x h ∙ ap (λ y. y ∷ drop (suc i) xs) (sym e))

entry_at : (entries : List Entry) (i : ℕ) (key : List ℕ) (value : Tree) → slice_get (keys_of entries) i ≡ Some key → slice_get (values_of entries) i ≡ Some value → drop i entries ≡ (key, value) ∷ drop (suc i) entries
entry_at [] i key value k v = absurd (cc)
entry_at (e ∷ es) zero key value k v =
    let k' : e.0 ≡ key = cc in
    let v' : e.1 ≡ value = cc in
    ap₂ (λ a b. (a, b) ∷ es) k' v'
entry_at (e ∷ es) (suc i) key value k v = entry_at es i key value k v

key_at : (entries : List Entry) (i : ℕ) (key : List ℕ) → slice_get (keys_of entries) i ≡ Some key → (value : Tree) × (drop i entries ≡ (key, value) ∷ drop (suc i) entries)
key_at [] i key k = absurd (cc)
key_at (e ∷ es) zero key k =
    let k' : e.0 ≡ key = cc in
    (e.1, ap (λ a. (a, e.1) ∷ es) k')
key_at (e ∷ es) (suc i) key k = key_at es i key k

value_at : (entries : List Entry) (i : ℕ) (key : List ℕ) → slice_get (keys_of entries) i ≡ Some key → (value : Tree) × (slice_get (values_of entries) i ≡ Some value)
value_at [] i key k = absurd (cc)
value_at (e ∷ es) zero key k = (e.1, refl)
value_at (e ∷ es) (suc i) key k = value_at es i key k

-- What is left of a table at one of its entries.
pub drop_entry : (entries : List Entry) (i : ℕ) (key : List ℕ) (value : Tree) → slice_get (keys_of entries) i ≡ Some key → slice_get (values_of entries) i ≡ Some value → drop i entries ≡ (key, value) ∷ drop (i + 1) entries
drop_entry entries i key value k v = rw add-one (entry_at entries i key value k v)

-- The same where only the key counts.
pub drop_key : (entries : List Entry) (i : ℕ) (key : List ℕ) → slice_get (keys_of entries) i ≡ Some key → (value : Tree) × (drop i entries ≡ (key, value) ∷ drop (i + 1) entries)
drop_key entries i key k = let here = key_at entries i key k in (here.0, rw add-one here.1)

module _ (S : Option Found → Stop → Option Found) (stop : Entry → Stop) (entries : List Entry) where
  -- One more entry is noted.
  pub on_entry : (i : ℕ) (key : List ℕ) (value : Tree) (all first next : Option Found) → slice_get (keys_of entries) i ≡ Some key → slice_get (values_of entries) i ≡ Some value → all ≡ fold S first (map stop (drop i entries)) → next ≡ S first (stop (key, value)) → all ≡ fold S next (map stop (drop (i + 1) entries))
  on_entry i key value all first next k v h n =
      h ∙ ap (λ es. fold S first (map stop es)) (drop_entry entries i key value k v) ∙ ap (λ f. fold S f (map stop (drop (i + 1) entries))) (sym n)

  pub all_noted : (i : ℕ) (all first : Option Found) → length entries ≤ i → all ≡ fold S first (map stop (drop i entries)) → first ≡ all
  all_noted i all first past h = sym (h ∙ ap (λ es. fold S first (map stop es)) (drop_all i entries past))

-- The same where the value doesn't count.
pub on_key : (S : Option Found → Stop → Option Found) (fault : List ℕ → Option Fault) (entries : List Entry) (i : ℕ) (key : List ℕ) (all first next : Option Found) → slice_get (keys_of entries) i ≡ Some key → all ≡ fold S first (map (λ e. (e.0, fault e.0)) (drop i entries)) → next ≡ S first (key, fault key) → all ≡ fold S next (map (λ e. (e.0, fault e.0)) (drop (i + 1) entries))
on_key S fault entries i key all first next k h n =
    let here = drop_key entries i key k in
    h ∙ ap (λ es. fold S first (map (λ e. (e.0, fault e.0)) es)) here.1 ∙ ap (λ f. fold S f (map (λ e. (e.0, fault e.0)) (drop (i + 1) entries))) (sym n)

-- Tests of some and of all keys.
module _ (test : List ℕ → Bool) (entries : List Entry) (i : ℕ) (key : List ℕ) (at : slice_get (keys_of entries) i ≡ Some key) where
  pub any_here : (all : Bool) → all ≡ list_any (λ e. test e.0) (drop i entries) → test key ≡ true → true ≡ all
  any_here all h t =
      let here = drop_key entries i key at in
      sym (h ∙ ap (list_any (λ e. test e.0)) here.1 ∙ ap (λ b. Rattle.std.specs.Prelude.◌||◌ b (list_any (λ e. test e.0) (drop (i + 1) entries))) t)

  pub any_later : (all : Bool) → all ≡ list_any (λ e. test e.0) (drop i entries) → test key ≡ false → all ≡ list_any (λ e. test e.0) (drop (i + 1) entries)
  any_later all h t =
      let here = drop_key entries i key at in
      h ∙ ap (list_any (λ e. test e.0)) here.1 ∙ ap (λ b. Rattle.std.specs.Prelude.◌||◌ b (list_any (λ e. test e.0) (drop (i + 1) entries))) t

  pub all_here : (all : Bool) → all ≡ list_all (λ e. test e.0) (drop i entries) → test key ≡ false → false ≡ all
  all_here all h t =
      let here = drop_key entries i key at in
      sym (h ∙ ap (list_all (λ e. test e.0)) here.1 ∙ ap (λ b. Rattle.std.specs.Prelude.◌&&◌ b (list_all (λ e. test e.0) (drop (i + 1) entries))) t)

  pub all_later : (all : Bool) → all ≡ list_all (λ e. test e.0) (drop i entries) → test key ≡ true → all ≡ list_all (λ e. test e.0) (drop (i + 1) entries)
  all_later all h t =
      let here = drop_key entries i key at in
      h ∙ ap (list_all (λ e. test e.0)) here.1 ∙ ap (λ b. Rattle.std.specs.Prelude.◌&&◌ b (list_all (λ e. test e.0) (drop (i + 1) entries))) t

pub none_any : (test : List ℕ → Bool) (entries : List Entry) (i : ℕ) (all : Bool) → length entries ≤ i → all ≡ list_any (λ e. test e.0) (drop i entries) → false ≡ all
none_any test entries i all past h = sym (h ∙ ap (list_any (λ e. test e.0)) (drop_all i entries past))

pub none_all : (test : List ℕ → Bool) (entries : List Entry) (i : ℕ) (all : Bool) → length entries ≤ i → all ≡ list_all (λ e. test e.0) (drop i entries) → true ≡ all
none_all test entries i all past h = sym (h ∙ ap (list_all (λ e. test e.0)) (drop_all i entries past))

-- The entries under a key.
pub not_under : (wanted : List ℕ) (entries : List Entry) (i : ℕ) (key : List ℕ) (all : List Entry) → slice_get (keys_of entries) i ≡ Some key → all ≡ under_key wanted (drop i entries) → same_key wanted key ≡ false → all ≡ under_key wanted (drop (i + 1) entries)
not_under wanted entries i key all at h t =
    let here = drop_key entries i key at in
    h ∙ ap (under_key wanted) here.1 ∙ ap (λ b. cond b ((key, here.0) ∷ under_key wanted (drop (i + 1) entries)) (under_key wanted (drop (i + 1) entries))) t

pub is_under : (wanted : List ℕ) (entries : List Entry) (i : ℕ) (key : List ℕ) (value : Tree) (all : List Entry) → slice_get (keys_of entries) i ≡ Some key → slice_get (values_of entries) i ≡ Some value → all ≡ under_key wanted (drop i entries) → same_key wanted key ≡ true → all ≡ (key, value) ∷ under_key wanted (drop (i + 1) entries)
is_under wanted entries i key value all k v h t =
    h ∙ ap (under_key wanted) (drop_entry entries i key value k v) ∙ ap (λ b. cond b ((key, value) ∷ under_key wanted (drop (i + 1) entries)) (under_key wanted (drop (i + 1) entries))) t

pub none_under : (wanted : List ℕ) (entries : List Entry) (i : ℕ) (all : List Entry) → length entries ≤ i → all ≡ under_key wanted (drop i entries) → all ≡ []
none_under wanted entries i all past h = h ∙ ap (under_key wanted) (drop_all i entries past)

-- The least key: the first entry begins it, and each other may be less.
pub least_begins : (entries : List Entry) → (0 < length entries) → (key : List ℕ) × (slice_get (keys_of entries) 0 ≡ Some key) × (least_key entries ≡ fold lesser_key key (drop 1 entries))
least_begins [] h = absurd (omega arith)
least_begins (e ∷ es) h = (e.0, refl, refl)

pub least_then : (entries : List Entry) (i : ℕ) (key least all : List ℕ) → slice_get (keys_of entries) i ≡ Some key → is_less (walk_cmp key least) ≡ true → all ≡ fold lesser_key least (drop i entries) → all ≡ fold lesser_key key (drop (i + 1) entries)
least_then entries i key least all at is h =
    let here = drop_key entries i key at in
    h ∙ ap (fold lesser_key least) here.1 ∙ ap (λ b. fold lesser_key (if b then key else least) (drop (i + 1) entries)) is

pub least_else : (entries : List Entry) (i : ℕ) (key least all : List ℕ) → slice_get (keys_of entries) i ≡ Some key → is_less (walk_cmp key least) ≡ false → all ≡ fold lesser_key least (drop i entries) → all ≡ fold lesser_key least (drop (i + 1) entries)
least_else entries i key least all at is h =
    let here = drop_key entries i key at in
    h ∙ ap (fold lesser_key least) here.1 ∙ ap (λ b. fold lesser_key (if b then key else least) (drop (i + 1) entries)) is

pub same_there : {X : Type 0} (xs : List X) (i : ℕ) (a b : X) → slice_get xs i ≡ Some a → slice_get xs i ≡ Some b → a ≡ b
same_there xs i a b p q = cc

pub least_ends : (entries : List Entry) (i : ℕ) (least all : List ℕ) → length entries ≤ i → all ≡ fold lesser_key least (drop i entries) → least ≡ all
least_ends entries i least all past h = sym (h ∙ ap (fold lesser_key least) (drop_all i entries past))

pub not_empty : (entries : List Entry) (empty : Bool) → IsTrue empty ↔ (entries ≡ []) → empty ≡ false → 0 < length entries
not_empty [] empty h e = absurd (cc (e, is_true empty (h.1 refl)))
  where
    is_true : (b : Bool) → IsTrue b → b ≡ true
    is_true true h = refl
    is_true false h = absurd (cc)
not_empty (x ∷ xs) empty h e = omega arith

-- One more entry is noted, of which the fault is known by its key, or by its value where that was read.
pub on_any : (S : Option Found → Stop → Option Found) (stop : Entry → Stop) (entries : List Entry) (i : ℕ) (key : List ℕ) (all first next : Option Found) (fault : Option Fault) → slice_get (keys_of entries) i ≡ Some key → all ≡ fold S first (map stop (drop i entries)) → next ≡ S first (key, fault) → ((value : Tree) → slice_get (values_of entries) i ≡ Some value → stop (key, value) ≡ (key, fault)) → all ≡ fold S next (map stop (drop (i + 1) entries))
on_any S stop entries i key all first next fault k h n is =
    let value = value_at entries i key k in
    on_entry S stop entries i key value.0 all first next k value.1 h (n ∙ ap (S first) (sym (is value.0 value.1)))

-- The stops of a row whose option stands there once.
pub row_one : (style : Style) (row : Row) (entries : List Entry) (at : ℕ) (one : List ℕ) (value : Tree) → NextUnder row.key entries 0 at → slice_get (keys_of entries) at ≡ Some one → slice_get (values_of entries) at ≡ Some value → under_key row.key (drop (at + 1) entries) ≡ [] → row_stops style entries row ≡ (one, row.check style value) ∷ []
row_one style row entries at one value n k v none = ap (stops_in style row) (n.found one value k v ∙ ap (λ es. (one, value) ∷ es) none)

-- And of one whose option stands there again.
pub row_two : (style : Style) (row : Row) (entries : List Entry) (at second : ℕ) (one two : List ℕ) (value : Tree) → NextUnder row.key entries 0 at → NextUnder row.key entries (at + 1) second → slice_get (keys_of entries) at ≡ Some one → slice_get (values_of entries) at ≡ Some value → slice_get (keys_of entries) second ≡ Some two → row_stops style entries row ≡ (one, row.check style value) ∷ (two, here twice) ∷ []
row_two style row entries at second one two value n m k v k2 =
    let other = value_at entries second two k2 in
    ap (stops_in style row) (n.found one value k v ∙ ap (λ es. (one, value) ∷ es) (m.found two other.0 k2 other.1))

name_at : (entries : List Entry) (i : ℕ) (value : Tree) → slice_get (values_of entries) i ≡ Some value → (key : List ℕ) × (slice_get (keys_of entries) i ≡ Some key)
name_at [] i value v = absurd (cc)
name_at (e ∷ es) zero value v = (e.0, refl)
name_at (e ∷ es) (suc i) value v = name_at es i value v

-- The value under a key of a table.
pub value_found : (tree : Tree) (entries : List Entry) (key : List ℕ) (at : ℕ) (value : Tree) → NextUnder key entries 0 at → slice_get (values_of entries) at ≡ Some value → Some entries ≡ table_of tree → Some value ≡ value_under key tree
value_found tree entries key at value n v e =
    let name = name_at entries at value v in
    sym (ap value_first (n.found name.0 value name.1 v)) ∙ ap (λ o. value_first (under_key key (unwrap_or o []))) e

-- Field lines of a table.
filter_split : {X : Type 0} (test : X → Bool) (x : X) (xs : List X) → filter test (x ∷ xs) ≡ filter test (x ∷ []) ++ filter test xs
filter_split test x xs = by_test (test x)
  where
    by_test : (b : Bool) → cond b (x ∷ filter test xs) (filter test xs) ≡ cond b (x ∷ []) [] ++ filter test xs
    by_test true = refl
    by_test false = refl

pub line_pushed : (entries : List Entry) (i : ℕ) (key : List ℕ) (value : Tree) (text : List ℕ) (all lines more : List (List ℕ × List ℕ)) → slice_get (keys_of entries) i ≡ Some key → slice_get (values_of entries) i ≡ Some value → text ≡ text_or [] (Some value) → more ≡ lines ++ filter is_line ((key, text) ∷ []) → all ≡ lines ++ filter is_line (map line_of (drop i entries)) → all ≡ more ++ filter is_line (map line_of (drop (i + 1) entries))
line_pushed entries i key value text all lines more k v t m h =
    let rest = filter is_line (map line_of (drop (i + 1) entries)) in
    h ∙ ap (λ es. lines ++ filter is_line (map line_of es)) (drop_entry entries i key value k v)
    ∙ ap (λ x. lines ++ filter is_line ((key, x) ∷ map line_of (drop (i + 1) entries))) (sym t)
    ∙ ap (λ l. lines ++ l) (filter_split is_line (key, text) (map line_of (drop (i + 1) entries)))
    ∙ sym (append_assoc lines (filter is_line ((key, text) ∷ [])) rest)
    ∙ ap (λ l. l ++ rest) (sym m)

pub lines_end : (entries : List Entry) (i : ℕ) (all lines : List (List ℕ × List ℕ)) → length entries ≤ i → all ≡ lines ++ filter is_line (map line_of (drop i entries)) → lines ≡ all
lines_end entries i all lines past h = sym (h ∙ ap (λ es. lines ++ filter is_line (map line_of es)) (drop_all i entries past) ∙ append-nil lines)

-- Definitions of a table's entries.
pub on_def : {D : Type 0} (read : Tree → D) (entries : List Entry) (i : ℕ) (key : List ℕ) (value : Tree) (def : D) (all defs : List (List ℕ × D)) → slice_get (keys_of entries) i ≡ Some key → slice_get (values_of entries) i ≡ Some value → def ≡ read value → all ≡ defs ++ map (λ e. (e.0, read e.1)) (drop i entries) → all ≡ (defs ++ (key, def) ∷ []) ++ map (λ e. (e.0, read e.1)) (drop (i + 1) entries)
on_def read entries i key value def all defs k v d h =
    let rest = map (λ e. (e.0, read e.1)) (drop (i + 1) entries) in
    h ∙ ap (λ es. defs ++ map (λ e. (e.0, read e.1)) es) (drop_entry entries i key value k v)
    ∙ ap (λ x. defs ++ (key, x) ∷ rest) (sym d)
    ∙ sym (append_assoc defs ((key, def) ∷ []) rest)

pub on_pushed : {D : Type 0} (read : Tree → D) (entries : List Entry) (i : ℕ) (key : List ℕ) (value : Tree) (def : D) (name : List ℕ) (all defs more : List (List ℕ × D)) → slice_get (keys_of entries) i ≡ Some key → slice_get (values_of entries) i ≡ Some value → def ≡ read value → name ≡ key → more ≡ defs ++ (name, def) ∷ [] → all ≡ defs ++ map (λ e. (e.0, read e.1)) (drop i entries) → all ≡ more ++ map (λ e. (e.0, read e.1)) (drop (i + 1) entries)
on_pushed read entries i key value def name all defs more k v d n m h =
    on_def read entries i key value def all defs k v d h ∙ ap (λ x. x ++ map (λ e. (e.0, read e.1)) (drop (i + 1) entries)) (ap (λ x. defs ++ (x, def) ∷ []) (sym n) ∙ sym m)

pub defs_end : {D : Type 0} (read : Tree → D) (entries : List Entry) (i : ℕ) (all defs : List (List ℕ × D)) → length entries ≤ i → all ≡ defs ++ map (λ e. (e.0, read e.1)) (drop i entries) → defs ≡ all
defs_end read entries i all defs past h = sym (h ∙ ap (λ es. defs ++ map (λ e. (e.0, read e.1)) es) (drop_all i entries past) ∙ append-nil defs)

-- The first entry of a table decides.
pub by_first : {D : Type 0} (none : D) (read : List ℕ → Tree → D) (tree : Tree) (entries : List Entry) (key : List ℕ) (value : Tree) → Some entries ≡ table_of tree → slice_get (keys_of entries) 0 ≡ Some key → slice_get (values_of entries) 0 ≡ Some value → read key value ≡ first_or none read (entries_of tree)
by_first none read tree entries key value e k v =
    sym (ap (first_or none read) (drop_entry entries 0 key value k v)) ∙ ap (λ o. first_or none read (unwrap_or o [])) e
