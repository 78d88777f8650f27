-- What is known of a tree without a fault.
use Rattle.std.proofs.Common.{◌≡◌, ℕ, ◌≤◌, Bool, true, false, if◌then◌else◌, nat_le, List, [], ◌∷◌, ◌++◌, map, length, Option, Some, None, refl, sym, ap, ◌∙◌, arith}
use Rattle.std.specs.List.{fold, flat_map, list_all, AllByRecursion}
use Rattle.std.specs.Option.{unwrap_or, option_map}
use Rattle.std.specs.Map.{keys_of}
use Rattle.std.specs.Prelude.{codes}
use Rattle.std.specs.declared.cmp.Ordering.{Ordering}
use Rattle.std.proofs.lemmas.Bool.Decides.{nat_tests}
use Rattle.field_tree.specs.declared.tree.Tree.{Tree, out-Tree}
use Rattle.field_tree.specs.declared.tree.Tree.TheOpen.{Tree-F}
use Rattle.field_tree.specs.declared.values.Style.{Style}
use Rattle.field_tree.specs.declared.values.Style.TheVariants.{Typed, Texts}
use Rattle.field_tree.specs.Trees.{table_in, table_of, entries_of}
use Rattle.field_tree.specs.Values.{is_empty_at}
use Rattle.field_tree.specs.Keys.{walk_cmp}
use Rattle.dyn_config.specs.declared.found.Fault.{Fault}
use Rattle.dyn_config.specs.declared.found.Found.{Found}
use Rattle.dyn_config.specs.declared.found.Cause.TheVariants.{BadName as bad_name, TooMany as too_many}
use Rattle.dyn_config.specs.Names.{is_name}
use Rattle.dyn_config.specs.Walk.{Entry, Stop, Check, Row, here, sooner, first_of, at_key, by_walk, is_less, is_empty_in, entries_in, in_entries, under_key, stops_in, row_stops, unknown_stop, options_fault, table, name_stop, names_fault, names, one_of}
use Rattle.dyn_config.specs.Schema.{router_rows, service_rows, middleware_rows, http_rows, top_rows, configuration}
use Rattle.dyn_config.specs.Kept.{are_names}
use Rattle.dyn_config.specs.Readings.{value_first, value_under, entries_under, declared_under}

-- No stop has a fault.
abbrev AreClear : List Stop → Type 0
AreClear stops = AllByRecursion (λ stop. stop.1 ≡ None) stops

some_stays : (b : Bool) (x y : Found) → (if b then Some x else Some y) ≡ None → ⊥
some_stays true x y e = cc
some_stays false x y e = cc

clear_first : (order : List ℕ → List ℕ → Ordering) (stops : List Stop) (first : Option Found) → fold (sooner order) first stops ≡ None → (first ≡ None) × AreClear stops
clear_first order [] first e = (e, tt)
clear_first order ((key, None) ∷ stops) first e = let r = clear_first order stops first e in (r.0, (refl, r.1))
clear_first order ((key, Some fault) ∷ stops) None e =
    let r = clear_first order stops (Some (record { key = key; fault = fault })) e in absurd (cc (r.0))
clear_first order ((key, Some fault) ∷ stops) (Some first) e =
    let r = clear_first order stops (if is_less (order key first.key) then Some (record { key = key; fault = fault }) else Some first) e in
    absurd (some_stays (is_less (order key first.key)) (record { key = key; fault = fault }) first r.0)

at_key_clear : (first : Option Found) → at_key first ≡ None → first ≡ None
at_key_clear None e = refl
at_key_clear (Some first) e = absurd (cc)

walk_clear : (stops : List Stop) → by_walk stops ≡ None → AreClear stops
walk_clear stops e = (clear_first walk_cmp stops None (at_key_clear (first_of walk_cmp stops) e)).1

clear_left : (xs ys : List Stop) → AreClear (xs ++ ys) → AreClear xs
clear_left [] ys h = tt
clear_left (x ∷ xs) ys h = (h.0, clear_left xs ys h.1)

clear_right : (xs ys : List Stop) → AreClear (xs ++ ys) → AreClear ys
clear_right [] ys h = h
clear_right (x ∷ xs) ys h = clear_right xs ys h.1

-- A value that is read has no fault.
abbrev IsClearAt : Style → List Entry → Row → Type 0
IsClearAt style entries row = (value : Tree) → value_first (under_key row.key entries) ≡ Some value → row.check style value ≡ None

clear_in : (style : Style) (row : Row) (entries : List Entry) → AreClear (stops_in style row entries) → (value : Tree) → value_first entries ≡ Some value → row.check style value ≡ None
clear_in style row [] h value v = absurd (cc)
clear_in style row (entry ∷ []) h value v = let same : entry.1 ≡ value = cc in ap (row.check style) (sym same) ∙ h.0
clear_in style row (entry ∷ second ∷ others) h value v = let same : entry.1 ≡ value = cc in ap (row.check style) (sym same) ∙ h.0

rows_clear : (style : Style) (entries : List Entry) (rows : List Row) → AreClear (flat_map (row_stops style entries) rows) → AllByRecursion (IsClearAt style entries) rows
rows_clear style entries [] h = tt
rows_clear style entries (row ∷ rows) h = (
  clear_in style row (under_key row.key entries) (clear_left (row_stops style entries row) (flat_map (row_stops style entries) rows) h),
  rows_clear style entries rows (clear_right (row_stops style entries row) (flat_map (row_stops style entries) rows) h),
)

empty_has_none : (style : Style) (tree : Tree) → is_empty_in style tree ≡ true → table_of tree ≡ None
empty_has_none Typed tree e = absurd (cc)
empty_has_none Texts tree e = by_node (out-Tree tree) e
  where
    by_node : (t : Tree-F Tree) → is_empty_at t ≡ true → table_in t ≡ None
    by_node (Tree-F.Text text) h = refl
    by_node (Tree-F.Num n) h = absurd (cc)
    by_node (Tree-F.Flag b) h = absurd (cc)
    by_node Tree-F.Other h = absurd (cc)
    by_node (Tree-F.List ts) h = absurd (cc)
    by_node (Tree-F.Table fs) h = absurd (cc)

entries_clear : (style : Style) (tree : Tree) (check : List Entry → Option Fault) → in_entries check (entries_in style tree) ≡ None → check (entries_of tree) ≡ None
entries_clear style tree check e = by_test (is_empty_in style tree) (table_of tree) refl refl e
  where
    by_test : (b : Bool) (o : Option (List Entry)) → is_empty_in style tree ≡ b → table_of tree ≡ o → in_entries check (if b then Some [] else o) ≡ None → check (entries_of tree) ≡ None
    by_test true o t f h = ap (λ x. check (unwrap_or x [])) (empty_has_none style tree t) ∙ h
    by_test false None t f h = absurd (cc)
    by_test false (Some entries) t f h = ap (λ x. check (unwrap_or x [])) f ∙ h

table_clear : (rows : List Row) (style : Style) (tree : Tree) → table rows style tree ≡ None → AllByRecursion (IsClearAt style (entries_of tree)) rows
table_clear rows style tree e =
    let entries = entries_of tree in
    rows_clear style entries rows (clear_left (flat_map (row_stops style entries) rows) (map (unknown_stop rows) entries)
    (walk_clear (flat_map (row_stops style entries) rows ++ map (unknown_stop rows) entries) (entries_clear style tree (options_fault rows style) e)))

names_valid : (check : Check) (style : Style) (entries : List Entry) → AreClear (map (name_stop check style) entries) → are_names entries ≡ true
names_valid check style [] h = refl
names_valid check style (entry ∷ entries) h = by_test (is_name entry.0) refl h.0 (names_valid check style entries h.1)
  where
    by_test : (b : Bool) → is_name entry.0 ≡ b → (if b then check style entry.1 else here bad_name) ≡ None → are_names entries ≡ true → are_names (entry ∷ entries) ≡ true
    by_test true t f r = ap (λ b. Rattle.std.specs.Prelude.◌&&◌ b (are_names entries)) t ∙ r
    by_test false t f r = absurd (cc)

-- At most so many valid names.
pub record AreDeclared (limit : ℕ) (entries : List Entry) : Type 0 where
  pub few : length entries ≤ limit
  pub valid : are_names entries ≡ true

limited : (n limit : ℕ) → nat_le n limit ≡ true → n ≤ limit
limited n limit t = grind (arith, nat_tests)

names_clear : (limit : ℕ) (check : Check) (style : Style) (entries : List Entry) → names_fault limit check style entries ≡ None → AreDeclared limit entries
names_clear limit check style entries e = by_test (nat_le (length entries) limit) refl e
  where
    by_test : (b : Bool) → nat_le (length entries) limit ≡ b → (if b then by_walk (map (name_stop check style) entries) else here too_many) ≡ None → AreDeclared limit entries
    by_test true t f = record { few = limited (length entries) limit t; valid = names_valid check style entries (walk_clear (map (name_stop check style) entries) f) }
    by_test false t f = absurd (cc)

none_declared : (limit : ℕ) → AreDeclared limit []
none_declared limit = record { few = omega arith; valid = refl }

-- What is declared under a key of `http`.
declared_clear : (limit : ℕ) (check : Check) (key : List ℕ) (style : Style) (tree : Tree) → ((http : Tree) → value_under (codes "http") tree ≡ Some http → (value : Tree) → value_under key http ≡ Some value → names limit check style value ≡ None) → AreDeclared limit (declared_under key tree)
declared_clear limit check key style tree h = by_http (value_under (codes "http") tree) refl
  where
    by_http : (o : Option Tree) → value_under (codes "http") tree ≡ o → AreDeclared limit (unwrap_or (option_map (entries_under key) o) [])
    by_http None e = none_declared limit
    by_http (Some http) e = by_value (value_under key http) refl
      where
        by_value : (o : Option Tree) → value_under key http ≡ o → AreDeclared limit (unwrap_or (option_map entries_of o) [])
        by_value None f = none_declared limit
        by_value (Some value) f = names_clear limit check style (entries_of value) (entries_clear style value (names_fault limit check style) (h http e value f))

module _ (style : Style) (tree : Tree) (clear : configuration style tree ≡ None) where
  http_clear : (http : Tree) → value_under (codes "http") tree ≡ Some http → AllByRecursion (IsClearAt style (entries_of http)) http_rows
  http_clear http e = table_clear http_rows style http ((table_clear top_rows style tree clear).0 http e)

  pub routers_declared : AreDeclared 2000 (declared_under (codes "routers") tree)
  routers_declared = declared_clear 2000 (table router_rows) (codes "routers") style tree (λ http e value f. (http_clear http e).0 value f)

  pub services_declared : AreDeclared 500 (declared_under (codes "services") tree)
  services_declared = declared_clear 500 (one_of service_rows) (codes "services") style tree (λ http e value f. (http_clear http e).1.0 value f)

  pub middlewares_declared : AreDeclared 500 (declared_under (codes "middlewares") tree)
  middlewares_declared = declared_clear 500 (one_of middleware_rows) (codes "middlewares") style tree (λ http e value f. (http_clear http e).1.1.0 value f)
