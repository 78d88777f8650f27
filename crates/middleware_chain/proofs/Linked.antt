-- What names of middlewares stand for, one after another.
use Rattle.std.proofs.Common.{◌≡◌, ◌∙◌, ℕ, ◌+◌, ◌<◌, ◌≤◌, suc, zero, List, [], ◌∷◌, ◌++◌, map, length, get_or, take, Option, Some, None, Bool, true, false, slice_get, refl, sym, ap, subst, arith, cond, bytes_eq, append_assoc, append-nil, option_map, option_and_then, is_some, unwrap_or, length-append, sum_by}
use Rattle.std.specs.List.{list_all}
use Rattle.std.proofs.lemmas.Bool.{and_from, and_parts, false≢true}
use Rattle.std.proofs.lemmas.List.{map-append, take_all}
use Rattle.std.proofs.lemmas.List.Folds.{list_all-append}
use Rattle.std.proofs.lemmas.List.Sums.{sum_by_more}
use Rattle.std.proofs.lemmas.Option.{slice_get-map, slice_get-get_or, slice_get_within}
use Rattle.std.proofs.Math.Seq.{take-suc}
use Rattle.dyn_config.specs.declared.middleware.MiddlewareDef.{MiddlewareDef}
use Rattle.middleware_graph.specs.Graph.{flat, max_depth}
use Rattle.middleware_graph.specs.States.{AreStates, IsState}
use Rattle.middleware_graph.specs.Tables.{IsTable, told}
use Rattle.middleware_graph.specs.declared.node.Node.{Node}
use Rattle.middleware_graph.specs.declared.node.Node.TheVariants as node
use Rattle.middleware_graph.specs.declared.state.State.{State}
use Rattle.middleware_graph.specs.declared.state.State.TheVariants.{Enabled, Disabled}
use Rattle.middleware_chain.specs.Built.{AreChains, listed_name, listed_state}
use Rattle.middleware_chain.specs.Chained.{IsFlatNamed}
use Rattle.middleware_chain.specs.Counts.{Listed, count_named, count_of, flat_length, length_named}
use Rattle.middleware_chain.specs.Flattened.{IsFlattened, nothing}
use Rattle.middleware_chain.specs.Names.{MiddlewareEntry, name_of, place_from}
use Rattle.middleware_chain.specs.Parts.{node_of}
use Rattle.middleware_chain.specs.Stages.{AreAllBuilt, AreCounted, are_built, def_at, defs_at, is_built}
use Rattle.middleware_chain.specs.declared.chains.Chains.{Chains}
use Rattle.middleware_chain.specs.declared.part.Part.{Part}
use Rattle.middleware_chain.proofs.Listing.{take_one}
use Rattle.middleware_chain.proofs.Named.{Found, found, same_place}
use Rattle.middleware_chain.proofs.Standing.{Stands, flat_built, part_at, stands}

none_some : {X : Type 0} (x : X) → None ≡ Some x → ⊥
none_some x e = cc

some_is : {X : Type 0} (a b : X) → Some a ≡ Some b → a ≡ b
some_is a b e = cc

-- what tables and states say together
pub counted_flats : (nodes : List Node) (flats : List (Option (List ℕ))) (states : List State) (middlewares : List Listed)
    → IsTable nodes max_depth flats → AreStates nodes states → map listed_state middlewares ≡ states → AreCounted middlewares flats
counted_flats nodes flats states middlewares table are same place m count at is =
    let state : slice_get states place ≡ Some (Enabled count) =
    ap (λ (ss : List State). slice_get ss place) (sym same) ∙ slice_get-map listed_state middlewares place ∙ ap (option_map listed_state) at ∙ ap Some is in
    let l : place < length states = slice_get_within states place (Enabled count) state in
    let inside : place < length nodes = omega (arith, l, are.size) in
    let node_is : slice_get nodes place ≡ Some (get_or nodes place node.Stage) = slice_get-get_or nodes place node.Stage inside in
    let (places, flat_is, long) = are.each place (get_or nodes place node.Stage) (Enabled count) node_is state in
    ap (option_map length) (table.flats (Some place) ∙ flat_is) ∙ ap Some long

pub all_flats_built : (parts : List Part) (flats : List (Option (List ℕ))) → IsTable (map node_of parts) max_depth flats → AreAllBuilt parts flats
all_flats_built parts flats table place places is = flat_built parts max_depth (Some place) places (sym (table.flats (Some place)) ∙ is)

-- the first middleware with a name
count_by : (n : ℕ) (m : Listed) (ms : List Listed) (name : List ℕ) (at : ℕ) (b : Bool)
    → (place_from listed_name (n + 1) ms name ≡ Some at → (step : ℕ) × ((at ≡ n + 1 + step) × (count_named ms name ≡ option_and_then (λ (x : Listed). count_of x.1) (slice_get ms step))))
    → cond b (Some n) (place_from listed_name (n + 1) ms name) ≡ Some at
    → (step : ℕ) × ((at ≡ n + step) × (cond b (count_of m.1) (count_named ms name) ≡ option_and_then (λ (x : Listed). count_of x.1) (slice_get (m ∷ ms) step)))
count_by n m ms name at true later h = let same : n ≡ at = some_is n at h in (0, (omega (arith, same), refl))
count_by n m ms name at false later h = let (step, (is, same)) = later h in (suc step, (omega (arith, is), same))

count_at : (n : ℕ) (ms : List Listed) (name : List ℕ) (at : ℕ) → place_from listed_name n ms name ≡ Some at
    → (step : ℕ) × ((at ≡ n + step) × (count_named ms name ≡ option_and_then (λ (x : Listed). count_of x.1) (slice_get ms step)))
count_at n [] name at h = absurd (none_some at h)
count_at n (m ∷ ms) name at h = count_by n m ms name at (bytes_eq m.0 name) (λ k. count_at (n + 1) ms name at k) h

no_place_by : (n : ℕ) (m : Listed) (ms : List Listed) (name : List ℕ) (b : Bool) → (place_from listed_name (n + 1) ms name ≡ None → is_some (count_named ms name) ≡ false)
    → cond b (Some n) (place_from listed_name (n + 1) ms name) ≡ None → is_some (cond b (count_of m.1) (count_named ms name)) ≡ false
no_place_by n m ms name true later h = absurd cc
no_place_by n m ms name false later h = later h

-- a name without a place is none of a middleware that can be used
pub no_place : (n : ℕ) (ms : List Listed) (name : List ℕ) → place_from listed_name n ms name ≡ None → is_some (count_named ms name) ≡ false
no_place n [] name h = refl
no_place n (m ∷ ms) name h = no_place_by n m ms name (bytes_eq m.0 name) (λ k. no_place (n + 1) ms name k) h

count_is : (s : State) → is_some (count_of s) ≡ true → (count : ℕ) × (s ≡ Enabled count)
count_is (Enabled count) e = (count, refl)
count_is (Disabled f) e = absurd (false≢true e)

listed_is : (o : Option Listed) → is_some (option_and_then (λ (x : Listed). count_of x.1) o) ≡ true → (m : Listed) × (count : ℕ) × (o ≡ Some m) × (m.1 ≡ Enabled count)
listed_is None e = absurd (false≢true e)
listed_is (Some m) e = let (count, is) = count_is m.1 e in (m, count, refl, is)

-- what a usable name's place says
pub record Usable (middlewares : List Listed) (flats : List (Option (List ℕ))) (name : List ℕ) (place : ℕ) : Type 0 where
  pub count : ℕ
  pub counts : count_named middlewares name ≡ Some count
  pub flat_is : option_map length (told (slice_get flats place)) ≡ Some count

pub usable : (middlewares : List Listed) (flats : List (Option (List ℕ))) (name : List ℕ) (place : ℕ) → AreCounted middlewares flats
    → place_from listed_name 0 middlewares name ≡ Some place → is_some (count_named middlewares name) ≡ true → Usable middlewares flats name place
usable middlewares flats name place counted at some =
    let (step, (is, same)) = count_at 0 middlewares name place at in
    let (m, count, here, enabled) = listed_is (slice_get middlewares step) (sym (ap is_some same) ∙ some) in
    let step_is : step ≡ place = omega (arith, is) in
    let there : slice_get middlewares place ≡ Some m = ap (slice_get middlewares) (sym step_is) ∙ here in
    record {
      count = count;
      counts = same ∙ ap (option_and_then (λ (x : Listed). count_of x.1)) here ∙ ap count_of enabled;
      flat_is = counted place m count there enabled;
    }

some_long : (o : Option (List ℕ)) (count : ℕ) → option_map length o ≡ Some count → o ≡ None → ⊥
some_long None count e n = none_some count e
some_long (Some ws) count e n = absurd cc

pub no_flat : (middlewares : List Listed) (flats : List (Option (List ℕ))) (name : List ℕ) (place : ℕ) → AreCounted middlewares flats
    → place_from listed_name 0 middlewares name ≡ Some place → is_some (count_named middlewares name) ≡ true → told (slice_get flats place) ≡ None → ⊥
no_flat middlewares flats name place counted at some none =
    let u = usable middlewares flats name place counted at some in some_long (told (slice_get flats place)) u.count u.flat_is none

pub flat_named : (chains : Chains) (name : List ℕ) (place : ℕ) (ws : List ℕ) → place_from listed_name 0 chains.middlewares name ≡ Some place
    → is_some (count_named chains.middlewares name) ≡ true → told (slice_get chains.flats place) ≡ Some ws → IsFlatNamed chains name ws
flat_named chains name place ws at some is =
    let u = usable chains.middlewares chains.flats name place chains.counted at some in
    record {
      place = place;
      named = at;
      flat = is;
      count = u.counts ∙ sym u.flat_is ∙ ap (option_map length) is;
      there = chains.all_built place ws is;
    }

-- what holds of each name
pub of_each : (p : List ℕ → Bool) (xs : List (List ℕ)) (i : ℕ) (x : List ℕ) → list_all p xs ≡ true → i < length xs → x ≡ get_or xs i x → p x ≡ true
of_each p [] i x all l at = absurd (omega (arith, l))
of_each p (y ∷ ys) zero x all l at = ap p at ∙ (and_parts (p y) (list_all p ys) all).0
of_each p (y ∷ ys) (suc i) x all l at = of_each p ys i x (and_parts (p y) (list_all p ys) all).1 (omega (arith, l)) at

-- the count after one more name
pub count_next : (chains : Chains) (names : List (List ℕ)) (i : ℕ) (name : List ℕ) (old new ws : List ℕ) → i < length names → name ≡ get_or names i name → IsFlatNamed chains name ws
    → new ≡ old ++ ws → length old ≡ flat_length chains.middlewares (take i names) → length new ≡ flat_length chains.middlewares (take (i + 1) names)
count_next chains names i name old new ws l at is grown before =
    let one : length_named chains.middlewares (get_or names i name) ≡ length ws = ap (length_named chains.middlewares) (sym at) ∙ ap (λ (o : Option ℕ). unwrap_or o 0) is.count in
    let sums : flat_length chains.middlewares (take (i + 1) names) ≡ flat_length chains.middlewares (take i names) + length_named chains.middlewares (get_or names i name) =
    sum_by_more (length_named chains.middlewares) names i name l in
    let long : length new ≡ length old + length ws = ap length grown ∙ length-append old ws in
    omega (arith, one, sums, long, before)

pub there_next : (parts : List Part) (old new ws : List ℕ) → new ≡ old ++ ws → are_built parts old ≡ true → are_built parts ws ≡ true → are_built parts new ≡ true
there_next parts old new ws grown a b = ap (are_built parts) grown ∙ list_all-append (is_built parts) old ws ∙ and_from (are_built parts old) (are_built parts ws) a b

-- what the names so far stand for, before what others stand for
abbrev pub Fronts : Chains → List (List ℕ) → List ℕ → Type 0
Fronts chains names places =
    (all : List MiddlewareEntry) (spare : ℕ) → AreChains all spare chains → (others : List (List ℕ)) (defs : List MiddlewareDef) → IsFlattened all others defs
    → IsFlattened all (names ++ others) (defs_at chains.parts places ++ defs)

-- a name of these chains stands for its places
named_stands : (chains : Chains) (name ws : List ℕ) (all : List MiddlewareEntry) (spare : ℕ) → AreChains all spare chains → IsFlatNamed chains name ws
    → (others : List (List ℕ)) (defs : List MiddlewareDef) → IsFlattened all others defs → IsFlattened all (name ∷ others) (defs_at chains.parts ws ++ defs)
named_stands chains name ws all spare are is others defs rest =
    let at : place_from name_of 0 all name ≡ Some is.place = sym (same_place Listed MiddlewareEntry listed_name name_of 0 chains.middlewares all name are.names) ∙ is.named in
    let f = found MiddlewareEntry name_of 0 all name is.place at in
    let flat_is : flat (map node_of chains.parts) max_depth (Some is.place) ≡ Some ws = sym (are.flats.flats (Some is.place)) ∙ is.flat in
    let s = stands all chains.parts (λ k p here. part_at all spare all chains.parts are.left are.parts k p here) max_depth is.place ws flat_is in
    let step : is.place ≡ f.step = omega (arith, f.at_is) in
    let same : s.entry ≡ f.item = some_is s.entry f.item (sym s.here ∙ ap (slice_get all) step ∙ f.here) in
    let named : s.entry.name ≡ name = ap name_of same ∙ f.named in
    let P : List ℕ → Type 0 = λ n. IsFlattened all (n ∷ others) (defs_at chains.parts ws ++ defs) in
    subst P named (s.front others defs rest)

pub fronts_next : (chains : Chains) (names : List (List ℕ)) (i : ℕ) (name : List ℕ) (old new ws : List ℕ) → i < length names → name ≡ get_or names i name → IsFlatNamed chains name ws
    → new ≡ old ++ ws → Fronts chains (take i names) old → Fronts chains (take (i + 1) names) new
fronts_next chains names i name old new ws l at is grown before all spare are others defs rest =
    let inner = before all spare are (name ∷ others) (defs_at chains.parts ws ++ defs) (named_stands chains name ws all spare are is others defs rest) in
    let names_are : take i names ++ name ∷ others ≡ take (i + 1) names ++ others =
    sym (append_assoc (take i names) (name ∷ []) others) ∙ ap (λ (xs : List (List ℕ)). xs ++ others) (sym (take_one names i name l at)) in
    let defs_are : defs_at chains.parts old ++ (defs_at chains.parts ws ++ defs) ≡ defs_at chains.parts new ++ defs =
    sym (append_assoc (defs_at chains.parts old) (defs_at chains.parts ws) defs)
    ∙ ap (λ (ds : List MiddlewareDef). ds ++ defs) (sym (map-append (def_at chains.parts) old ws) ∙ ap (defs_at chains.parts) (sym grown)) in
    let P : List (List ℕ) → Type 0 = λ ns. IsFlattened all ns (defs_at chains.parts old ++ (defs_at chains.parts ws ++ defs)) in
    let Q : List MiddlewareDef → Type 0 = λ ds. IsFlattened all (take (i + 1) names ++ others) ds in
    subst Q defs_are (subst P names_are inner)

-- all names were read
pub count_done : (chains : Chains) (names : List (List ℕ)) (i : ℕ) (places : List ℕ) → length names ≤ i → length places ≡ flat_length chains.middlewares (take i names)
    → flat_length chains.middlewares names ≤ 64 → length places ≤ 64
count_done chains names i places over count short = omega (arith, count, short, ap (flat_length chains.middlewares) (take_all i names over))

pub fronts_done : (chains : Chains) (names : List (List ℕ)) (i : ℕ) (places : List ℕ) → length names ≤ i → Fronts chains (take i names) places
    → (all : List MiddlewareEntry) (spare : ℕ) → AreChains all spare chains → IsFlattened all names (defs_at chains.parts places)
fronts_done chains names i places over before all spare are =
    let inner = before all spare are [] [] nothing in
    let P : List (List ℕ) → Type 0 = λ ns. IsFlattened all ns (defs_at chains.parts places ++ []) in
    let Q : List MiddlewareDef → Type 0 = λ ds. IsFlattened all names ds in
    subst Q (append-nil (defs_at chains.parts places)) (subst P (append-nil (take i names) ∙ take_all i names over) inner)
