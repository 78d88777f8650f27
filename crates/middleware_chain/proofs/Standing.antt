-- What middlewares stand for, by the names under which they are declared.
use Rattle.std.proofs.Common.{◌≡◌, ◌∙◌, ℕ, ◌+◌, ◌<◌, ◌≤◌, ◌-◌, suc, zero, List, [], ◌∷◌, ◌++◌, map, length, get_or, Contains, Option, Some, None, Bool, true, false, slice_get, refl, sym, ap, subst, arith, cond, nat_le, append_assoc, option_map, option_and_then, is_some, ◌&&◌}
use Rattle.std.specs.List.{list_all}
use Rattle.std.proofs.lemmas.Bool.{and_from}
use Rattle.std.proofs.lemmas.List.{map-append}
use Rattle.std.proofs.lemmas.List.Folds.{list_all-append}
use Rattle.std.proofs.lemmas.Option.{slice_get-map, slice_get_within, get_or_from_slice_get}
use Rattle.dyn_config.specs.Names.{referred}
use Rattle.dyn_config.specs.declared.middleware.MiddlewareDef.{MiddlewareDef}
use Rattle.dyn_config.specs.declared.middleware.MiddlewareDef.TheVariants as def
use Rattle.middleware_graph.specs.declared.node.Node.{Node}
use Rattle.middleware_graph.specs.declared.node.Node.TheVariants as node
use Rattle.middleware_graph.specs.Graph.{flat, flat_next, flat_of, joined, if_few}
use Rattle.middleware_stage.specs.Faults.{is_chain}
use Rattle.middleware_stage.specs.Stage.{stage_def}
use Rattle.middleware_chain.specs.Names.{MiddlewareEntry, name_of, place_from, place_of}
use Rattle.middleware_chain.specs.Parts.{AreParts, IsPart, node_of, used_by}
use Rattle.middleware_chain.specs.Flattened.{IsFlattened, nothing, one, chain}
use Rattle.middleware_chain.specs.Stages.{are_built, is_built, built_at, def_of, def_at, defs_at, stage_of}
use Rattle.middleware_chain.specs.declared.part.Part.{Part}
use Rattle.middleware_chain.specs.declared.part.Part.TheVariants as part
use Rattle.middleware_chain.proofs.Named.{Found, found}

none_some : {X : Type 0} (x : X) → None ≡ Some x → ⊥
none_some x e = cc

some_is : {X : Type 0} (a b : X) → Some a ≡ Some b → a ≡ b
some_is a b e = cc

from_then : (f : List ℕ → Option (List ℕ)) (o : Option (List ℕ)) (ws : List ℕ) → option_and_then f o ≡ Some ws → (v : List ℕ) × ((o ≡ Some v) × (f v ≡ Some ws))
from_then f None ws e = absurd (none_some ws e)
from_then f (Some v) ws e = (v, (refl, e))

from_map : (f : List ℕ → List ℕ) (o : Option (List ℕ)) (ws : List ℕ) → option_map f o ≡ Some ws → (v : List ℕ) × ((o ≡ Some v) × (f v ≡ ws))
from_map f None ws e = absurd (none_some ws e)
from_map f (Some v) ws e = (v, (refl, some_is (f v) ws e))

from_cond : (b : Bool) (places ws : List ℕ) → cond b (Some places) None ≡ Some ws → Some places ≡ Some ws
from_cond true places ws e = e
from_cond false places ws e = absurd (none_some ws e)

from_few : (o : Option (List ℕ)) (ws : List ℕ) → if_few o ≡ Some ws → o ≡ Some ws
from_few None ws e = absurd (none_some ws e)
from_few (Some places) ws e = from_cond (nat_le (length places) 64) places ws e

-- what a declared middleware is by itself
pub record PartAt (all es : List MiddlewareEntry) (k : ℕ) (p : Part) : Type 0 where
  pub entry : MiddlewareEntry
  pub left : ℕ
  pub here : slice_get es k ≡ Some entry
  pub is : IsPart all left entry p

pub part_at : (all : List MiddlewareEntry) (left : ℕ) (es : List MiddlewareEntry) (ps : List Part) (after : ℕ) → AreParts all left es ps after → (k : ℕ) (p : Part)
    → slice_get ps k ≡ Some p → PartAt all es k p
part_at all left [] [] after are k p at = absurd (none_some p at)
part_at all left [] (q ∷ ps) after are k p at = absurd are
part_at all left (e ∷ es) [] after are k p at = absurd are
part_at all left (e ∷ es) (q ∷ ps) after (is, rest) zero p at =
    let same : q ≡ p = some_is q p at in
    record { entry = e; left = left; here = refl; is = subst (λ (x : Part). IsPart all left e x) same is }
part_at all left (e ∷ es) (q ∷ ps) after (is, rest) (suc k) p at =
    let later = part_at all (left - used_by e.def q) es ps after rest k p at in
    record { entry = later.entry; left = later.left; here = later.here; is = later.is }

-- the middleware at a place stands for what is built at these places
pub record Stands (all : List MiddlewareEntry) (parts : List Part) (place : ℕ) (ws : List ℕ) : Type 0 where
  pub entry : MiddlewareEntry
  pub here : slice_get all place ≡ Some entry
  pub front : (names : List (List ℕ)) (defs : List MiddlewareDef) → IsFlattened all names defs → IsFlattened all (entry.name ∷ names) (defs_at parts ws ++ defs)

has : (all : List MiddlewareEntry) (k : ℕ) (e : MiddlewareEntry) → slice_get all k ≡ Some e → Contains all e
has all k e at = (k, slice_get_within all k e at, get_or_from_slice_get all k e e at)

defs-append : (parts : List Part) (v w : List ℕ) → defs_at parts (v ++ w) ≡ defs_at parts v ++ defs_at parts w
defs-append parts v w = map-append (def_at parts) v w

list_first : (all : List MiddlewareEntry) (parts : List Part) (provider : ℕ) (r : List ℕ) (names : List (List ℕ)) (place : ℕ) (v w ws : List ℕ)
    → place_of all provider r ≡ Some place → Stands all parts place v → v ++ w ≡ ws → IsFlattened all names (defs_at parts w)
    → IsFlattened all (referred provider r ∷ names) (defs_at parts ws)
list_first all parts provider r names place v w ws leads stands e rest =
    let f = found MiddlewareEntry name_of 0 all (referred provider r) place leads in
    let at : place ≡ f.step = omega (arith, f.at_is) in
    let same : stands.entry ≡ f.item = some_is stands.entry f.item (sym stands.here ∙ ap (slice_get all) at ∙ f.here) in
    let named : stands.entry.name ≡ referred provider r = ap name_of same ∙ f.named in
    let P : List ℕ → Type 0 = λ n. IsFlattened all (n ∷ names) (defs_at parts ws) in
    let Q : List MiddlewareDef → Type 0 = λ ds. IsFlattened all (stands.entry.name ∷ names) ds in
    subst P named (subst Q (sym (defs-append parts v w) ∙ ap (defs_at parts) e) (stands.front names (defs_at parts w) rest))

listed_by : (all : List MiddlewareEntry) (parts : List Part) (provider : ℕ) (each : Option ℕ → Option (List ℕ)) → each None ≡ None
    → ((m : ℕ) (v : List ℕ) → each (Some m) ≡ Some v → Stands all parts m v)
    → (r : List ℕ) (names : List (List ℕ)) (o : Option ℕ) (v w ws : List ℕ) → place_of all provider r ≡ o → each o ≡ Some v → v ++ w ≡ ws → IsFlattened all names (defs_at parts w)
    → IsFlattened all (referred provider r ∷ names) (defs_at parts ws)
listed_by all parts provider each nowhere somewhere r names None v w ws leads told e rest = absurd (none_some v (sym nowhere ∙ told))
listed_by all parts provider each nowhere somewhere r names (Some place) v w ws leads told e rest =
    list_first all parts provider r names place v w ws leads (somewhere place v told) e rest

-- what references stand for together
listed : (all : List MiddlewareEntry) (parts : List Part) (provider : ℕ) (each : Option ℕ → Option (List ℕ)) → each None ≡ None
    → ((m : ℕ) (v : List ℕ) → each (Some m) ≡ Some v → Stands all parts m v)
    → (refs : List (List ℕ)) (ws : List ℕ) → joined each (map (place_of all provider) refs) ≡ Some ws → IsFlattened all (map (referred provider) refs) (defs_at parts ws)
listed all parts provider each nowhere somewhere [] ws e =
    let same : [] ≡ ws = some_is [] ws e in
    let P : List ℕ → Type 0 = λ us. IsFlattened all [] (defs_at parts us) in
    subst P same nothing
listed all parts provider each nowhere somewhere (r ∷ refs) ws e =
    let (v, (told, more)) = from_then (λ front. option_map (λ back. front ++ back) (joined each (map (place_of all provider) refs))) (each (place_of all provider r)) ws e in
    let (w, (rest, whole)) = from_map (λ back. v ++ back) (joined each (map (place_of all provider) refs)) ws more in
    listed_by all parts provider each nowhere somewhere r (map (referred provider) refs) (place_of all provider r) v w ws refl told whole
    (listed all parts provider each nowhere somewhere refs w rest)

flat_nowhere : (nodes : List Node) (d : ℕ) → flat nodes d None ≡ None
flat_nowhere nodes zero = refl
flat_nowhere nodes (suc d) = refl

-- by what stands at the place
stands_part : (all : List MiddlewareEntry) (parts : List Part) (each : Option ℕ → Option (List ℕ)) → each None ≡ None
    → ((m : ℕ) (v : List ℕ) → each (Some m) ≡ Some v → Stands all parts m v)
    → (place : ℕ) (p : Part) (ws : List ℕ) → slice_get parts place ≡ Some p → PartAt all all place p → flat_of each place (Some (node_of p)) ≡ Some ws → Stands all parts place ws
stands_part all parts each nowhere somewhere place (part.Stage stage) ws at is e =
    let same : place ∷ [] ≡ ws = some_is (place ∷ []) ws e in
    let def_is : def_at parts place ≡ is.entry.def = ap (λ (o : Option Part). def_of (stage_of o)) at ∙ is.is.2 in
    let P : List ℕ → Type 0 = λ us. Stands all parts place us in
    subst P same (record {
      entry = is.entry;
      here = is.here;
      front = λ names defs rest.
          let Q : MiddlewareDef → Type 0 = λ d. IsFlattened all (is.entry.name ∷ names) (d ∷ defs) in
          subst Q (sym def_is) (one is.entry names defs (has all place is.entry is.here) is.is.0 rest);
    })
stands_part all parts each nowhere somewhere place (part.Faulty f) ws at is e = absurd (none_some ws e)
stands_part all parts each nowhere somewhere place (part.Chain members) ws at is e =
    let (names, chain_is, members_are) = is.is in
    let told : joined each (map (place_of all is.entry.provider) names) ≡ Some ws = ap (joined each) (sym members_are) ∙ from_few (joined each members) ws e in
    let inner = listed all parts is.entry.provider each nowhere somewhere names ws told in
    record {
      entry = is.entry;
      here = is.here;
      front = λ others defs rest. chain is.entry names others (defs_at parts ws) defs (has all place is.entry is.here) chain_is inner rest;
    }

stands_by : (all : List MiddlewareEntry) (parts : List Part) → ((k : ℕ) (p : Part) → slice_get parts k ≡ Some p → PartAt all all k p)
    → (each : Option ℕ → Option (List ℕ)) → each None ≡ None → ((m : ℕ) (v : List ℕ) → each (Some m) ≡ Some v → Stands all parts m v)
    → (place : ℕ) (o : Option Part) (ws : List ℕ) → slice_get parts place ≡ o → flat_of each place (option_map node_of o) ≡ Some ws → Stands all parts place ws
stands_by all parts by_itself each nowhere somewhere place None ws at e = absurd (none_some ws e)
stands_by all parts by_itself each nowhere somewhere place (Some p) ws at e = stands_part all parts each nowhere somewhere place p ws at (by_itself place p at) e

-- the flattened list of a place is what the middleware there stands for
pub stands : (all : List MiddlewareEntry) (parts : List Part) → ((k : ℕ) (p : Part) → slice_get parts k ≡ Some p → PartAt all all k p)
    → (d place : ℕ) (ws : List ℕ) → flat (map node_of parts) d (Some place) ≡ Some ws → Stands all parts place ws
stands all parts by_itself zero place ws e = absurd (none_some ws e)
stands all parts by_itself (suc d) place ws e =
    stands_by all parts by_itself (flat (map node_of parts) d) (flat_nowhere (map node_of parts) d) (λ m v told. stands all parts by_itself d m v told) place (slice_get parts place) ws refl
    (ap (flat_of (flat (map node_of parts) d) place) (sym (slice_get-map node_of parts place)) ∙ e)

-- something is built at each place of a flattened list
all_joined : (parts : List Part) (each : Option ℕ → Option (List ℕ)) → ((m : Option ℕ) (v : List ℕ) → each m ≡ Some v → are_built parts v ≡ true)
    → (members : List (Option ℕ)) (ws : List ℕ) → joined each members ≡ Some ws → are_built parts ws ≡ true
all_joined parts each built [] ws e = ap (are_built parts) (sym (some_is [] ws e))
all_joined parts each built (m ∷ ms) ws e =
    let (v, (told, more)) = from_then (λ front. option_map (λ back. front ++ back) (joined each ms)) (each m) ws e in
    let (w, (rest, whole)) = from_map (λ back. v ++ back) (joined each ms) ws more in
    ap (are_built parts) (sym whole) ∙ list_all-append (is_built parts) v w
    ∙ and_from (are_built parts v) (are_built parts w) (built m v told) (all_joined parts each built ms w rest)

all_part : (parts : List Part) (each : Option ℕ → Option (List ℕ)) → ((m : Option ℕ) (v : List ℕ) → each m ≡ Some v → are_built parts v ≡ true)
    → (place : ℕ) (o : Option Part) (ws : List ℕ) → slice_get parts place ≡ o → flat_of each place (option_map node_of o) ≡ Some ws → are_built parts ws ≡ true
all_part parts each built place None ws at e = absurd (none_some ws e)
all_part parts each built place (Some (part.Stage stage)) ws at e =
    ap (are_built parts) (sym (some_is (place ∷ []) ws e)) ∙ ap (λ (o : Option Part). is_some (stage_of o) && true) at
all_part parts each built place (Some (part.Faulty f)) ws at e = absurd (none_some ws e)
all_part parts each built place (Some (part.Chain members)) ws at e = all_joined parts each built members ws (from_few (joined each members) ws e)

pub flat_built : (parts : List Part) (d : ℕ) (m : Option ℕ) (ws : List ℕ) → flat (map node_of parts) d m ≡ Some ws → are_built parts ws ≡ true
flat_built parts zero m ws e = absurd (none_some ws e)
flat_built parts (suc d) None ws e = absurd (none_some ws e)
flat_built parts (suc d) (Some place) ws e =
    all_part parts (flat (map node_of parts) d) (λ n v told. flat_built parts d n v told) place (slice_get parts place) ws refl
    (ap (flat_of (flat (map node_of parts) d) place) (sym (slice_get-map node_of parts place)) ∙ e)
