-- A configuration that is read of a tree without a fault has what every configuration has.
use Rattle.std.proofs.Common.{◌≡◌, ℕ, ◌≤◌, Bool, true, IsTrue, List, [], ◌∷◌, map, length, None, sym, ap, ◌∙◌, refl, subst, arith}
use Rattle.std.specs.Map.{keys_of}
use Rattle.std.specs.Ordering.{nat_cmp}
use Rattle.std.specs.List.Sorted.{IsStrictlySortedBy}
use Rattle.std.specs.Cmp.Lexicographic.{slice_cmp}
use Rattle.std.specs.Prelude.{codes}
use Rattle.std.proofs.lemmas.List.{length-map}
use Rattle.field_tree.specs.declared.tree.Tree.{Tree}
use Rattle.field_tree.specs.declared.values.Style.{Style}
use Rattle.field_tree.specs.Table.{KeysRise}
use Rattle.dyn_config.specs.Names.{is_name}
use Rattle.dyn_config.specs.Walk.{Entry}
use Rattle.dyn_config.specs.Schema.{configuration}
use Rattle.dyn_config.specs.Kept.{Routers, Services, Middlewares, AreFew, are_names, IsNamed, AreNamed, AreInRange}
use Rattle.dyn_config.specs.Readings.{declared_under, router_of, routers_of, service_of, services_of, middleware_of, middlewares_of}
use Rattle.dyn_config.proofs.Clear.{AreDeclared, routers_declared, services_declared, middlewares_declared}
use Rattle.dyn_config.proofs.InRange.{services_in_range, middlewares_in_range}

is_true : (b : Bool) → b ≡ true → IsTrue b
is_true b e = e

same_keys : {D : Type 0} (f : Tree → D) (entries : List Entry) → keys_of (map (λ e. (e.0, f e.1)) entries) ≡ keys_of entries
same_keys f [] = refl
same_keys f (e ∷ es) = ap (λ ks. e.0 ∷ ks) (same_keys f es)

same_names : {D : Type 0} (f : Tree → D) (entries : List Entry) → are_names (map (λ e. (e.0, f e.1)) entries) ≡ are_names entries
same_names f [] = refl
same_names f (e ∷ es) = ap (λ b. Rattle.std.specs.Prelude.◌&&◌ (is_name e.0) b) (same_names f es)

named_by : {D : Type 0} (f : Tree → D) (limit : ℕ) (entries : List Entry) → KeysRise entries → AreDeclared limit entries → IsNamed (map (λ e. (e.0, f e.1)) entries)
named_by f limit entries rising d =
    let P : List (List ℕ) → Type 0 = IsStrictlySortedBy (slice_cmp nat_cmp) in
    (subst P (sym (same_keys f entries)) rising, is_true _ (same_names f entries ∙ d.valid))

few_by : {D : Type 0} (f : Tree → D) (limit : ℕ) (entries : List Entry) → AreDeclared limit entries → length {A = List ℕ × D} (map (λ (e : Entry). (e.0, f e.1)) entries) ≤ limit
few_by {D} f limit entries d =
    let pair : Entry → List ℕ × D = λ e. (e.0, f e.1) in
    omega (arith, d.few, length-map entries pair)

module _ (style : Style) (tree : Tree) (clear : configuration style tree ≡ None) (routers : Routers) (services : Services) (middlewares : Middlewares)
    (r : routers ≡ routers_of style tree) (s : services ≡ services_of style tree) (m : middlewares ≡ middlewares_of style tree) where
  pub are_few : AreFew routers services middlewares
  are_few = rw (r, s, m) record {
    few_routers = few_by (router_of style) 2000 (declared_under (codes "routers") tree) (routers_declared style tree clear);
    few_services = few_by (service_of style) 500 (declared_under (codes "services") tree) (services_declared style tree clear);
    few_middlewares = few_by (middleware_of style) 500 (declared_under (codes "middlewares") tree) (middlewares_declared style tree clear);
  }

  pub are_named : KeysRise (declared_under (codes "routers") tree) → KeysRise (declared_under (codes "services") tree) → KeysRise (declared_under (codes "middlewares") tree) → AreNamed routers services middlewares
  are_named a b c = rw (r, s, m) (
    named_by (router_of style) 2000 (declared_under (codes "routers") tree) a (routers_declared style tree clear),
    (
      named_by (service_of style) 500 (declared_under (codes "services") tree) b (services_declared style tree clear),
      named_by (middleware_of style) 500 (declared_under (codes "middlewares") tree) c (middlewares_declared style tree clear),
    ),
  )

  pub are_in_range : AreInRange services middlewares
  are_in_range = rw (s, m) (
    is_true _ (services_in_range style (declared_under (codes "services") tree)),
    is_true _ (middlewares_in_range style (declared_under (codes "middlewares") tree)),
  )

-- Nothing that is declared rises.
pub none_rise : (entries : List Entry) → [] ≡ entries → KeysRise entries
unfolding IsStrictlySortedBy
none_rise [] e = tt
none_rise (x ∷ xs) e = absurd (cc)
