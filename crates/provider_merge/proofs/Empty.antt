-- A configuration that declares nothing.
use Rattle.std.proofs.Common.{◌≡◌, ℕ, List, [], length, refl, sym, ap, subst, arith}
use Rattle.std.proofs.lemmas.Cmp.{nat_list_cmp_total}
use Rattle.std.proofs.lemmas.Map.Keys.{sorted_from_all_adjacent}
use Rattle.dyn_config.specs.Kept.{Routers, Services, Middlewares, AreFew, IsNamed, AreNamed, AreInRange}

pub empty_few : (rs : Routers) (ss : Services) (ms : Middlewares) → rs ≡ [] → ss ≡ [] → ms ≡ [] → AreFew rs ss ms
empty_few rs ss ms a b c = record {
  few_routers = omega (arith, ap length a);
  few_services = omega (arith, ap length b);
  few_middlewares = omega (arith, ap length c);
}

none_named : {D : Type 0} (ds : List (List ℕ × D)) → ds ≡ [] → IsNamed ds
none_named {D} ds e =
    let P : List (List ℕ × D) → Type 0 = λ x. IsNamed x in
    subst P (sym e) (sorted_from_all_adjacent nat_list_cmp_total [] [] (λ k l. absurd (omega (arith, l))), refl)

pub empty_named : (rs : Routers) (ss : Services) (ms : Middlewares) → rs ≡ [] → ss ≡ [] → ms ≡ [] → AreNamed rs ss ms
empty_named rs ss ms a b c = (none_named rs a, (none_named ss b, none_named ms c))

pub empty_in_range : (ss : Services) (ms : Middlewares) → ss ≡ [] → ms ≡ [] → AreInRange ss ms
empty_in_range ss ms b c =
    let P : Services → Type 0 = λ x. AreInRange x ms in
    let Q : Middlewares → Type 0 = λ x. AreInRange [] x in
    subst P (sym b) (subst Q (sym c) (refl, refl))
