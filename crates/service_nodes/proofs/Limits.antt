-- Nodes are within the limits of their kinds.
use Rattle.std.proofs.Common.{◌≡◌, ◌∙◌, ℕ, ◌<◌, ◌≤◌, List, [], ◌∷◌, length, get_or, map, Bool, true, false, ◌&&◌, Option, Some, None, is_some, nat_lt, nat_le, refl, ap, subst, arith, zero, suc, ◌==◌}
use Rattle.std.specs.Prelude.{slice_get}
use Rattle.std.specs.List.{AllZip, list_all}
use Rattle.std.proofs.lemmas.Bool.{false≢true, le-leb}
use Rattle.std.proofs.lemmas.Bool.Decides.{nat_tests}
use Rattle.std.proofs.lemmas.List.{length-map}
use Rattle.px_base.specs.declared.server.Server.{Server}
use Rattle.dyn_config.specs.Kept.{is_service}
use Rattle.dyn_config.specs.Values.{is_percent}
use Rattle.dyn_config.specs.declared.service.ServerDef.{ServerDef}
use Rattle.dyn_config.specs.declared.service.ServiceDef.{ServiceDef}
use Rattle.dyn_config.specs.declared.service.ServiceDef.TheVariants as def
use Rattle.wrr_deadlines.specs.Reduced.{period_len}
use Rattle.reference_graph.proofs.SearchLemmas.{same_place, place_same}
use Rattle.reference_graph.proofs.HeightLemmas.{and_first, and_second}
use Rattle.service_faults.specs.Own.{IsOwnState, weight_of as declared_weight}
use Rattle.service_faults.specs.References.{written}
use Rattle.service_nodes.specs.Lawful.{weight_of, are_weights, is_lawful_kind}
use Rattle.service_nodes.specs.Nodes.{children_of, IsServerOf, IsKindOf}
use Rattle.service_nodes.specs.declared.node.NodeKind.{NodeKind}
use Rattle.service_nodes.specs.declared.node.NodeKind.TheVariants as kind

pub both_true : (a b : Bool) → a ≡ true → b ≡ true → (a && b) ≡ true
both_true true b h k = k
both_true false b h k = absurd (false≢true h)

-- a service has at most 64 references
pub written_few : (d : ServiceDef) → IsOwnState d None → length (written d) ≤ 64
written_few (def.Balancer b) own = omega arith
written_few (def.Weighted w) own = own.0
written_few (def.Mirroring m) own = let l = own.1 in omega (arith, l)
written_few (def.Failover f) own = omega arith
written_few def.Unsupported own = omega arith

zip_weights : (defs : List ServerDef) (servers : List Server) → AllZip IsServerOf defs servers → map weight_of servers ≡ map declared_weight defs
zip_weights [] [] all = refl
zip_weights [] (s ∷ servers) all = absurd all
zip_weights (d ∷ defs) [] all = absurd all
zip_weights (d ∷ defs) (s ∷ servers) all = ap (λ (n : ℕ). n ∷ map weight_of servers) all.0.weight ∙ ap (λ (ns : List ℕ). d.weight ∷ ns) (zip_weights defs servers all.1)

weights_fit : (ws : List ℕ) → length ws ≤ 64 → period_len ws ≤ 65536 → are_weights ws ≡ true
weights_fit ws long total = both_true (nat_le (length ws) 64) (nat_le (period_len ws) 65536) (le-leb (length ws) 64 long) (le-leb (period_len ws) 65536 total)

pub kind_fits : (d : ServiceDef) (k : NodeKind) → IsOwnState d None → is_service d ≡ true → IsKindOf d k → length (children_of k) ≡ length (written d) → is_lawful_kind k ≡ true
kind_fits (def.Balancer b) (kind.Balancer servers sticky pass_host health) own in_range is long =
    let same : map weight_of servers ≡ map declared_weight b.servers = zip_weights b.servers servers is.0 in
    ap are_weights same ∙ weights_fit (map declared_weight b.servers) (let e = length-map b.servers declared_weight in let l = own.0.1 in omega (arith, e, l)) own.2
kind_fits (def.Balancer b) (kind.Weighted children weights sticky) own in_range is long = absurd is
kind_fits (def.Balancer b) (kind.Mirroring main mirrors percents max_body) own in_range is long = absurd is
kind_fits (def.Balancer b) (kind.Failover main fallback) own in_range is long = absurd is
kind_fits (def.Weighted w) (kind.Balancer servers sticky pass_host health) own in_range is long = absurd is
kind_fits (def.Weighted w) (kind.Weighted children weights sticky) own in_range is long =
    let pairs : length w.names ≡ length w.weights = same_place (length w.names) (length w.weights) (and_first _ _ (and_first _ _ in_range)) in
    let e : length weights ≡ length w.weights = ap length is.0 in
    let c : length children ≡ length w.names = long in
    both_true (length weights == length children) (are_weights weights)
    (place_same (length weights) (length children) (omega (arith, e, pairs, c)))
    (ap are_weights is.0 ∙ weights_fit w.weights (let l = own.0 in omega (arith, l, pairs)) own.1)
kind_fits (def.Weighted w) (kind.Mirroring main mirrors percents max_body) own in_range is long = absurd is
kind_fits (def.Weighted w) (kind.Failover main fallback) own in_range is long = absurd is
kind_fits (def.Mirroring m) (kind.Balancer servers sticky pass_host health) own in_range is long = absurd is
kind_fits (def.Mirroring m) (kind.Weighted children weights sticky) own in_range is long = absurd is
kind_fits (def.Mirroring m) (kind.Mirroring main mirrors percents max_body) own in_range is long =
    let pairs : length m.mirrors ≡ length m.percents = same_place (length m.mirrors) (length m.percents) (and_first _ _ (and_first _ _ in_range)) in
    let e : length percents ≡ length m.percents = ap length is.0 in
    let c : suc (length mirrors) ≡ suc (length m.mirrors) = long in
    both_true (length percents == length mirrors) (list_all is_percent percents)
    (place_same (length percents) (length mirrors) (omega (arith, e, pairs, c)))
    (ap (list_all is_percent) is.0 ∙ and_second (length m.mirrors == length m.percents) (list_all is_percent m.percents) (and_first _ _ in_range))
kind_fits (def.Mirroring m) (kind.Failover main fallback) own in_range is long = absurd is
kind_fits (def.Failover f) (kind.Balancer servers sticky pass_host health) own in_range is long = absurd is
kind_fits (def.Failover f) (kind.Weighted children weights sticky) own in_range is long = absurd is
kind_fits (def.Failover f) (kind.Mirroring main mirrors percents max_body) own in_range is long = absurd is
kind_fits (def.Failover f) (kind.Failover main fallback) own in_range is long = refl
kind_fits def.Unsupported (kind.Balancer servers sticky pass_host health) own in_range is long = absurd is
kind_fits def.Unsupported (kind.Weighted children weights sticky) own in_range is long = absurd is
kind_fits def.Unsupported (kind.Mirroring main mirrors percents max_body) own in_range is long = absurd is
kind_fits def.Unsupported (kind.Failover main fallback) own in_range is long = absurd is

head_is : {X : Type 0} (x y : X) (xs ys : List X) → x ∷ xs ≡ y ∷ ys → x ≡ y
head_is x y xs ys e = cc

tail_is : {X : Type 0} (x y : X) (xs ys : List X) → x ∷ xs ≡ y ∷ ys → xs ≡ ys
tail_is x y xs ys e = cc

some_is : (a b : ℕ) → Some a ≡ Some b → a ≡ b
some_is a b e = cc

less_test : (a b : ℕ) → a < b → nat_lt a b ≡ true
less_test a b l = grind (arith, nat_tests)

-- where each reference leads to a lower number, so does each child
pub children_lower : (f : Option ℕ → Option ℕ) (n : ℕ) (places : List (Option ℕ)) (children : List ℕ) → map Some children ≡ map f places
    → ((k : ℕ) (o : Option ℕ) → k < length places → (m : ℕ) × (f (get_or places k o) ≡ Some m) × (m < n)) → list_all (λ child. nat_lt child n) children ≡ true
children_lower f n [] [] same lower = refl
children_lower f n (p ∷ places) [] same lower = refl
children_lower f n [] (c ∷ children) same lower = absurd (let e : suc (length (map Some children)) ≡ 0 = ap length same in omega (arith, e))
children_lower f n (p ∷ places) (c ∷ children) same lower =
    let low = lower 0 p (omega arith) in
    let e : c ≡ low.0 = some_is c low.0 (head_is (Some c) (f p) (map Some children) (map f places) same ∙ low.1) in
    both_true (nat_lt c n) (list_all (λ child. nat_lt child n) children) (less_test c n (let l = low.2 in omega (arith, e, l)))
    (children_lower f n places children (tail_is (Some c) (f p) (map Some children) (map f places) same) (λ k o l. lower (suc k) o (omega (arith, l))))

some_same : {X : Type 0} (a b : X) → Some a ≡ Some b → a ≡ b
some_same a b e = cc

pub zip_at : {A B : Type 0} (R : A → B → Type 0) (xs : List A) (ys : List B) (n : ℕ) (d : A) (y : B) → AllZip R xs ys → slice_get ys n ≡ Some y → R (get_or xs n d) y
zip_at R [] [] n d y all here = absurd (false≢true (ap is_some here))
zip_at R [] (b ∷ ys) n d y all here = absurd all
zip_at R (a ∷ xs) [] n d y all here = absurd all
zip_at {A} {B} R (a ∷ xs) (b ∷ ys) zero d y all here = let P : B → Type 0 = λ z. R a z in subst P (some_same b y here) all.0
zip_at R (a ∷ xs) (b ∷ ys) (suc n) d y all here = zip_at R xs ys n d y all.1 here
