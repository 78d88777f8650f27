-- A middleware that can be used has no reason against it.
use Rattle.std.proofs.Common.{◌≡◌, ℕ, zero, suc, ◌<◌, ◌++◌, ◌∷◌, [], List, length, get_or, Contains, Bool, true, false, Option, Some, None, slice_get, refl, sym, ap, ◌∙◌, subst, arith, cond, nat_le, option_map, option_and_then}
use Rattle.middleware_graph.specs.declared.fault.MiddlewareFault.{MiddlewareFault}
use Rattle.middleware_graph.specs.declared.fault.MiddlewareFault.TheVariants as fault
use Rattle.middleware_graph.specs.declared.node.Node.{Node}
use Rattle.middleware_graph.specs.declared.node.Node.TheVariants as node
use Rattle.middleware_graph.specs.Graph.{LeadsTo, at_once, through, members_of, flat, flat_of, joined, if_few, max_depth}
use Rattle.middleware_graph.specs.States.{IsDisabled, IsStateOfChain, StandsFor, LacksOne}
use Rattle.middleware_graph.proofs.Visiting.{nothing_in}

none_some : {X : Type 0} (x : X) → None ≡ Some x → ⊥
none_some x e = cc

no_value : (o : Option (List ℕ)) (ws : List ℕ) → o ≡ None → o ≡ Some ws → ⊥
no_value o ws a b = none_some ws (sym a ∙ b)

from_then : (f : List ℕ → Option (List ℕ)) (o : Option (List ℕ)) (ws : List ℕ) → option_and_then f o ≡ Some ws → (v : List ℕ) × ((o ≡ Some v) × (f v ≡ Some ws))
from_then f None ws e = absurd (none_some ws e)
from_then f (Some v) ws e = (v, (refl, e))

from_map : (f : List ℕ → List ℕ) (o : Option (List ℕ)) (ws : List ℕ) → option_map f o ≡ Some ws → (v : List ℕ) × (o ≡ Some v)
from_map f None ws e = absurd (none_some ws e)
from_map f (Some v) ws e = (v, refl)

from_cond : (b : Bool) (places ws : List ℕ) → cond b (Some places) None ≡ Some ws → Some places ≡ Some ws
from_cond true places ws e = e
from_cond false places ws e = absurd (none_some ws e)

from_few : (o : Option (List ℕ)) (ws : List ℕ) → if_few o ≡ Some ws → o ≡ Some ws
from_few None ws e = absurd (none_some ws e)
from_few (Some places) ws e = from_cond (nat_le (length places) 64) places ws e

-- where members stand for something together, each does
joined_each : (each : Option ℕ → Option (List ℕ)) (members : List (Option ℕ)) (ws : List ℕ) → joined each members ≡ Some ws → (i : ℕ) (d : Option ℕ) → i < length members
    → (vs : List ℕ) × (each (get_or members i d) ≡ Some vs)
joined_each each [] ws e i d l = absurd (omega (arith, l))
joined_each each (m ∷ ms) ws e zero d l =
    let (v, (is, more)) = from_then (λ front. option_map (λ back. front ++ back) (joined each ms)) (each m) ws e in (v, is)
joined_each each (m ∷ ms) ws e (suc i) d l =
    let (v, (is, more)) = from_then (λ front. option_map (λ back. front ++ back) (joined each ms)) (each m) ws e in
    let (back, told) = from_map (λ b. v ++ b) (joined each ms) ws more in
    joined_each each ms back told i d (omega (arith, l))

member_of : (each : Option ℕ → Option (List ℕ)) (x y : ℕ) (o : Option Node) (ws : List ℕ) → flat_of each x o ≡ Some ws → Contains (members_of o) (Some y)
    → (vs : List ℕ) × (each (Some y) ≡ Some vs)
member_of each x y None ws e has = absurd (nothing_in (Some y) has)
member_of each x y (Some node.Stage) ws e has = absurd (nothing_in (Some y) has)
member_of each x y (Some (node.Faulty f)) ws e has = absurd (nothing_in (Some y) has)
member_of each x y (Some (node.Chain members)) ws e (i, l, at) =
    let (vs, told) = joined_each each members ws (from_few (joined each members) ws e) i (Some y) l in (vs, ap each (sym at) ∙ told)

-- what a usable chain leads to is usable, and less deep
leads_less : (nodes : List Node) (d x y : ℕ) → LeadsTo nodes x y → (ws : List ℕ) → flat nodes d (Some x) ≡ Some ws
    → (k : ℕ) × ((k < d) × ((vs : List ℕ) × (flat nodes k (Some y) ≡ Some vs)))
leads_less nodes zero x y leads ws e = absurd (none_some ws e)
leads_less nodes (suc d) x y (at_once _ _ has) ws e =
    let (vs, told) = member_of (flat nodes d) x y (slice_get nodes x) ws e has in (d, (omega arith, (vs, told)))
leads_less nodes (suc d) x z (through _ y _ has rest) ws e =
    let (vs, told) = member_of (flat nodes d) x y (slice_get nodes x) ws e has in
    let (k, (l, (us, last))) = leads_less nodes d y z rest vs told in
    let m : k < suc d = omega (arith, l) in
    (k, (m, (us, last)))

no_way_round : (nodes : List Node) (bound d x : ℕ) → d < bound → LeadsTo nodes x x → (ws : List ℕ) → flat nodes d (Some x) ≡ Some ws → ⊥
no_way_round nodes zero d x l leads ws e = omega (arith, l)
no_way_round nodes (suc bound) d x l leads ws e =
    let (k, (less, (vs, told))) = leads_less nodes d x x leads ws e in
    let m : k < bound = omega (arith, l, less) in
    no_way_round nodes bound k x m leads vs told

joined_grows : (f g : Option ℕ → Option (List ℕ)) → ((m : Option ℕ) (vs : List ℕ) → f m ≡ Some vs → g m ≡ Some vs) → (members : List (Option ℕ)) (ws : List ℕ)
    → joined f members ≡ Some ws → joined g members ≡ Some ws
joined_grows f g grows [] ws e = e
joined_grows f g grows (m ∷ ms) ws e =
    let (v, (is, more)) = from_then (λ front. option_map (λ back. front ++ back) (joined f ms)) (f m) ws e in
    let (back, told) = from_map (λ b. v ++ b) (joined f ms) ws more in
    let same : option_map (λ b. v ++ b) (joined f ms) ≡ option_map (λ b. v ++ b) (joined g ms) =
    ap (option_map (λ b. v ++ b)) (told ∙ sym (joined_grows f g grows ms back told)) in
    ap (option_and_then (λ front. option_map (λ b. front ++ b) (joined g ms))) (grows m v is) ∙ sym same ∙ more

few_grows : (o p : Option (List ℕ)) → ((vs : List ℕ) → o ≡ Some vs → p ≡ Some vs) → (ws : List ℕ) → if_few o ≡ Some ws → if_few p ≡ Some ws
few_grows o p grows ws e =
    let is : o ≡ Some ws = from_few o ws e in ap if_few (grows ws is ∙ sym is) ∙ e

flat_of_grows : (f g : Option ℕ → Option (List ℕ)) → ((m : Option ℕ) (vs : List ℕ) → f m ≡ Some vs → g m ≡ Some vs) → (x : ℕ) (o : Option Node) (ws : List ℕ)
    → flat_of f x o ≡ Some ws → flat_of g x o ≡ Some ws
flat_of_grows f g grows x None ws e = e
flat_of_grows f g grows x (Some node.Stage) ws e = e
flat_of_grows f g grows x (Some (node.Faulty h)) ws e = e
flat_of_grows f g grows x (Some (node.Chain members)) ws e = few_grows (joined f members) (joined g members) (joined_grows f g grows members) ws e

-- what is found within some depth is found within more
flat_grows : (nodes : List Node) (d : ℕ) (m : Option ℕ) (ws : List ℕ) → flat nodes d m ≡ Some ws → flat nodes (suc d) m ≡ Some ws
flat_grows nodes zero m ws e = absurd (none_some ws e)
flat_grows nodes (suc d) None ws e = absurd (none_some ws e)
flat_grows nodes (suc d) (Some x) ws e = flat_of_grows (flat nodes d) (flat nodes (suc d)) (flat_grows nodes d) x (slice_get nodes x) ws e

lacking_none : (nodes : List Node) (d x : ℕ) (members : List (Option ℕ)) (ws : List ℕ) → flat_of (flat nodes d) x (Some (node.Chain members)) ≡ Some ws → LacksOne members → ⊥
lacking_none nodes zero x members ws e (i, m, l, at, is) =
    let (vs, told) = joined_each (flat nodes zero) members ws (from_few (joined (flat nodes zero) members) ws e) i m l in none_some vs told
lacking_none nodes (suc d) x members ws e (i, m, l, at, is) =
    let (vs, told) = joined_each (flat nodes (suc d)) members ws (from_few (joined (flat nodes (suc d)) members) ws e) i m l in
    none_some vs (ap (flat nodes (suc d)) (sym (at ∙ is)) ∙ told)

unusable_none : (nodes : List Node) (d x : ℕ) (members : List (Option ℕ)) (ws : List ℕ) → flat_of (flat nodes d) x (Some (node.Chain members)) ≡ Some ws
    → (i : ℕ) (m : Option ℕ) → i < length members → get_or members i m ≡ m → flat nodes (suc d) m ≡ None → ⊥
unusable_none nodes d x members ws e i m l at none =
    let (vs, told) = joined_each (flat nodes d) members ws (from_few (joined (flat nodes d) members) ws e) i m l in
    let here : flat nodes d m ≡ Some vs = ap (flat nodes d) (sym at) ∙ told in
    no_value (flat nodes (suc d) m) vs none (flat_grows nodes d m vs here)

pub straight : (nodes : List Node) (x count : ℕ) → StandsFor nodes x count → ¬ (LeadsTo nodes x x)
straight nodes x count (ws, e, _) leads = no_way_round nodes (suc max_depth) max_depth x (omega arith) leads ws e

at_chain : (nodes : List Node) (d x : ℕ) (own : Node) (ws : List ℕ) → slice_get nodes x ≡ Some own → flat nodes (suc d) (Some x) ≡ Some ws → flat_of (flat nodes d) x (Some own) ≡ Some ws
at_chain nodes d x own ws at e = ap (flat_of (flat nodes d) x) (sym at) ∙ e

chain_sound : (nodes : List Node) (d x : ℕ) (members : List (Option ℕ)) (ws : List ℕ) (f : MiddlewareFault) → max_depth ≡ suc d → slice_get nodes x ≡ Some (node.Chain members)
    → flat nodes max_depth (Some x) ≡ Some ws → ¬ (LeadsTo nodes x x) → ¬ (IsStateOfChain nodes x members f)
chain_sound nodes d x members ws fault.Missing deep at e leads told =
    let P : ℕ → Type 0 = λ k. flat nodes k (Some x) ≡ Some ws in
    lacking_none nodes d x members ws (at_chain nodes d x (node.Chain members) ws at (subst P deep e)) told
chain_sound nodes d x members ws fault.Cycle deep at e leads told = leads told.1
chain_sound nodes d x members ws fault.Child deep at e leads (_, _, (i, m, l, same, none)) =
    let P : ℕ → Type 0 = λ k. flat nodes k (Some x) ≡ Some ws in
    let Q : ℕ → Type 0 = λ k. flat nodes k m ≡ None in
    unusable_none nodes d x members ws (at_chain nodes d x (node.Chain members) ws at (subst P deep e)) i m l same (subst Q deep none)
chain_sound nodes d x members ws fault.TooDeep deep at e leads told = no_value (flat nodes max_depth (Some x)) ws told.3 e
chain_sound nodes d x members ws fault.Unsupported deep at e leads told = told
chain_sound nodes d x members ws fault.Value deep at e leads told = told
chain_sound nodes d x members ws fault.TooManyPatterns deep at e leads told = told
chain_sound nodes d x members ws fault.Syntax deep at e leads told = told
chain_sound nodes d x members ws fault.TooBig deep at e leads told = told

one_more : max_depth ≡ suc 7
unfolding max_depth
one_more = refl

pub sound : (nodes : List Node) (x count : ℕ) (own : Node) (f : MiddlewareFault) → slice_get nodes x ≡ Some own → StandsFor nodes x count → ¬ (IsDisabled nodes x own f)
sound nodes x count node.Stage f at stands told = told
sound nodes x count (node.Faulty g) f at (ws, e, size) told =
    let P : ℕ → Type 0 = λ k. flat nodes k (Some x) ≡ Some ws in
    none_some ws (at_chain nodes 7 x (node.Faulty g) ws at (subst P one_more e))
sound nodes x count (node.Chain members) f at (ws, e, size) told =
    chain_sound nodes 7 x members ws f one_more at e (straight nodes x count (ws, e, size)) told
