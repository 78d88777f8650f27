-- The state of each middleware.
use Rattle.std.proofs.Common.{◌≡◌, ℕ, zero, suc, ◌<◌, ◌≤◌, ◌++◌, ◌∷◌, [], List, length, Option, Some, None, Bool, true, false, slice_get, refl, sym, ap, ◌∙◌, subst, arith, cond, nat_le, inl, inr, length-append}
use Rattle.std.proofs.lemmas.Bool.{cases_lt, leb-true}
use Rattle.std.proofs.lemmas.Option.{slice_get_within}
use Rattle.middleware_graph.specs.declared.node.Node.{Node}
use Rattle.middleware_graph.specs.declared.node.Node.TheVariants as node
use Rattle.middleware_graph.specs.declared.state.State.{State}
use Rattle.middleware_graph.specs.Graph.{flat, flat_of, joined, if_few, max_depth}
use Rattle.middleware_graph.specs.Tables.{IsTable, found_in}
use Rattle.middleware_graph.specs.States.{IsState, AreStates, StandsFor}
use Rattle.middleware_graph.proofs.Flattening.{pushed_old, pushed_new}

-- a middleware that is no chain stands for itself
pub stage_stands : (nodes : List Node) (x : ℕ) (own : Node) → slice_get nodes x ≡ Some own → own ≡ node.Stage → StandsFor nodes x 1
unfolding max_depth
stage_stands nodes x own at e = (x ∷ [], ap (flat_of (flat nodes 7) x) (at ∙ ap Some e), refl)

none_is_some : (ws : List ℕ) → None ≡ Some ws → ⊥
none_is_some ws e = cc

few_at : (b : Bool) (places ws : List ℕ) → nat_le (length places) 64 ≡ b → cond b (Some places) None ≡ Some ws → length ws ≤ 64
few_at true places ws is e = let same : places ≡ ws = cc in omega (arith, leb-true (length places) 64 is, ap length same)
few_at false places ws is e = absurd (none_is_some ws e)

few_in : (o : Option (List ℕ)) (ws : List ℕ) → if_few o ≡ Some ws → length ws ≤ 64
few_in None ws e = absurd (none_is_some ws e)
few_in (Some places) ws e = few_at (nat_le (length places) 64) places ws refl e

flat_of_few : (each : Option ℕ → Option (List ℕ)) (x : ℕ) (o : Option Node) (ws : List ℕ) → flat_of each x o ≡ Some ws → length ws ≤ 64
flat_of_few each x None ws e = absurd (none_is_some ws e)
flat_of_few each x (Some node.Stage) ws e = let same : x ∷ [] ≡ ws = cc in let one : 1 ≡ length ws = ap length same in omega (arith, one)
flat_of_few each x (Some (node.Faulty f)) ws e = absurd (none_is_some ws e)
flat_of_few each x (Some (node.Chain members)) ws e = few_in (joined each members) ws e

-- a middleware stands for at most 64
pub flat_few : (nodes : List Node) (depth x : ℕ) (ws : List ℕ) → flat nodes depth (Some x) ≡ Some ws → length ws ≤ 64
flat_few nodes zero x ws e = absurd (none_is_some ws e)
flat_few nodes (suc depth) x ws e = flat_of_few (flat nodes depth) x (slice_get nodes x) ws e

-- what a table says of a middleware is at most 64
pub found_few : (nodes : List Node) (table : List (Option (List ℕ))) (depth x : ℕ) (ws : List ℕ) → IsTable nodes depth table → found_in table (Some x) ≡ Some ws → length ws ≤ 64
found_few nodes table depth x ws t e = flat_few nodes depth x ws (sym (t.flats (Some x)) ∙ e)

-- each of the states so far is that of its middleware
pub record AreSome (nodes : List Node) (states : List State) : Type 0 where
  pub each : (x : ℕ) (n : Node) (s : State) → slice_get nodes x ≡ Some n → slice_get states x ≡ Some s → IsState nodes x n s

pub states_first : (nodes : List Node) → AreSome nodes []
states_first nodes = record { each = λ x n s at is. absurd (let l : x < 0 = slice_get_within [] x s is in omega (arith, l)) }

same_in : {X : Type 0} (o : Option X) (a b : X) → o ≡ Some a → o ≡ Some b → a ≡ b
same_in o a b p q = cc

last_place : (states : List State) (state : State) (x : ℕ) → x < length (states ++ state ∷ []) → length states ≤ x → length states ≡ x
last_place states state x l past = omega (arith, l, past, length-append states (state ∷ []))

pub states_next : (nodes : List Node) (states grown : List State) (place : ℕ) (own : Node) (state : State) → length states ≡ place → slice_get nodes place ≡ Some own
    → IsState nodes place own state → grown ≡ states ++ state ∷ [] → AreSome nodes states → AreSome nodes grown
states_next nodes states grown place own state size here is e before =
    let P : List State → Type 0 = λ ss. AreSome nodes ss in
    subst P (sym e) (record {
      each = λ x n s at told. elim (cases_lt x (length states)) [
        | inl below ↦ before.each x n s at (sym (pushed_old states state x below) ∙ told)
        | inr not_below ↦
            let l : x < length (states ++ state ∷ []) = slice_get_within (states ++ state ∷ []) x s told in
            let same : length states ≡ x = last_place states state x l not_below in
            let same_state : state ≡ s = same_in (slice_get (states ++ state ∷ []) (length states)) state s (pushed_new states state) (ap (slice_get (states ++ state ∷ [])) same ∙ told) in
            let same_place : place ≡ x = sym size ∙ same in
            let same_node : own ≡ n = same_in (slice_get nodes place) own n here (ap (slice_get nodes) same_place ∙ at) in
            subst (λ k. IsState nodes k n s) same_place (subst (λ m. IsState nodes place m s) same_node (subst (λ t. IsState nodes place own t) same_state is))
      ];
    })

pub states_all : (nodes : List Node) (states : List State) → length states ≡ length nodes → AreSome nodes states → AreStates nodes states
states_all nodes states size some = record { size = size; each = some.each }
