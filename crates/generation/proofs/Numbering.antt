-- The nodes, as they are added one by one.
use Rattle.std.proofs.Common.{◌≡◌, ℕ, ◌+◌, ◌<◌, suc, List, [], ◌∷◌, ◌++◌, length, take, get_or, inl, inr, refl, sym, ap, ◌∙◌, subst, arith, add-one, append-nil}
use Rattle.std.specs.Prelude.{filter}
use Rattle.std.proofs.lemmas.List.Elements.{filter-append}
use Rattle.std.proofs.Math.Seq.{take-suc}
use Rattle.dyn_config.specs.declared.merged.Entry.{Entry}
use Rattle.dyn_config.specs.declared.service.ServiceDef.{ServiceDef}
use Rattle.generation.specs.Nodes.{IsNode, AreNodes, IsAdded, is_usable}
use Rattle.generation.specs.declared.nodes.Node.{Node}

nodes_push : (place : ℕ) (es : List (Entry ServiceDef)) (ns : List Node) (e : Entry ServiceDef) (n : Node) → AreNodes place es ns → IsNode (place + length ns) e n
    → AreNodes place (es ++ e ∷ []) (ns ++ n ∷ [])
nodes_push place [] [] e n h is = (let at : place + 0 ≡ place = omega arith in subst (λ (p : ℕ). IsNode p e n) at is, tt)
nodes_push place [] (m ∷ ns) e n h is = absurd h
nodes_push place (d ∷ es) [] e n h is = absurd h
nodes_push place (d ∷ es) (m ∷ ns) e n h is =
    (h.0, nodes_push (place + 1) es ns e n h.1 (let at : place + suc (length ns) ≡ (place + 1) + length ns = omega arith in subst (λ (p : ℕ). IsNode p e n) at is))

-- one service more
pub added_more : (services : List (Entry ServiceDef)) (i : ℕ) (e : Entry ServiceDef) (old new : List Node) → i < length services → e ≡ get_or services i e
    → AreNodes 0 (filter is_usable (take i services)) old → IsAdded e old new → AreNodes 0 (filter is_usable (take (i + 1) services)) new
added_more services i e old new below is nodes added =
    let one : take (i + 1) services ≡ take i services ++ e ∷ [] = ap (λ (k : ℕ). take k services) (add-one i) ∙ take-suc services i e below ∙ ap (λ (x : Entry ServiceDef). take i services ++ x ∷ []) (sym is) in
    let both : filter is_usable (take (i + 1) services) ≡ filter is_usable (take i services) ++ filter is_usable (e ∷ []) = ap (filter is_usable) one ∙ filter-append is_usable (take i services) (e ∷ []) in
    elim added [
      | inl yes_ ↦ (let own : filter is_usable (e ∷ []) ≡ e ∷ [] = rw yes_.0 refl in
          rw (both, own, yes_.1.2) (nodes_push 0 (filter is_usable (take i services)) old e yes_.1.0 nodes (let at : length old ≡ 0 + length old = omega arith in subst (λ (p : ℕ). IsNode p e yes_.1.0) at yes_.1.1)))
      | inr no_ ↦ (let own : filter is_usable (e ∷ []) ≡ [] = rw no_.0 refl in rw (both, own, no_.1, append-nil (filter is_usable (take i services))) nodes)
    ]
