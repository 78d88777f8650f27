use Rattle.std.proofs.Common.{◌≡◌, ◌+◌, ℕ, List, Option, Some, map, length, option_map, get_or, refl, sym, ap, ◌∙◌, subst, arith}
use Rattle.std.proofs.Common.{IsTrue, false}
use Rattle.std.proofs.lemmas.List.{length-map}
use denote.Ref.{Bor}
use Rattle.consul_kv.specs.declared.element.Pair.{Pair as Held}
use Rattle.consul_kv.specs.Keys.{key_at}
use Rattle.consul_kv.specs.Pairs.{pair_view}
use Rattle.consul_kv.specs.Sorted.{lesser_of}
use Rattle.consul_kv.proofs.Clashing.{IsLeastFound, least_takes, least_passes, least_done, key_held}
use Rattle.consul_kv.proofs.clash.first_clash.Goals as goal
use Rattle.consul_kv.proofs.clash.first_clash.Goals.{then-is_found, else-is_found}

none : IsTrue false → ⊥
none h = cc

pub loop-at-preserved : goal.loop-at-preserved
loop-at-preserved c =
    let l = c.loop-at in
    let root = c.args.root.now in
    let ps = map pair_view c.args.pairs.now in
    let now : Bor (List ℕ) → List ℕ = λ (k : Bor (List ℕ)). k.now in
    let goes : Option (List ℕ) → Type 0 = λ (o : Option (List ℕ)). IsLeastFound root ps (l.at + 1) o in
    elim c.if-is_found.branch [
      | then-is_found w ↦
          let key = key_held c.args.pairs.now l.at w.index-pairs-at.result c.loop-at-test.true w.index-pairs-at.is in
          let there : (get_or c.args.pairs.now l.at w.index-pairs-at.result).key.now ≡ key_at ps l.at = ap (λ (p : Held). p.key.now) (sym w.index-pairs-at.is) ∙ key in
          subst goes (sym (ap (option_map now) w.least-is ∙ ap Some (w.lesser.ensures ∙ ap (lesser_of (option_map now l.least)) there)))
          (least_takes root ps l.at (option_map now l.least) l.invariant (w.if-is_found.ensures.0 refl))
      | else-is_found w ↦
          subst goes (sym (ap (option_map now) w.least-is)) (least_passes root ps l.at (option_map now l.least) l.invariant (λ f. none (w.if-is_found.ensures.1 f)))
    ]

pub returns : goal.returns
returns c =
    let ps = map pair_view c.args.pairs.now in
    let end : c.loop-at.at ≡ length ps = omega (arith, c.loop-at-test.false, c.loop-at.auto.at-end, length-map c.args.pairs.now pair_view) in
    least_done c.args.root.now ps c.loop-at.at c.loop-at.least c.requires end c.loop-at.invariant
