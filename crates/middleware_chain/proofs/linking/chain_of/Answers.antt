use Rattle.std.proofs.Common.{◌≡◌, ◌∙◌, ◌≤◌, ℕ, List, length, is_some, true, ap, subst, sym, arith}
use Rattle.middleware_chain.specs.Built.{AreChains}
use Rattle.middleware_chain.specs.Chained.{IsFlatNamed}
use Rattle.middleware_chain.specs.Counts.{count_named}
use Rattle.middleware_chain.specs.Flattened.{IsFlattened}
use Rattle.middleware_chain.specs.Stages.{defs_at}
use Rattle.middleware_chain.proofs.Linked.{count_done, count_next, fronts_done, fronts_next, of_each, there_next}
use Rattle.middleware_chain.proofs.linking.chain_of.Goals as goal

pub flat_named-requires : goal.flat_named-requires
flat_named-requires c =
    let P : List ℕ → Type 0 = λ n. is_some (count_named c.args.chains.now.middlewares n) ≡ true in
    subst P (sym c.as_slice.ensures)
    (of_each (λ n. is_some (count_named c.args.chains.now.middlewares n)) c.args.names.now c.loop-name.name-index c.name-item.result c.requires.usable c.loop-name-test.true c.name-item.is)

pub loop-name-preserved : goal.loop-name-preserved
loop-name-preserved c =
    let P : List ℕ → Type 0 = λ n. IsFlatNamed c.args.chains.now n c.flat_named.result.now in
    let is = subst P c.as_slice.ensures c.flat_named.ensures in
    record {
      count = count_next c.args.chains.now c.args.names.now c.loop-name.name-index c.name-item.result c.loop-name.places.items c.extend_from_slice.new.self.items c.flat_named.result.now
          c.loop-name-test.true c.name-item.is is c.in_ok-extend_from_slice.ensures.items c.loop-name.invariant.count;
      there = there_next c.args.chains.now.parts c.loop-name.places.items c.extend_from_slice.new.self.items c.flat_named.result.now c.in_ok-extend_from_slice.ensures.items
          c.loop-name.invariant.there is.there;
      flattened = fronts_next c.args.chains.now c.args.names.now c.loop-name.name-index c.name-item.result c.loop-name.places.items c.extend_from_slice.new.self.items c.flat_named.result.now
          c.loop-name-test.true c.name-item.is is c.in_ok-extend_from_slice.ensures.items c.loop-name.invariant.flattened;
    }

pub invariant_of-result : goal.invariant_of-result
invariant_of-result c = record {
  few = omega (
    arith,
    count_done c.args.chains.now c.args.names.now c.loop-name.name-index c.loop-name.places.items c.loop-name-test.false c.loop-name.invariant.count c.requires.short,
    ap (length {A = ℕ}) c.from_vec.ensures,
  );
}

pub returns-clause-flattened : goal.returns-clause-flattened
returns-clause-flattened c = λ all spare are.
    let P : List ℕ → Type 0 = λ places. IsFlattened all c.args.names.now (defs_at c.args.chains.now.parts places) in
    subst P (sym c.from_vec.ensures)
    (fronts_done c.args.chains.now c.args.names.now c.loop-name.name-index c.loop-name.places.items c.loop-name-test.false c.loop-name.invariant.flattened all spare are)
