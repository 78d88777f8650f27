use Rattle.std.proofs.Common.{rules, ◌≡◌, map, sym, subst}
use Rattle.std.specs.Ordering.{is_lt}
use Rattle.std.specs.List.Sorted.{IsPermutation, IsSortedBy}
use Rattle.std.proofs.lemmas.Cmp.{nat_list_cmp_total}
use Rattle.std.proofs.lemmas.Fn.{always_returns_same}
use Rattle.std.proofs.lemmas.List.Sorted.{ranks_by, IsPermutation-map}
use Rattle.consul_kv.specs.declared.element.Pair.{Pair as Held}
use Rattle.consul_kv.specs.Keys.{key_cmp, rank, AreBelow}
use Rattle.consul_kv.specs.Pairs.{pair_view}
use Rattle.consul_kv.specs.Reply.{AreKeysRead}
use Rattle.consul_kv.specs.Sorted.{AreKeysSorted}
use Rattle.consul_kv.proofs.Lists.{below_moved, sorted_viewed}
use Rattle.consul_kv.proofs.Reading.{keys_moved}
use Rattle.consul_kv.proofs.config.read_keys.Goals as goal

pub read_sorted-requires-clause-below : goal.read_sorted-requires-clause-below
read_sorted-requires-clause-below c =
    let from = c.args.pairs.items in
    let to = c.sort_by.new.self.items in
    let moved : IsPermutation (map pair_view from) (map pair_view to) = IsPermutation-map pair_view from to c.in_ok-sort_by.ensures.permutation in
    subst (λ ps. AreBelow c.args.root.now (map pair_view ps)) (sym c.as_slice.ensures.value) (below_moved c.args.root.now (map pair_view from) (map pair_view to) moved c.requires)

pub read_sorted-requires-clause-sorted : goal.read_sorted-requires-clause-sorted
read_sorted-requires-clause-sorted c =
    let to = c.sort_by.new.self.items in
    let up : IsSortedBy (λ (x y : Held). is_lt (key_cmp x.key.now y.key.now)) to =
    c.in_ok-sort_by.ensures.sorted (λ (x y : Held). is_lt (key_cmp x.key.now y.key.now))
    (ranks_by nat_list_cmp_total (λ (e : Held). map rank e.key.now)) (always_returns_same _ (λ a r. is_lt r ≡ is_lt (key_cmp a.0.now.key.now a.1.0.now.key.now)) _ (λ a r q k. search rules)) in
    subst (λ ps. AreKeysSorted (map pair_view ps)) (sym c.as_slice.ensures.value) (sorted_viewed to up)

pub returns : goal.returns
returns c =
    let from = c.args.pairs.items in
    let to = c.sort_by.new.self.items in
    let moved : IsPermutation (map pair_view from) (map pair_view to) = IsPermutation-map pair_view from to c.in_ok-sort_by.ensures.permutation in
    keys_moved (map pair_view from) (map pair_view to) c.args.root.now c.args.deep c.read_sorted.result moved
    (subst (λ ps. AreKeysRead (map pair_view ps) c.args.root.now c.args.deep c.read_sorted.result) c.as_slice.ensures.value c.read_sorted.ensures)
