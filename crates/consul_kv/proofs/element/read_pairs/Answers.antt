use Rattle.std.proofs.Common.{map}
use Rattle.consul_kv.specs.Pairs.{pair_view}
use Rattle.consul_kv.proofs.Lists.{pairs_more}
use Rattle.consul_kv.proofs.element.read_pairs.Goals as goal

pub loop-at-preserved : goal.loop-at-preserved
loop-at-preserved c =
    let l = c.loop-at in
    pairs_more c.args.root.now c.args.elements.now l.at c.index-elements-at.result (map pair_view l.pairs.items) (map pair_view c.take_element.new.pairs.items)
    c.loop-at-test.true c.index-elements-at.is l.invariant c.in-Ok.ensures
