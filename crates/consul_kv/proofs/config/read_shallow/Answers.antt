use Rattle.std.proofs.Common.{map}
use Rattle.std.proofs.lemmas.List.Sorted.{IsPermutation-refl}
use Rattle.consul_kv.specs.Pairs.{pair_view}
use Rattle.consul_kv.proofs.Reading.{keys_read}
use Rattle.consul_kv.proofs.config.read_shallow.Goals as goal

pub returns : goal.returns
returns c =
    let ps = map pair_view c.args.pairs.now in
    keys_read ps c.args.root.now c.in_ok-tree.tree c.decode_texts.result (ps, IsPermutation-refl ps, c.requires.apart, c.in_ok-tree.ensures) c.decode_texts.ensures
