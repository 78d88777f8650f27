use Rattle.std.proofs.Common.{map}
use Rattle.std.proofs.lemmas.List.Sorted.{IsPermutation-refl}
use Rattle.consul_kv.specs.Pairs.{pair_view}
use Rattle.consul_kv.proofs.Reading.{deep_read}
use Rattle.consul_kv.proofs.config.read_apart.Goals as goal

pub returns-in-Some : goal.returns-in-Some
returns-in-Some c =
    let ps = map pair_view c.args.pairs.now in
    deep_read ps c.args.root.now c.args.deep c.in-Some.at c.in-Some.is (ps, IsPermutation-refl ps, c.requires.apart)
