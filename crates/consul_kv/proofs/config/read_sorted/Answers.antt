use Rattle.std.proofs.Common.{map, sym, subst}
use Rattle.std.proofs.lemmas.List.Sorted.{IsPermutation-refl}
use Rattle.consul_kv.specs.Keys.{IsFirstClash}
use Rattle.consul_kv.specs.Pairs.{pair_view}
use Rattle.consul_kv.proofs.config.read_sorted.Goals as goal

pub returns-in_ok-key-in-Some : goal.returns-in_ok-key-in-Some
returns-in_ok-key-in-Some c =
    let ps = map pair_view c.args.pairs.now in
    (ps, IsPermutation-refl ps, subst (IsFirstClash c.args.root.now ps) (sym c.in_ok-key-in-Some.ensures) c.in-Some.ensures)
