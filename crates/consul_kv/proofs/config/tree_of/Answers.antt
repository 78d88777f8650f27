use Rattle.std.proofs.Common.{◌≡◌, ◌+◌, length, map, sym, ap, ◌∙◌, subst, refl}
use Rattle.consul_kv.specs.Pairs.{pair_view}
use Rattle.consul_kv.specs.Rises.{Rises, cut, slashed}
use Rattle.consul_kv.specs.Grown.{paths_of}
use Rattle.consul_kv.proofs.Growing.{cut_rises}
use Rattle.consul_kv.proofs.Lists.{all_below, rises_sorted, slashed_all}
use Rattle.consul_kv.proofs.config.tree_of.Goals as goal

pub table_of-requires : goal.table_of-requires
table_of-requires c =
    let root = c.args.root.now in
    let pairs = map pair_view c.args.pairs.now in
    let e : paths_of c.as_slice.result.now ≡ map (cut (length root + 1)) pairs = ap paths_of c.as_slice.ensures.value ∙ c.in_ok-leaves.ensures in
    subst Rises (sym e) (cut_rises root pairs (all_below root pairs c.requires.below) (rises_sorted root pairs c.requires.sorted c.requires.apart))

pub returns : goal.returns
returns c =
    let root = c.args.root.now in
    let pairs = map pair_view c.args.pairs.now in
    let e : paths_of c.as_slice.result.now ≡ map (cut (length root + 1)) pairs = ap paths_of c.as_slice.ensures.value ∙ c.in_ok-leaves.ensures in (
      c.in_ok-fields.fields,
      record {
        texts = c.in_ok-fields.ensures.texts ∙ ap (map slashed) e ∙ slashed_all root pairs (all_below root pairs c.requires.below);
        grown = c.in_ok-fields.ensures.grown;
      },
      refl,
    )
