use Rattle.std.proofs.Common.{ℕ, take, ap, ◌∙◌}
use Rattle.consul_kv.proofs.Growing.{part_by_len}
use Rattle.consul_kv.proofs.grow.first_part.Goals as goal

pub returns : goal.returns
returns c =
    let path = c.args.path.now in
    ap (λ (k : ℕ). take k path) c.part_len.ensures.len ∙ part_by_len path
