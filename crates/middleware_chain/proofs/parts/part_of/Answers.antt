use Rattle.std.proofs.Common.{arith}
use Rattle.middleware_chain.proofs.Parted.{used_within}
use Rattle.middleware_chain.proofs.parts.part_of.Goals as goal

pub overflow_sub-left : goal.overflow_sub-left
overflow_sub-left g c =
    let w = used_within c.args.entries.now c.args.left.now c.args.entry.now c.in_ok-part.part c.in_ok-part.ensures.part in omega (arith, w, c.used_by.ensures)
