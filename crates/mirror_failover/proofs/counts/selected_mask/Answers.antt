use Rattle.std.proofs.Common.{◌<◌, ◌^◌, arith}
use Rattle.mirror_failover.specs.Mirrors.{selects}
use Rattle.mirror_failover.proofs.Flags.{mask_room}
use Rattle.mirror_failover.proofs.counts.selected_mask.Goals as goal

pub overflow_mul-mask : goal.overflow_mul-mask
overflow_mul-mask c =
    let room : c.loop-i.mask < 2 ^ 62 = mask_room (λ p. selects p c.args.n) c.args.percents.now c.loop-i.i c.loop-i.mask c.requires.few (omega arith) c.loop-i.invariant in
    omega (arith, room)

pub overflow_add-mask : goal.overflow_add-mask
overflow_add-mask c =
    let room : c.loop-i.mask < 2 ^ 62 = mask_room (λ p. selects p c.args.n) c.args.percents.now c.loop-i.i c.loop-i.mask c.requires.few (omega arith) c.loop-i.invariant in
    grind (arith, room, c.from.ensures)
