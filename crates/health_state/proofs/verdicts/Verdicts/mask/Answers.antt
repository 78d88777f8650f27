use Rattle.std.proofs.Common.{◌<◌, ◌^◌, arith}
use Rattle.health_state.proofs.Healths.{mask_room}
use Rattle.health_state.proofs.verdicts.Verdicts.mask.Goals as goal

pub overflow_mul-mask : goal.overflow_mul-mask
overflow_mul-mask c =
    let room : c.loop-i.mask < 2 ^ 63 = mask_room c.self.inside.servers.items c.loop-i.i c.loop-i.mask c.self.invariant (omega arith) c.loop-i.invariant in
    omega (arith, room)

pub overflow_add-mask : goal.overflow_add-mask
overflow_add-mask c =
    let room : c.loop-i.mask < 2 ^ 63 = mask_room c.self.inside.servers.items c.loop-i.i c.loop-i.mask c.self.invariant (omega arith) c.loop-i.invariant in
    grind (arith, room, c.from.ensures)
