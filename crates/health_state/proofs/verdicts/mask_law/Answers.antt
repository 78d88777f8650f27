use Rattle.std.proofs.Common.{arith}
use Rattle.health_state.specs.Marks.{ups_after, last_verdict}
use Rattle.health_state.proofs.Flags.{bit_when-flag, bit_at-past}
use Rattle.health_state.proofs.Marking.{slice_get-ups_after, length-ups_after}
use Rattle.health_state.proofs.Healths.{up_mask-run}
use Rattle.health_state.proofs.verdicts.mask_law.Goals as goal

pub returns-clause-run : goal.returns-clause-run
returns-clause-run c = up_mask-run

pub returns-clause-bits : goal.returns-clause-bits
returns-clause-bits c count server marks within =
    bit_when-flag (ups_after count marks) server (last_verdict marks server) (slice_get-ups_after count server marks within)

pub returns-clause-others : goal.returns-clause-others
returns-clause-others c count server marks past =
    bit_at-past (ups_after count marks) server (omega (arith, length-ups_after count marks))
