use Rattle.std.proofs.Common.{arith}
use Rattle.config_input.proofs.Refusals.{refused_apart}
use Rattle.check_cmd.specs.Output.{refused, checked}
use Rattle.check_cmd.proofs.Refused.{refused_read}
use Rattle.check_cmd.proofs.check.answer_check.Goals as goal

pub answer_merged-requires : goal.answer_merged-requires
answer_merged-requires g c = let few = c.in-Ok.ensures.few in omega (arith, few)

pub returns-in_ok-answer_merged-in-Ok-clause-told : goal.returns-in_ok-answer_merged-in-Ok-clause-told
returns-in_ok-answer_merged-in-Ok-clause-told g c =
    checked c.in-Ok.merged c.in-Ok.ensures.read.0 c.in_ok-answer_merged-in-Ok.ensures.told c.in_ok-answer_merged-in-Ok.ensures.status

pub returns-in_ok-answer_merged-in-Ok-clause-end : goal.returns-in_ok-answer_merged-in-Ok-clause-end
returns-in_ok-answer_merged-in-Ok-clause-end g c = λ e. c.in-Ok.ensures.read.1

pub returns-in_ok-answer_merged-in-Ok-clause-apart : goal.returns-in_ok-answer_merged-in-Ok-clause-apart
returns-in_ok-answer_merged-in-Ok-clause-apart g c =
    let is = c.in_ok-answer_merged-in-Ok.ensures.status in (λ e. omega (arith, is, e), λ e. omega (arith, is, e))

pub returns-in-Err-Refused-clause-told : goal.returns-in-Err-Refused-clause-told
returns-in-Err-Refused-clause-told g c =
    let is = refused_read _ _ _ c.in-Err-Refused.answer c.in-Err-Refused.field-0-is c.in-Err-Refused.ensures.read in
    rw c.in-Err-Refused.field-0-is (refused is)

pub returns-in-Err-Refused-clause-end : goal.returns-in-Err-Refused-clause-end
returns-in-Err-Refused-clause-end g c =
    let is = refused_read _ _ _ c.in-Err-Refused.answer c.in-Err-Refused.field-0-is c.in-Err-Refused.ensures.read in
    let apart = refused_apart _ _ _ is in rw c.in-Err-Refused.field-0-is (λ e. absurd (apart.0 e))

pub returns-in-Err-Refused-clause-apart : goal.returns-in-Err-Refused-clause-apart
returns-in-Err-Refused-clause-apart g c =
    let is = refused_read _ _ _ c.in-Err-Refused.answer c.in-Err-Refused.field-0-is c.in-Err-Refused.ensures.read in
    let apart = refused_apart _ _ _ is in rw c.in-Err-Refused.field-0-is (apart.1, apart.2)
