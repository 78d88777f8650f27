use Rattle.std.proofs.Common.{arith, ◌≤◌}
use Rattle.back_machine.proofs.ReplyLemmas.{full, overfull, few_fields}
use Rattle.back_machine.proofs.reading.find_any.Goals as goal

pub take_found-requires-clause-head : goal.take_found-requires-clause-head
take_found-requires-clause-head c =
    let of = rw c.in-Ok-Complete.field-0-is at c.in-Ok-Complete.ensures.complete in
    let most : 100 ≤ 100 = omega arith in
    (of.0, of.1, few_fields c.args.gave.now c.parse_response.new.headers c.in-Ok-Complete.found of.0 100 of.1 c.parse_response.auto.headers most)

pub returns-in-Ok-Partial-2 : goal.returns-in-Ok-Partial-2
returns-in-Ok-Partial-2 c =
    full c.args.method.now c.args.gave.now (rw c.in-Ok-Partial.field-0-is at c.in-Ok-Partial.ensures.partial) c.if-gave-lt-HEAD_LIMIT.false

pub returns-in-Err : goal.returns-in-Err
returns-in-Err c = overfull c.args.method.now c.args.gave.now c.in-Err.ensures.no_room
