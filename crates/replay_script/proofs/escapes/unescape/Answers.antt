use Rattle.std.proofs.Common.{sym}
use Rattle.replay_script.proofs.Pieces.{partly_more, partly_stuck}
use Rattle.replay_script.proofs.escapes.unescape.Goals as goal

pub loop-rest-preserved : goal.loop-rest-preserved
loop-rest-preserved c =
    rw c.in_ok-push-in-Some.ensures.items
    (partly_more c.args.text.now c.loop-rest.rest.now c.in-Some.more.now c.loop-rest.bytes.items c.in-Some.byte c.loop-rest.invariant c.in-Some.ensures)

pub returns-in-None : goal.returns-in-None
returns-in-None c =
    partly_stuck c.args.text.now c.loop-rest.rest.now c.loop-rest.bytes.items (sym c.loop-rest-test.ensures) c.in-None.ensures c.loop-rest.invariant
