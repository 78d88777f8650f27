use Rattle.std.proofs.Common.{[], ◌∷◌, ◌++◌}
use Rattle.http_wire.proofs.Codings.{more_front}
use Rattle.http_wire.proofs.fields.last_element.Goals as goal

pub loop-rest-preserved : goal.loop-rest-preserved
loop-rest-preserved c =
    let before = c.loop-rest.invariant in
    let cut = c.in-Some.ensures in
    (before.0 ++ cut.0 ∷ [], more_front c.args.text.now cut.0 before.0 c.loop-rest.left.now c.in-Some.rest.now before.1 cut.1)
