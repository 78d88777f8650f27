use Rattle.std.proofs.Common.{arith, length-drop}
use Rattle.std.proofs.lemmas.List.{take_rest}
use Rattle.px_base.proofs.Pieces.{appends_more}
use Rattle.px_base.proofs.sink.write_all.Goals as goal

pub loop-at-preserved : goal.loop-at-preserved
loop-at-preserved g c =
    let takes = rw (take_rest c.args.text.now c.loop-at.at) at c.in-Took.ensures.takes in (
      omega (arith, takes.1, length-drop c.loop-at.at c.args.text.now, c.loop-at.invariant.0),
      omega (arith, c.loop-at.invariant.1, c.in-Took.ensures.cause),
      appends_more (g.K.Sink.held c.args.sink.now) (g.K.Sink.held c.loop-at.sink) (g.K.Sink.held c.write.new.self) c.args.text.now c.loop-at.at c.in-Took.count c.loop-at.invariant.2 takes.2,
    )
