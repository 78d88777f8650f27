use Rattle.std.proofs.Common.{◌++◌, take}
use Rattle.px_base.proofs.Pieces.{consumes_more}
use Rattle.px_base.proofs.source.read_all.Goals as goal

pub returns-then-is_err-clause-rest : goal.returns-then-is_err-clause-rest
returns-then-is_err-clause-rest g c = (
  c.loop-room.bytes.items ++ take c.in-Got.count c.read.new.room,
  consumes_more (g.S.Source.left c.args.source.now) (g.S.Source.left c.loop-room.source) (g.S.Source.left c.read.new.self) c.loop-room.bytes.items (take c.in-Got.count c.read.new.room)
      c.loop-room.invariant.1 c.in-Got.ensures.gives.2,
)
