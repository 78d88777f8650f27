use Rattle.std.proofs.Common.{refl}
use Rattle.http_wire.proofs.Heads.{takes_same}
use Rattle.http_wire.proofs.requests.take_request.Goals as goal

pub returns : goal.returns
returns c =
    takes_same _ _ _ _ c.args.spans.now.version _ _ c.args.peer c.taken.result c.of.ensures c.of-2.ensures refl c.taken.ensures
