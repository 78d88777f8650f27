use Rattle.rule_eval.proofs.Networks.{peer_is}
use Rattle.middleware_stage.proofs.applying.has_peer.Goals as goal

pub returns : goal.returns
returns c =
    peer_is c.args.range.now.text c.args.range.now.net.ip c.args.range.now.net.bits c.args.peer c.contains.result c.args.range.now.written c.contains.ensures
