use Rattle.rule_eval.proofs.Networks.{peer_is}
use Rattle.rule_eval.proofs.asking.has_peer.Goals as goal

pub returns : goal.returns
returns c = peer_is c.args.network.now.text c.args.network.now.net.ip c.args.network.now.net.bits c.args.peer c.contains.result c.args.network.now.written c.contains.ensures
