use Rattle.ip_net.proofs.Networks.{whole_of}
use Rattle.ip_net.proofs.prefix.whole.Goals as goal

pub returns-in-Ok-clause-reads : goal.returns-in-Ok-clause-reads
returns-in-Ok-clause-reads c = whole_of c.args.text.now c.in-Ok.written c.written_width.result c.network.result c.in-Ok.ensures c.written_width.ensures c.network.ensures.reads
