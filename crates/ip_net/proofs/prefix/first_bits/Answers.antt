use Rattle.ip_net.proofs.Networks.{first_of}
use Rattle.ip_net.proofs.prefix.first_bits.Goals as goal

pub returns-in-Some-clause-reads : goal.returns-in-Some-clause-reads
returns-in-Some-clause-reads c = first_of c.args.address.now c.args.digits.now c.in-Ok.written c.in-Some.prefix c.network.result c.in-Ok.ensures c.in-Some.ensures c.network.ensures.reads
