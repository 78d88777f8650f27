use Rattle.std.proofs.Common.{sym, ap, ◌∙◌, Some}
use Rattle.ip_net.proofs.Slashes.{cut_at}
use Rattle.ip_net.proofs.Networks.{net_whole, net_first}
use Rattle.ip_net.proofs.prefix.read_net.Goals as goal

pub returns-in-None-clause-reads : goal.returns-in-None-clause-reads
returns-in-None-clause-reads c = net_whole c.args.text.now c.whole.result (sym c.in-None.ensures.value) c.whole.ensures.reads

pub returns-in-Some-clause-reads : goal.returns-in-Some-clause-reads
returns-in-Some-clause-reads c =
    let cut = cut_at c.args.text.now c.split_at.result.0.now c.split_at.result.1.now c.in-Some.slash (sym c.in-Some.ensures.value) c.split_at.ensures.front c.split_at.ensures.back in
    net_first c.args.text.now c.split_at.result.0.now _ c.first_bits.result cut.0 (sym c.in-Some.ensures.value ∙ ap Some cut.1) c.first_bits.ensures.reads
