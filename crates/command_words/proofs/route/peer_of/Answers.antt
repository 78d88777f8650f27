use Rattle.std.proofs.Common.{codes}
use Rattle.ip_net.specs.declared.ip.Ip.TheVariants.{V4}
use Rattle.ip_net.specs.Texts.{Writes}
use Rattle.command_words.specs.Values.{values_of}
use Rattle.command_words.proofs.Chosens.{unread}
use Rattle.command_words.proofs.route.peer_of.Goals as goal

pub returns-in-None-read_ip : goal.returns-in-None-read_ip
returns-in-None-read_ip c =
    let given = rw c.in-Some.is at c.in_ok-text.ensures in
    unread (values_of (codes "peer") c.args.settings.now) c.in-Some.text.now (V4 2130706433) Writes given c.in-None-read_ip.ensures.reads
