use Rattle.route_cmd.proofs.Nodes.{leads_well}
use Rattle.route_cmd.proofs.lines.server_at.Goals as goal

pub only_server-requires : goal.only_server-requires
only_server-requires c =
    let enabled = c.requires.enabled in
    (leads_well c.args.config.now.merged c.args.config.now c.args.number c.in-Some.at.number enabled.0 c.in-Some.at.node.now c.requires.runtime c.requires.form c.in-Some.ensures enabled.1).of_one

pub returns : goal.returns
returns c = λ row here.
    (leads_well c.args.config.now.merged c.args.config.now c.args.number c.in-Some.at.number row c.in-Some.at.node.now c.requires.runtime c.requires.form c.in-Some.ensures here).server
    c.only_server.result.now c.only_server.ensures
