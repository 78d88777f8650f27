use Rattle.std.proofs.Common.{subst}
use Rattle.dyn_config.specs.declared.service.ServerDef.{ServerDef}
use Rattle.service_nodes.specs.Nodes.{IsServerOf}
use Rattle.service_nodes.proofs.Making.{url_at, zip_more, zip_all}
use Rattle.service_nodes.proofs.servers.servers_of.Goals as goal

pub server_of-requires : goal.server_of-requires
server_of-requires c = url_at c.args.defs.now c.loop-def.def-index c.def-item.result c.requires c.loop-def-test.true c.def-item.is

pub loop-def-preserved : goal.loop-def-preserved
loop-def-preserved c =
    let P : ServerDef → Type 0 = λ d. IsServerOf d c.in_ok-server.server in
    zip_more IsServerOf c.args.defs.now c.loop-def.servers c.push.new.self c.loop-def.def-index c.def-item.result c.in_ok-server.server
    c.loop-def-test.true c.in_ok-push.ensures.ok c.loop-def.invariant (subst P c.def-item.is c.in_ok-server.ensures)

pub returns : goal.returns
returns c = zip_all IsServerOf c.args.defs.now c.loop-def.servers c.loop-def.def-index c.loop-def-test.false c.loop-def.invariant
