use Rattle.std.proofs.Common.{sym, ap, ◌∙◌}
use Rattle.service_nodes.specs.Nodes.{node_number}
use Rattle.runtime_config.proofs.Rowed.{row_read, service_led, disabled_there, nothing_there}
use Rattle.runtime_config.proofs.config.RuntimeConfig.node.Goals as goal

pub node_named-requires : goal.node_named-requires
node_named-requires c =
    let at = row_read c.rows.result.now c.args.self.now.table.rows c.args.row c.in-Some.found.now c.rows.ensures c.in-Some.ensures.lookup.3.0 c.in-Some.ensures.lookup.1 in
    service_led c.args.self.now.graph.nodes c.args.self.now.table.rows c.args.row c.in-Some.found.now c.in-Enabled.service c.as_slice.result.now c.in-Enabled.chain c.in-Enabled.search
    c.args.self.now.led at c.in-Enabled.is c.as_slice.ensures

pub returns-in-Enabled : goal.returns-in-Enabled
returns-in-Enabled c =
    let at = row_read c.rows.result.now c.args.self.now.table.rows c.args.row c.in-Some.found.now c.rows.ensures c.in-Some.ensures.lookup.3.0 c.in-Some.ensures.lookup.1 in
    record {
      row = c.in-Some.found.now;
      service = c.in-Enabled.service;
      names = c.in-Enabled.chain;
      search = c.in-Enabled.search;
      here = at;
      enabled = c.in-Enabled.is;
      named = ap (node_number c.args.self.now.graph.nodes) (sym c.as_slice.ensures) ∙ c.node_named.ensures.number;
      there = c.node_named.ensures.node;
    }

pub returns-in-Disabled : goal.returns-in-Disabled
returns-in-Disabled c =
    let at = row_read c.rows.result.now c.args.self.now.table.rows c.args.row c.in-Some.found.now c.rows.ensures c.in-Some.ensures.lookup.3.0 c.in-Some.ensures.lookup.1 in
    disabled_there c.args.self.now.table.rows c.args.row c.in-Some.found.now c.in-Disabled.field-0 at c.in-Disabled.is

pub returns-in-None : goal.returns-in-None
returns-in-None c = nothing_there c.rows.result.now c.args.self.now.table.rows c.args.row c.rows.ensures c.in-None.ensures.lookup.3
