use Rattle.generation.proofs.Led.{row_read, enabled_leads, disabled_there, nothing_there, found_alike}
use Rattle.generation.proofs.generation.Generation.target.Goals as goal

pub returns-in-Enabled : goal.returns-in-Enabled
returns-in-Enabled c =
    let at = row_read c.rows.result.now c.args.self.now.table.rows c.args.row c.in-Some.found.now c.rows.ensures c.in-Some.ensures.lookup.3.0 c.in-Some.ensures.lookup.1 in
    let found = found_alike (λ target. target.now) c.as_slice.result.now c.args.self.now.nodes c.as_slice-in-Enabled.result.now c.in-Enabled.service c.target_of.result
    c.as_slice.ensures c.as_slice-in-Enabled.ensures c.target_of.ensures in
    enabled_leads (λ target. target.now) c.args.self.now c.args.row c.in-Some.found.now c.in-Enabled.service c.in-Enabled.chain c.in-Enabled.search c.target_of.result
    c.args.self.now.led at c.in-Enabled.is found

pub returns-in-Disabled : goal.returns-in-Disabled
returns-in-Disabled c =
    let at = row_read c.rows.result.now c.args.self.now.table.rows c.args.row c.in-Some.found.now c.rows.ensures c.in-Some.ensures.lookup.3.0 c.in-Some.ensures.lookup.1 in
    disabled_there c.args.self.now.table.rows c.args.row c.in-Some.found.now c.in-Disabled.field-0 at c.in-Disabled.is

pub returns-in-None : goal.returns-in-None
returns-in-None c = nothing_there c.rows.result.now c.args.self.now.table.rows c.args.row c.rows.ensures c.in-None.ensures.lookup.3
