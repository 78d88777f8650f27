use Rattle.std.proofs.Common.{◌∙◌, ap}
use Rattle.http_wire.specs.Targets.{host_of_rules}
use Rattle.rule_eval.specs.Truth.{asked_of}
use Rattle.conn_machine.proofs.Finds.{finds_only, found_row, found_enabled, judged_as}
use Rattle.conn_machine.proofs.pins.row_of.Goals as goal

pub returns-clause-row : goal.returns-clause-row
returns-clause-row c = found_row c.args.issue.now c.args.item.now c.args.entry.now c.args.peer c.args.request.now c.view-view.result c.winner.result
    (judged_as c.args.item.now c.args.room.now c.args.spans.now c.args.request.now c.view-view.result (finds_only c.requires.head) c.view-view.ensures.head
    (c.view-view.ensures.host ∙ c.host_of_rules-host.ensures ∙ ap host_of_rules c.as_slice.ensures) (c.view-view.ensures.path ∙ c.as_slice-path.ensures) (c.view-view.ensures.query ∙ c.query_of.ensures))
    c.winner.ensures

pub returns-clause-enabled : goal.returns-clause-enabled
returns-clause-enabled c = found_enabled c.args.issue.now c.args.entry.now (asked_of c.view-view.result) c.args.peer c.winner.result c.winner.ensures
