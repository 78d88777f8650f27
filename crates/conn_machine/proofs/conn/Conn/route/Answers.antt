use Rattle.std.proofs.Common.{refl, ap, ◌∙◌, ◌++◌, ℕ, List, take}
use Rattle.std.specs.Prelude.{is_some}
use Rattle.conn_machine.specs.declared.pins.Routed.TheVariants as route
use Rattle.conn_machine.proofs.Opens.{opened_at, reached_open}
use Rattle.conn_machine.proofs.Turnings.{opened_refused, opened_lost, opened_won, route_at}
use Rattle.conn_machine.proofs.conn.Conn.route.Goals as goal

pub returns-in_ok-own_text-in-Refused-clause-reached : goal.returns-in_ok-own_text-in-Refused-clause-reached
returns-in_ok-own_text-in-Refused-clause-reached c = λ steps r.
    reached_open _ refl (opened_refused c.in-Refused.cause c.refused_status-status.result c.is_some-close.result c.in_ok-own_text-in-Refused.ensures.text.0
    (record { asked = refl; size = refl; issue = refl; pinned = refl; index = refl; number = refl }) refl refl refl
    (c.in_ok-own_text-in-Refused.ensures.text.2 ∙ ap (λ (l : List ℕ). l ++ c.in_ok-own_text-in-Refused.ensures.text.0) c.clear.ensures.items)
    c.refused_status-status.ensures.status (c.is_some-close.ensures ∙ ap is_some c.end_after.ensures.end) c.in_ok-own_text-in-Refused.ensures.text.1
    (route_at c.as_slice.result.now c.args.self.now.client.entry c.args.self.now.client.peer c.item.result.now (take c.args.self.now.current.size c.args.self.now.input.items) c.args.self.now.current c.in_ok-routed.routed (route.Refused c.in-Refused.cause) c.as_slice.ensures c.item.ensures c.in-Refused.is c.in_ok-routed.ensures)
    (opened_at c.requires r))

pub returns-in_ok-own_text-in-Lost-clause-reached : goal.returns-in_ok-own_text-in-Lost-clause-reached
returns-in_ok-own_text-in-Lost-clause-reached c = λ steps r.
    reached_open _ refl (opened_lost c.is_some-close.result c.in_ok-own_text-in-Lost.ensures.text.0
    (record { asked = refl; size = refl; issue = refl; pinned = refl; index = refl; number = refl }) refl refl refl
    (c.in_ok-own_text-in-Lost.ensures.text.2 ∙ ap (λ (l : List ℕ). l ++ c.in_ok-own_text-in-Lost.ensures.text.0) c.clear-in-Lost.ensures.items)
    (c.is_some-close.ensures ∙ ap is_some c.end_after.ensures.end) c.in_ok-own_text-in-Lost.ensures.text.1
    (route_at c.as_slice.result.now c.args.self.now.client.entry c.args.self.now.client.peer c.item.result.now (take c.args.self.now.current.size c.args.self.now.input.items) c.args.self.now.current c.in_ok-routed.routed route.Lost c.as_slice.ensures c.item.ensures c.in-Lost.is c.in_ok-routed.ensures)
    (opened_at c.requires r))

pub returns-in-Won-clause-reached : goal.returns-in-Won-clause-reached
returns-in-Won-clause-reached c = λ steps r.
    reached_open _ refl (opened_won c.in-Won.row c.in-Won.aim
    (record { asked = refl; size = refl; issue = refl; pinned = refl; index = refl; number = refl }) refl refl refl refl
    (route_at c.as_slice.result.now c.args.self.now.client.entry c.args.self.now.client.peer c.item.result.now (take c.args.self.now.current.size c.args.self.now.input.items) c.args.self.now.current c.in_ok-routed.routed (route.Won c.in-Won.row c.in-Won.aim) c.as_slice.ensures c.item.ensures c.in-Won.is c.in_ok-routed.ensures)
    (opened_at c.requires r))
