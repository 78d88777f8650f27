use Rattle.std.proofs.Common.{◌∙◌, ap}
use Rattle.std.proofs.lemmas.Result.{IfOk-weaker}
use Rattle.middleware_chain.specs.declared.flow.Flow.TheVariants.{Pass, Stop}
use Rattle.route_cmd.specs.Output.{stopped, forward, stop_text, forward_text}
use Rattle.route_cmd.proofs.Going.{goes}
use Rattle.route_cmd.proofs.lines.flow_line.Goals as goal

pub returns-in-Stop : goal.returns-in-Stop
returns-in-Stop c =
    let s = c.in-Stop in
    IfOk-weaker c.stop_line.result _ _ (λ text e entry asked q peer won made.
    stopped won.row s.place s.status s.location (goes c.args.config.now entry asked q peer c.args.number (Stop s.place s.status s.location) c.requires.runtime won (rw s.is at made))
    (e ∙ ap (λ router. stop_text router s.place s.status) (c.name_at-router.ensures won.row won.at))) c.stop_line.ensures

pub returns-in-Pass : goal.returns-in-Pass
returns-in-Pass c =
    let s = c.in-Pass in
    IfOk-weaker c.forward_line.result _ _ (λ text e entry asked q peer won made.
    forward won.row s.request s.body_limit c.server_at.result.now
    (goes c.args.config.now entry asked q peer c.args.number (Pass s.request s.body_limit) c.requires.runtime won (rw s.is at made)) (c.server_at.ensures won.row won.at)
    (e ∙ ap (λ router. forward_text router c.server_at.result.now.host c.server_at.result.now.port) (c.name_at-router.ensures won.row won.at))) c.forward_line.ensures
