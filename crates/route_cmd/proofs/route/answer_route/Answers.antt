use Rattle.std.proofs.Common.{arith}
use Rattle.std.proofs.lemmas.Result.{IfOk-weaker}
use Rattle.route_cmd.specs.Output.{refused_file}
use Rattle.route_cmd.proofs.Stopped.{stops_read, stops_memory}
use Rattle.route_cmd.proofs.route.answer_route.Goals as goal

pub returns-in-Ok-clause-told : goal.returns-in-Ok-clause-told
returns-in-Ok-clause-told g c =
    let (bytes, was, ended, means) = c.in-Ok.ensures in
    IfOk-weaker c.answer_config.result _ _ (λ a h. h (g.C.Source.left c.args.config.now) bytes was means) c.answer_config.ensures.told

pub returns-in-Ok-clause-stop : goal.returns-in-Ok-clause-stop
returns-in-Ok-clause-stop g c =
    let (bytes, was, ended, means) = c.in-Ok.ensures in
    stops_read c.answer_config.result c.in-Ok.config (g.C.Source.left c.args.config.now) bytes _ _ was means c.answer_config.ensures.stop

pub returns-in-Err-File-clause-told : goal.returns-in-Err-File-clause-told
returns-in-Err-File-clause-told g c =
    let (other, bytes, was, ended, means) = rw c.in-Err-File.field-0-is at c.in-Err-File.ensures in
    let said = rw c.in-Err-File.field-0-is at c.fault_answer.ensures.told in
    IfOk-weaker c.fault_answer.result _ _ (λ a h. refused_file bytes c.in-Err-File.fault was means h.2 h.0 h.1) said

pub returns-in-Err-File-clause-end : goal.returns-in-Err-File-clause-end
returns-in-Err-File-clause-end g c = IfOk-weaker c.fault_answer.result _ _ (λ a h e. absurd (omega (arith, h.0, e))) c.fault_answer.ensures.told

pub returns-in-Err-File-clause-apart : goal.returns-in-Err-File-clause-apart
returns-in-Err-File-clause-apart g c = IfOk-weaker c.fault_answer.result _ _ (λ a h. (λ e. omega (arith, h.0, e), λ e. omega (arith, h.0, e))) c.fault_answer.ensures.told

pub returns-in-Err-File-clause-stop : goal.returns-in-Err-File-clause-stop
returns-in-Err-File-clause-stop g c = stops_memory c.fault_answer.result _ _ _ c.fault_answer.ensures.stop
