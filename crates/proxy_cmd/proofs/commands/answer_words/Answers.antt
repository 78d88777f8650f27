use Rattle.std.proofs.Common.{inl, inr}
use Rattle.std.proofs.lemmas.Result.{IfOk-weaker}
use Rattle.command_words.specs.declared.command.Command.TheVariants.{Route, Check, Replay}
use Rattle.proxy_cmd.specs.Output.{route, check, replay, usage}
use Rattle.proxy_cmd.proofs.Named.{no_route, no_replay}
use Rattle.proxy_cmd.proofs.Stopped.{keeps_itself, stops_words, stops_check, stops_script}
use Rattle.proxy_cmd.proofs.commands.answer_words.Goals as goal

pub returns-in-Ok-Route-clause-told : goal.returns-in-Ok-Route-clause-told
returns-in-Ok-Route-clause-told g c =
    let is = rw c.in-Ok-Route.field-0-is at c.in-Ok-Route.ensures in
    IfOk-weaker c.answer_plan.result _ _ (λ a h. route _ is h) c.answer_plan.ensures.told

pub returns-in-Ok-Route-clause-stop : goal.returns-in-Ok-Route-clause-stop
returns-in-Ok-Route-clause-stop g c =
    let is = rw c.in-Ok-Route.field-0-is at c.in-Ok-Route.ensures in
    stops_words _ c.in-Ok-Route.plan _ _ _ c.answer_plan.result is c.answer_plan.ensures.stop

pub returns-in-Err-NotACommand-clause-told : goal.returns-in-Err-NotACommand-clause-told
returns-in-Err-NotACommand-clause-told g c =
    let never = c.in-Err-NotACommand.ensures c.in-Err-NotACommand.field-0-is in
    usage (λ plan w. never (Route plan) w) (λ plan w. never (Check plan) w) (λ w. never Replay w) c.in_ok-usage_answer-in-Err-NotACommand.ensures.0 c.in_ok-usage_answer-in-Err-NotACommand.ensures.1

pub returns-in-Ok-Replay-clause-told : goal.returns-in-Ok-Replay-clause-told
returns-in-Ok-Replay-clause-told g c =
    let is = rw c.in-Ok-Replay.field-0-is at c.in-Ok-Replay.ensures in
    IfOk-weaker c.answer_script.result _ _ (λ a h. replay is h) c.answer_script.ensures.told

pub returns-in-Ok-Replay-clause-stop : goal.returns-in-Ok-Replay-clause-stop
returns-in-Ok-Replay-clause-stop g c =
    let is = rw c.in-Ok-Replay.field-0-is at c.in-Ok-Replay.ensures in
    stops_script _ _ _ _ c.answer_script.result is c.answer_script.ensures.stop

pub returns-in-Ok-Route-clause-end : goal.returns-in-Ok-Route-clause-end
returns-in-Ok-Route-clause-end g c = IfOk-weaker c.answer_plan.result _ _ (λ a h e. inl (h e)) c.answer_plan.ensures.end

pub returns-in-Ok-Replay-clause-end : goal.returns-in-Ok-Replay-clause-end
returns-in-Ok-Replay-clause-end g c = IfOk-weaker c.answer_script.result _ _ (λ a h e. inl (h e)) c.answer_script.ensures.end

pub returns-in-Ok-Check-clause-told : goal.returns-in-Ok-Check-clause-told
returns-in-Ok-Check-clause-told g c =
    let is = rw c.in-Ok-Check.field-0-is at c.in-Ok-Check.ensures in
    IfOk-weaker c.answer_check_file.result _ _ (λ a h. check _ is h) c.answer_check_file.ensures.told

pub returns-in-Ok-Check-clause-end : goal.returns-in-Ok-Check-clause-end
returns-in-Ok-Check-clause-end g c =
    let is = rw c.in-Ok-Check.field-0-is at c.in-Ok-Check.ensures in
    IfOk-weaker c.answer_check_file.result _ _ (λ a h e. inr (_, is, h e)) c.answer_check_file.ensures.end

pub returns-in-Ok-Check-clause-stop : goal.returns-in-Ok-Check-clause-stop
returns-in-Ok-Check-clause-stop g c =
    let is = rw c.in-Ok-Check.field-0-is at c.in-Ok-Check.ensures in
    stops_check _ _ _ _ _ c.answer_check_file.result is c.answer_check_file.ensures.stop

pub returns-in-Ok-Route-clause-unread : goal.returns-in-Ok-Route-clause-unread
returns-in-Ok-Route-clause-unread g c =
    let is = rw c.in-Ok-Route.field-0-is at c.in-Ok-Route.ensures in
    λ plan w. absurd (no_route _ _ plan is w)

pub returns-in-Ok-Check-clause-unread : goal.returns-in-Ok-Check-clause-unread
returns-in-Ok-Check-clause-unread g c = λ plan w. keeps_itself (g.Q.Source.left c.args.input.now)

pub returns-in-Ok-Replay-clause-unread : goal.returns-in-Ok-Replay-clause-unread
returns-in-Ok-Replay-clause-unread g c =
    let is = rw c.in-Ok-Replay.field-0-is at c.in-Ok-Replay.ensures in
    λ plan w. absurd (no_replay _ plan is w)
