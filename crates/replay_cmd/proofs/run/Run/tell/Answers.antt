use Rattle.std.proofs.Common.{◌≡◌, ◌<◌, ℕ, List, [], refl, sym, subst, length, arith}
use Rattle.replay_script.specs.declared.lines.Line.{Line}
use Rattle.replay_script.specs.Lines.{IsLine}
use Rattle.replay_cmd.specs.Replays.{Step, blank, said}
use Rattle.replay_cmd.proofs.Telling.{cut_shorter, configures_by, not_true}
use Rattle.replay_cmd.proofs.run.Run.tell.Goals as goal

pub returns-then-is_blank-clause-step : goal.returns-then-is_blank-clause-step
returns-then-is_blank-clause-step g c = blank c.cut_line.result.0.now c.cut_line.ensures.cut (c.if-is_blank.ensures.0 refl) refl refl

pub returns-in-Some-ConfigFile-clause-step : goal.returns-in-Some-ConfigFile-clause-step
returns-in-Some-ConfigFile-clause-step g c = configures_by _ _ c.args.self.now c.configure.new.self c.args.text.now c.cut_line.result.0.now c.cut_line.result.1.now c.configure.result
    c.cut_line.ensures.cut (λ e. not_true (c.if-is_blank.ensures.1 e)) (rw c.in-Some-ConfigFile.field-0-is at c.in-Some-ConfigFile.ensures) c.configure.ensures.told

pub returns-in_ok-say-in-Some : goal.returns-in_ok-say-in-Some
returns-in_ok-say-in-Some g c = record {
  step = said c.cut_line.result.0.now c.in-Some.read c.in_ok-say-in-Some.ensures.said.0 c.cut_line.ensures.cut c.in-Some.ensures c.in_ok-say-in-Some.ensures.said.1 c.in_ok-say-in-Some.ensures.said.2 c.say.ensures.configured refl;
  shorter = cut_shorter c.args.text.now c.cut_line.result.0.now c.cut_line.result.1.now c.requires c.cut_line.ensures.cut;
  later = omega arith;
}
