-- The text of a refusal.
use Rattle.std.specs.Prelude.{◌≡◌, ℕ, List, ◌++◌, codes}
use Rattle.std.specs.Fmt.{decimal}
use Rattle.conn_machine.specs.Events.{state_text}
use Rattle.system_core.specs.Answers.{kind_word}
use Rattle.system_core.specs.declared.event.Refused.{Refused}
use Rattle.system_core.specs.declared.event.Refused.TheVariants as refused
use Rattle.replay_cmd.specs.declared.why.Failure.{Failure}
use Rattle.replay_cmd.specs.declared.why.Failure.TheVariants as failure
use Rattle.replay_cmd.specs.declared.why.Why.{Why}
use Rattle.replay_cmd.specs.declared.why.Why.TheVariants as why

abbrev pub why_text : Why → List ℕ
why_text why.Grammar = codes "Grammar"
why_text why.Config = codes "Config"
why_text why.Later = codes "Later"
why_text why.NoSuchLink = codes "NoSuchLink"
why_text (why.NotEnabled kind state) = codes "NotEnabled " ++ kind_word kind ++ codes " " ++ state_text state

-- the line of a refusal
abbrev pub refusal_text : ℕ → Why → List ℕ
refusal_text number w = codes "script " ++ decimal number ++ codes " " ++ why_text w ++ codes "\n"

-- why the event was refused
abbrev pub IsFailureOf : Refused → Failure → Type 0
IsFailureOf (refused.NoSuchLink link) f = f ≡ failure.Refused why.NoSuchLink
IsFailureOf (refused.NotEnabled kind state) f = f ≡ failure.Refused (why.NotEnabled kind state)
IsFailureOf refused.Memory f = f ≡ failure.Memory
