-- What an offline command answers: its status and its text, by the words, the file and the input.
use Rattle.std.specs.Prelude.{◌≡◌, ℕ, List, [], ◌∷◌, ◌++◌, codes, Option, ⊤}
use Rattle.std.specs.Io.KnownBytes.{Appends, Keeps}
use Rattle.px_base.specs.Bytes.{AppendsLess}
use Rattle.dyn_config.specs.declared.merged.Merged.{Merged}
use Rattle.file_provider.specs.Files.{WasRead, IsOver}
use Rattle.command_words.specs.Commands.{IsCommand}
use Rattle.command_words.specs.declared.command.Command.TheVariants.{Route, Check, Replay}
use Rattle.command_words.specs.declared.command.CheckPlan.{CheckPlan}
use Rattle.command_words.specs.declared.command.RoutePlan.{RoutePlan}
use Rattle.route_cmd.specs.Output.{line, RouteOutput, IsConfigured}
use Rattle.route_cmd.specs.Services.{HaveOneServer}
use Rattle.route_cmd.specs.declared.answer.Stop.{Stop}
use Rattle.route_cmd.specs.declared.answer.Stop.TheVariants.{File, Input, Memory}
use Rattle.check_cmd.specs.Output.{CheckOutput}
use Rattle.replay_cmd.specs.Replays.{Replayed}

-- how the program is called
abbrev pub usage_text : List ℕ
usage_text =
    line (codes "route <config> [--consul <root>] [--entry <name>] [--peer <ip>]")
    ++ line (codes "check <config> [--consul <root>]")
    ++ line (codes "replay")
    ++ line (codes "rehearse <n>                       n is 0 to 100000")
    ++ line (codes "serve <name>=<ip>:<port> ... [--file <path>] [--consul <ip>:<port>/<root>]")
    ++ line (codes "      [--workers <n>] [--poll <seconds>] [--requests <n>] [--access <prefix>]")

-- the words are those of `route`, with this plan
abbrev pub IsRoute : List (List ℕ) → RoutePlan → Type 0
IsRoute words plan = IsCommand words (Route plan)

-- the words are those of `check`, with this plan
abbrev pub IsCheck : List (List ℕ) → CheckPlan → Type 0
IsCheck words plan = IsCommand words (Check plan)

-- the words are those of `replay`
abbrev pub IsReplay : List (List ℕ) → Type 0
IsReplay words = IsCommand words Replay

-- how many bytes a script may have
abbrev pub script_limit : ℕ
script_limit = 4194304

-- The answer of `replay` to what is left of the script's source. `old` and `new` are what the shop counted before and after.
pub data ReplayOutput (old new : ℕ) (input : Option (List ℕ)) (status : ℕ) (text : List ℕ) : Type 0 where
  long_script : IsOver input script_limit → status ≡ 8 → text ≡ line (codes "too long") → ReplayOutput old new input status text
  replayed : (bytes : List ℕ) → WasRead input script_limit bytes → Replayed old new bytes status text → ReplayOutput old new input status text

-- the answer to the words: the usage, or the command's. `old` and `new` are what the shop counted before and after.
pub data Output (words : List (List ℕ)) (old new : ℕ) (file input : Option (List ℕ)) (status : ℕ) (text : List ℕ) : Type 0 where
  usage : ((plan : RoutePlan) → ¬ (IsRoute words plan)) → ((plan : CheckPlan) → ¬ (IsCheck words plan)) → ¬ (IsReplay words) → status ≡ 2 → text ≡ usage_text
      → Output words old new file input status text
  route : (plan : RoutePlan) → IsRoute words plan → RouteOutput plan.entry plan.peer old new file input status text → Output words old new file input status text
  check : (plan : CheckPlan) → IsCheck words plan → CheckOutput old new file status text → Output words old new file input status text
  replay : IsReplay words → ReplayOutput old new input status text → Output words old new file input status text

-- why there is no answer: the file's source failed; or, under a file that is fine, the input's did; or the script's did
pub data Unread (words : List (List ℕ)) (file : Option (List ℕ)) (file_failed input_failed : Type 0) : Type 0 where
  file_unread : (plan : RoutePlan) → IsRoute words plan → file_failed → Unread words file file_failed input_failed
  input_unread : (plan : RoutePlan) → IsRoute words plan → (m : Merged) → IsConfigured file m → HaveOneServer m → input_failed
      → Unread words file file_failed input_failed
  check_unread : (plan : CheckPlan) → IsCheck words plan → file_failed → Unread words file file_failed input_failed
  script_unread : IsReplay words → input_failed → Unread words file file_failed input_failed

-- why `check` has no answer: the file's source failed
abbrev pub StopsCheck : Type 0 → Stop → Type 0
StopsCheck file_failed File = file_failed
StopsCheck file_failed Input = ⊥
StopsCheck file_failed Memory = ⊤

-- why `replay` has no answer: the script's source failed
abbrev pub StopsReplay : Type 0 → Stop → Type 0
StopsReplay input_failed File = ⊥
StopsReplay input_failed Input = input_failed
StopsReplay input_failed Memory = ⊤

-- the same, of a command's stop
abbrev pub StopsWords : List (List ℕ) → Option (List ℕ) → Type 0 → Type 0 → Stop → Type 0
StopsWords words file file_failed input_failed File = Unread words file file_failed input_failed
StopsWords words file file_failed input_failed Input = Unread words file file_failed input_failed
StopsWords words file file_failed input_failed Memory = ⊤

-- how a call ends: nothing is written, since a source failed or memory ran out; or the sink failed
-- after a proper prefix of the text; or the whole text is written, and its status returned
pub data Ends (old new : Option (List ℕ)) (unread sink_failed : Type 0) (gives : ℕ → List ℕ → Type 0) (result_ : ℕ) : Type 0 where
  not_read : result_ ≡ 5 → unread → Keeps old new → Ends old new unread sink_failed gives result_
  no_memory : result_ ≡ 7 → Keeps old new → Ends old new unread sink_failed gives result_
  cut : (status : ℕ) (text : List ℕ) → result_ ≡ 6 → sink_failed → gives status text → AppendsLess old new text
      → Ends old new unread sink_failed gives result_
  whole : (text : List ℕ) → gives result_ text → Appends old new text → Ends old new unread sink_failed gives result_
