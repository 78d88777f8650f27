-- What `check` answers: its status and its text, by what is left of its file's source.
use Rattle.std.specs.Prelude.{◌≡◌, ℕ, ◌==◌, ◌&&◌, Bool, if◌then◌else◌, List, length, Option, ⊤}
use Rattle.dyn_config.specs.declared.merged.Merged.{Merged}
use Rattle.check_cmd.specs.declared.stop.CheckStop.{CheckStop}
use Rattle.check_cmd.specs.declared.stop.CheckStop.TheVariants.{Unread, Memory}
use Rattle.config_input.specs.Inputs.{IsConfigured, IsRefused}
use Rattle.runtime_config.specs.Runtime.{IsRuntime, IsCounted}
use Rattle.runtime_config.specs.declared.config.RuntimeConfig.{RuntimeConfig}
use Rattle.generation_text.specs.Generation.{generation_text}

abbrev pub declares_nothing : Merged → Bool
declares_nothing m = length m.routers == 0 && length m.services == 0 && length m.middlewares == 0

-- 1, or 0 for a configuration that declares nothing
abbrev pub number_of : Merged → ℕ
number_of m = if declares_nothing m then 0 else 1

-- The text is that of the configuration as it runs. `old` and `new` are what the shop counted before and after.
pub record IsChecked (old new : ℕ) (m : Merged) (text : List ℕ) : Type 0 where
  pub runtime : RuntimeConfig
  pub built : IsRuntime m runtime
  pub counted : IsCounted old new runtime
  pub text_is : text ≡ generation_text (number_of m) runtime

-- The answer by what is left of the file's source: a refusal, or how the configuration would be served.
pub data CheckOutput (old new : ℕ) (left : Option (List ℕ)) (status : ℕ) (text : List ℕ) : Type 0 where
  refused : IsRefused left status text → CheckOutput old new left status text
  checked : (m : Merged) → IsConfigured left m → IsChecked old new m text → status ≡ 0 → CheckOutput old new left status text

-- why there is no answer: the file's source failed, or memory ran out
abbrev pub Stops : Type 0 → CheckStop → Type 0
Stops failed Unread = failed
Stops failed Memory = ⊤
