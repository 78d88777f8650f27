-- What a command's configuration is, by what is left of its file's source.
use Rattle.std.specs.Prelude.{◌≡◌, ◌≢◌, ℕ, List, [], ◌∷◌, ◌++◌, codes, Option, Result, Ok, Err}
use Rattle.dyn_config.specs.declared.config.Config.{Config}
use Rattle.dyn_config.specs.declared.merged.Merged.{Merged}
use Rattle.file_provider.specs.Files.{IsFileConfig, WasRead, IsOver, file_limit}
use Rattle.file_provider.specs.declared.config.FileFault.{FileFault}
use Rattle.file_provider.specs.declared.config.FileFault.TheVariants as file
use Rattle.fault_text.specs.Files.{file_fault_text}
use Rattle.provider_merge.specs.Merging.{IsFileAlone}
use Rattle.config_input.specs.declared.fault.NoConfig.{NoConfig}
use Rattle.config_input.specs.declared.fault.NoConfig.TheVariants.{Failed, Refused, Memory}

-- a line of text
abbrev pub line : List ℕ → List ℕ
line text = text ++ 10 ∷ []

-- the source was read to its end, and what it gave is this configuration, alone and under qualified names
pub record IsConfigured (left : Option (List ℕ)) (m : Merged) : Type 0 where
  pub bytes : List ℕ
  pub was_read : WasRead left file_limit bytes
  pub config : Config
  pub means : IsFileConfig bytes (Ok config)
  pub alone : IsFileAlone config m

-- what a command answers where there is too much, or no configuration
pub data IsRefused (left : Option (List ℕ)) (status : ℕ) (text : List ℕ) : Type 0 where
  too_long : IsOver left file_limit → status ≡ 8 → text ≡ line (codes "too long") → IsRefused left status text
  no_config : (bytes : List ℕ) (fault : FileFault) → WasRead left file_limit bytes → IsFileConfig bytes (Err fault) → fault ≢ file.Memory
      → status ≡ 3 → text ≡ line (file_fault_text fault) → IsRefused left status text

-- the configuration, the source read to its end; what is answered in its place; the source failed; or memory ran out
abbrev pub IsConfigRead : (left : Option (List ℕ)) → (ended failed : Type 0) → Result Merged NoConfig → Type 0
IsConfigRead left ended failed (Ok m) = IsConfigured left m × ended
IsConfigRead left ended failed (Err Failed) = failed
IsConfigRead left ended failed (Err (Refused answer)) = IsRefused left answer.status answer.text.items
IsConfigRead left ended failed (Err Memory) = Unit {0}
