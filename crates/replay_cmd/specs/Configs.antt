-- The configuration of a script.
use Rattle.std.specs.Prelude.{ℕ, List, Ok, Err}
use Rattle.dyn_config.specs.declared.config.Config.{Config}
use Rattle.dyn_config.specs.declared.merged.Merged.{Merged}
use Rattle.file_provider.specs.Files.{IsFileConfig}
use Rattle.file_provider.specs.declared.config.FileFault.{FileFault}
use Rattle.file_provider.specs.declared.config.FileFault.TheVariants as file
use Rattle.provider_merge.specs.Merging.{DeclaresNothing, IsFileAlone}
use Rattle.router_table.specs.Rows.{Refuses}
use Rattle.service_graph.specs.Only.{IsFirstForm}
use Rattle.generation.specs.Built.{IsOf}
use Rattle.generation.specs.declared.generation.Generation.{Generation}
use Rattle.replay_cmd.specs.declared.why.Failure.{Failure}
use Rattle.replay_cmd.specs.declared.why.Failure.TheVariants as failure
use Rattle.replay_cmd.specs.declared.why.Why.{Why}
use Rattle.replay_cmd.specs.declared.why.Why.TheVariants as why

-- the text declares nothing
abbrev pub DeclaresNone : List ℕ → Type 0
DeclaresNone text = (config : Config) × IsFileConfig text (Ok config) × DeclaresNothing config

-- The text is this configuration under this number. The shop counted `from` refusals before it was built, and `to` after.
pub record IsGenerationOf (from to number : ℕ) (text : List ℕ) (g : Generation) : Type 0 where
  pub config : Config
  pub is_config : IsFileConfig text (Ok config)
  pub some : ¬ (DeclaresNothing config)
  pub merged : Merged
  pub is_merged : IsFileAlone config merged
  pub form : IsFirstForm merged
  pub is_of : IsOf number merged g
  -- no more routers are disabled for a pattern that is too big than it counted in between
  pub refused : Refuses from to g.table.rows

-- it has a fault
abbrev pub IsFault : FileFault → Type 0
IsFault (file.Config fault) = Unit {0}
IsFault file.NotToml = Unit {0}
IsFault file.Memory = ⊥

-- why the text is no configuration that is served: a fault, or its kind
abbrev pub IsUnserved : List ℕ → Why → Type 0
IsUnserved text why.Config = (fault : FileFault) × IsFault fault × IsFileConfig text (Err fault)
IsUnserved text why.Later = (config : Config) × (m : Merged) × IsFileConfig text (Ok config) × IsFileAlone config m × (¬ (IsFirstForm m))
IsUnserved text _ = ⊥

abbrev pub FailsRead : List ℕ → Failure → Type 0
FailsRead text (failure.Refused w) = IsUnserved text w
FailsRead text failure.Memory = Unit {0}
