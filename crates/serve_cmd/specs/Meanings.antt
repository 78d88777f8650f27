-- What the first load is published as, and what is written of it.
use Rattle.std.specs.Prelude.{◌≡◌, ◌≢◌, ℕ, ◌+◌, List, [], ◌∷◌, ◌++◌, length, codes, Option, Some, None, Ok, Err}
use Rattle.dyn_config.specs.declared.config.Config.{Config}
use Rattle.dyn_config.specs.declared.merged.Merged.{Merged}
use Rattle.file_provider.specs.Files.{IsFileConfig}
use Rattle.file_provider.specs.declared.config.FileFault.{FileFault}
use Rattle.file_provider.specs.declared.config.FileFault.TheVariants as file
use Rattle.provider_merge.specs.Merging.{DeclaresNothing, IsFileAlone}
use Rattle.fault_text.specs.Files.{file_fault_text}
use Rattle.conversation.specs.Plans.{Plan}
use Rattle.generation.specs.Meaning.{plan_of}
use Rattle.generation.specs.Built.{IsBuilt, IsCounted}
use Rattle.generation.specs.declared.building.Built.TheVariants as built
use Rattle.generation.specs.declared.generation.Generation.{Generation}
use Rattle.serve_cmd.specs.declared.loading.Found.{Found}
use Rattle.serve_cmd.specs.declared.loading.Found.TheVariants.{NoFile, TooLong, Text}
use Rattle.serve_cmd.specs.Texts.{IsGenerationText}

-- no router, under the number 0
pub record IsEmpty (p : Plan) : Type 0 where
  pub number : p.number ≡ 0
  pub rows : p.rows ≡ []

-- the line of a fault of the file
abbrev pub fault_line : List ℕ → List ℕ
fault_line text = codes "fault file " ++ text ++ codes "\n"

-- what a configuration is published as, and what is written: nothing where it declares nothing; a fault where it is of a
-- kind that isn't served yet; else its generation, with the number 1, and that one's text. The shop counted `from` refusals
-- before, and `to` after.
pub data MeansConfig (from to : ℕ) (config : Config) (g : Option Generation) (text : List ℕ) : Type 0 where
  same : DeclaresNothing config → g ≡ None → text ≡ [] → MeansConfig from to config g text
  later : (m : Merged) → IsFileAlone config m → IsBuilt 1 m built.Later → g ≡ None → text ≡ fault_line (codes "config Later") → MeansConfig from to config g text
  changed : (m : Merged) (built_as : Generation) → IsFileAlone config m → IsBuilt 1 m (built.Generation built_as) → IsCounted from to (built.Generation built_as)
      → g ≡ Some built_as → IsGenerationText m built_as text → MeansConfig from to config g text

-- the same of a file's bytes: a fault where they are no configuration
pub data MeansBytes (from to : ℕ) (bytes : List ℕ) (g : Option Generation) (text : List ℕ) : Type 0 where
  faulty : (fault : FileFault) → fault ≢ file.Memory → IsFileConfig bytes (Err fault) → g ≡ None → text ≡ fault_line (file_fault_text fault)
      → MeansBytes from to bytes g text
  configured : (config : Config) → IsFileConfig bytes (Ok config) → MeansConfig from to config g text → MeansBytes from to bytes g text

-- without a file nothing is published and nothing written; a file that is too long is a fault
abbrev pub Means : (from to : ℕ) → Found → Option Generation → List ℕ → Type 0
Means from to NoFile g text = (g ≡ None) × (text ≡ [])
Means from to TooLong g text = (g ≡ None) × (text ≡ fault_line (codes "too long"))
Means from to (Text bytes) g text = MeansBytes from to bytes.items g text

-- what is published behind the empty configuration
abbrev pub plans_by : Option Generation → List Plan
plans_by None = []
plans_by (Some g) = plan_of g ∷ []

-- The load is published as these configurations, of which the first is empty, and written as this text. The shop counted
-- `from` refusals before, and `to` after.
pub record IsBegun (from to : ℕ) (found : Found) (text : List ℕ) (plans : List Plan) (published : ℕ) : Type 0 where
  pub generation : Option Generation
  pub means : Means from to found generation text
  pub first : Plan
  pub empty : IsEmpty first
  pub plans_are : plans ≡ first ∷ plans_by generation
  pub count : length plans ≡ published + 1
