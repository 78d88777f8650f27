-- What the first load of the configuration file found.
use Rattle.std.specs.Prelude.{◌≡◌, ℕ, List, [], Option, Some, None}
use Rattle.publisher.specs.declared.files.Load.{Load}
use Rattle.publisher.specs.declared.files.LoadStep.TheVariants as step
use Rattle.publisher.specs.Loads.{LoadDid}
use Rattle.serve_cmd.specs.declared.loading.Found.{Found}
use Rattle.serve_cmd.specs.declared.loading.Found.TheVariants.{NoFile, TooLong, Text}

-- a load of this file, which tells of itself, gave this
abbrev pub IsLoadOf : List ℕ → Option (List Load) → Option (List Load) → Found → Type 0
IsLoadOf path old new NoFile = ⊥
IsLoadOf path old new TooLong = LoadDid old path step.TooLong [] new
IsLoadOf path old new (Text bytes) = LoadDid old path step.Done bytes.items new

-- the file that is named was loaded, and nothing where none is
abbrev pub IsFirstLoad : Option (List ℕ) → Option (List Load) → Option (List Load) → Found → Type 0
IsFirstLoad None old new found = (new ≡ old) × (found ≡ NoFile)
IsFirstLoad (Some path) old new found = IsLoadOf path old new found
