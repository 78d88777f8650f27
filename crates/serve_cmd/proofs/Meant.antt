-- What a reading means.
use Rattle.std.proofs.Common.{◌≡◌, ◌≢◌, ℕ, List, Option, Some, None, Result, Ok, Err, IfOk, OnOk, IfSome, subst}
use Rattle.std.specs.declared.alloc.AllocError.{AllocError}
use Rattle.std.specs.Prelude.{codes}
use Rattle.dyn_config.specs.declared.config.Config.{Config}
use Rattle.dyn_config.specs.declared.merged.Merged.{Merged}
use Rattle.file_provider.specs.Files.{IsFileConfig}
use Rattle.file_provider.specs.declared.config.FileFault.{FileFault}
use Rattle.file_provider.specs.declared.config.FileFault.TheVariants as file
use Rattle.provider_merge.specs.Merging.{IsFileAlone}
use Rattle.fault_text.specs.Files.{file_fault_text}
use Rattle.generation.specs.Meaning.{plan_of}
use Rattle.generation.specs.Built.{IsBuilt, IsCounted}
use Rattle.generation.specs.declared.building.Built.{Built}
use Rattle.generation.specs.declared.building.Built.TheVariants as built
use Rattle.generation.specs.declared.generation.Generation.{Generation}
use Rattle.serve_cmd.specs.declared.reading.Reading.{Reading}
use Rattle.serve_cmd.specs.Meanings.{MeansConfig, MeansBytes, fault_line, configured, faulty, later}

-- a configuration's reading is its bytes' reading
pub bytes_meant : (from to : ℕ) (bytes : List ℕ) (config : Config) (r : Result Reading AllocError) → IsFileConfig bytes (Ok config)
    → IfOk r (λ x. MeansConfig from to config x.generation x.text.items) → IfOk r (λ x. MeansBytes from to bytes x.generation x.text.items)
bytes_meant from to bytes config (Ok x) is h = configured config is h
bytes_meant from to bytes config (Err e) is h = tt

-- a fault's reading is its bytes' reading
pub fault_meant : (from to : ℕ) (bytes : List ℕ) (fault : FileFault) (r : Result Reading AllocError) → OnOk r (fault ≢ file.Memory) → IsFileConfig bytes (Err fault)
    → IfOk r (λ x. x.generation ≡ None) → IfOk r (λ x. x.text.items ≡ fault_line (file_fault_text fault)) → IfOk r (λ x. MeansBytes from to bytes x.generation x.text.items)
fault_meant from to bytes fault (Ok x) no_want is g t = faulty fault no_want is g t
fault_meant from to bytes fault (Err e) no_want is g t = tt

-- nothing that is published has the number 1
pub none_numbered : (r : Result Reading AllocError) → IfOk r (λ x. x.generation ≡ None) → IfOk r (λ x. IfSome x.generation (λ g. (plan_of g).number ≡ 1))
none_numbered (Ok x) g = rw g tt
none_numbered (Err e) g = tt

-- a configuration that isn't served yet
pub later_meant : (from to : ℕ) (config : Config) (m : Merged) (r : Result Reading AllocError) → IsFileAlone config m → IsBuilt 1 m built.Later
    → IfOk r (λ x. x.generation ≡ None) → IfOk r (λ x. x.text.items ≡ fault_line (codes "config Later")) → IfOk r (λ x. MeansConfig from to config x.generation x.text.items)
later_meant from to config m (Ok x) alone is g t = later m alone is g t
later_meant from to config m (Err e) alone is g t = tt

-- what a configuration was built to, by its variant
pub built_later : (m : Merged) (b : Built) → b ≡ built.Later → IsBuilt 1 m b → IsBuilt 1 m built.Later
built_later m b e is = subst (λ (x : Built). IsBuilt 1 m x) e is

pub built_generation : (m : Merged) (b : Built) (g : Generation) → b ≡ built.Generation g → IsBuilt 1 m b → IsBuilt 1 m (built.Generation g)
built_generation m b g e is = subst (λ (x : Built). IsBuilt 1 m x) e is

pub counted_generation : (from to : ℕ) (b : Built) (g : Generation) → b ≡ built.Generation g → IsCounted from to b → IsCounted from to (built.Generation g)
counted_generation from to b g e is = subst (λ (x : Built). IsCounted from to x) e is
