-- Why there is no answer.
use Rattle.std.proofs.Common.{◌≡◌, ℕ, List, Option, Result, Ok, Err, IfErr, sym, subst}
use Rattle.dyn_config.specs.declared.config.Config.{Config}
use Rattle.dyn_config.specs.declared.merged.Merged.{Merged}
use Rattle.file_provider.specs.Files.{IsFileConfig, WasRead, file_limit}
use Rattle.provider_merge.specs.Merging.{IsFileAlone}
use Rattle.route_cmd.specs.Output.{Stops, StopsInput}
use Rattle.route_cmd.specs.Services.{HaveOneServer}
use Rattle.route_cmd.specs.declared.answer.Stop.{Stop}
use Rattle.route_cmd.specs.declared.answer.Stop.TheVariants.{File, Input, Memory}

-- the input can have failed, under a configuration that is followed
pub stops_form : {A : Type 0} (r : Result A Stop) (m : Merged) (input_failed : Type 0) → HaveOneServer m → IfErr r (StopsInput input_failed)
    → IfErr r (StopsInput (HaveOneServer m × input_failed))
stops_form (Ok a) m input_failed form h = tt
stops_form (Err File) m input_failed form h = absurd h
stops_form (Err Input) m input_failed form h = (form, h)
stops_form (Err Memory) m input_failed form h = tt

-- under a file that was read only the input can have failed
pub stops_config : {A : Type 0} (r : Result A Stop) (config : Config) (m : Merged) (input_failed : Type 0) → IsFileAlone config m
    → IfErr r (StopsInput (HaveOneServer m × input_failed))
    → IfErr r (λ stop. (file : Option (List ℕ)) (bytes : List ℕ) → WasRead file file_limit bytes → IsFileConfig bytes (Ok config) → Stops file ⊥ input_failed stop)
stops_config (Ok a) config m input_failed alone h = tt
stops_config (Err File) config m input_failed alone h = absurd h
stops_config (Err Input) config m input_failed alone h =
    λ file bytes was means. (m, record { bytes = bytes; was_read = was; config = config; means = means; alone = alone }, h.0, h.1)
stops_config (Err Memory) config m input_failed alone h = λ file bytes was means. tt

stops_wider : (file : Option (List ℕ)) (file_failed input_failed : Type 0) (s : Stop) → Stops file ⊥ input_failed s → Stops file file_failed input_failed s
stops_wider file file_failed input_failed File h = absurd h
stops_wider file file_failed input_failed Input h = h
stops_wider file file_failed input_failed Memory h = tt

-- the same of the file that was read
pub stops_read : {A : Type 0} (r : Result A Stop) (config : Config) (file : Option (List ℕ)) (bytes : List ℕ) (file_failed input_failed : Type 0) → WasRead file file_limit bytes → IsFileConfig bytes (Ok config)
    → IfErr r (λ stop. (f : Option (List ℕ)) (b : List ℕ) → WasRead f file_limit b → IsFileConfig b (Ok config) → Stops f ⊥ input_failed stop)
    → IfErr r (Stops file file_failed input_failed)
stops_read (Ok a) config file bytes file_failed input_failed was means h = tt
stops_read (Err s) config file bytes file_failed input_failed was means h = stops_wider file file_failed input_failed s (h file bytes was means)

-- that memory ran out says nothing of the sources
pub stops_memory : {A : Type 0} (r : Result A Stop) (file : Option (List ℕ)) (file_failed input_failed : Type 0) → IfErr r (λ s. s ≡ Memory) → IfErr r (Stops file file_failed input_failed)
stops_memory (Ok a) file file_failed input_failed h = tt
stops_memory (Err s) file file_failed input_failed h = let P : Stop → Type 0 = λ x. Stops file file_failed input_failed x in subst P (sym h) tt
