-- What one load does to what is told of them, and when it may fail.
use Rattle.std.specs.Prelude.{◌≡◌, ℕ, ◌≤◌, List, [], ◌∷◌, ◌++◌, length, Option, Some, None}
use Rattle.px_base.specs.Bytes.{Rose}
use Rattle.publisher.specs.declared.files.Load.{Load}
use Rattle.publisher.specs.declared.files.LoadStep.{LoadStep}
use Rattle.publisher.specs.declared.files.LoadStep.TheVariants.{Done, TooLong, Failed, Memory}

-- how many bytes a file may have
abbrev pub file_limit : ℕ
file_limit = 1048576

-- what is told, with one more load
abbrev pub with_load : Option (List Load) → List ℕ → LoadStep → List ℕ → Option (List Load)
with_load None path answer bytes = None
with_load (Some loads) path answer bytes = Some (loads ++ record { path = path; answer = answer; bytes = bytes } ∷ [])

-- a load of this path gave these bytes, if it is done, and is told
abbrev pub LoadDid : Option (List Load) → List ℕ → LoadStep → List ℕ → Option (List Load) → Type 0
LoadDid old path Done bytes new = (length bytes ≤ file_limit) × (new ≡ with_load old path Done bytes)
LoadDid old path TooLong bytes new = (bytes ≡ []) × (new ≡ with_load old path TooLong [])
LoadDid old path Failed bytes new = (bytes ≡ []) × (new ≡ with_load old path Failed [])
LoadDid old path Memory bytes new = (bytes ≡ []) × (new ≡ old)

-- the count rises where the load failed, and nowhere else
abbrev pub LoadCause : ℕ → ℕ → LoadStep → Type 0
LoadCause before now Done = now ≡ before
LoadCause before now TooLong = now ≡ before
LoadCause before now Failed = (before ≤ now) × Rose before now
LoadCause before now Memory = now ≡ before
