-- What contracts see of files in memory.
use Rattle.std.specs.Prelude.{◌≡◌, ℕ, ◌-◌, min, List, [], ◌∷◌, ◌++◌, length, slice_get, unwrap_or, if◌then◌else◌}
use Rattle.std.specs.Prelude.{nat_lt}
use Rattle.px_base.specs.Bytes.{one_more}
use Rattle.px_base.specs.Memory.{is_listed}
use Rattle.publisher.specs.declared.files.Load.{Load}
use Rattle.publisher.specs.declared.files.LoadStep.{LoadStep}
use Rattle.publisher.specs.declared.files.LoadStep.TheVariants.{Done, TooLong, Failed, Memory}
use Rattle.publisher.specs.Loads.{file_limit}

-- the texts that are given one after another, the numbers of the loads that fail, the loads and the faults so far, and
-- what is told of the loads
pub record Shelf : Type 0 where
  pub texts : List (List ℕ)
  pub failing : List ℕ
  pub calls : ℕ
  pub faults : ℕ
  pub loads : List Load

-- the text of the load with this number, the first having 1: the last text stands for all further loads
abbrev pub text_of : List (List ℕ) → ℕ → List ℕ
text_of texts number = unwrap_or (slice_get texts (min (number - 1) (length texts - 1))) []

-- what the load with the number of calls so far answers, if memory allows
abbrev pub answer_of : Shelf → LoadStep
answer_of s = if is_listed s.failing s.calls then Failed else if nat_lt file_limit (length (text_of s.texts s.calls)) then TooLong else Done

-- the bytes that an answer gives
abbrev pub bytes_by : LoadStep → List ℕ → List ℕ
bytes_by Done text = text
bytes_by TooLong text = []
bytes_by Failed text = []
bytes_by Memory text = []

-- the faults after an answer
abbrev pub faults_after : LoadStep → ℕ → ℕ
faults_after Done faults = faults
faults_after TooLong faults = faults
faults_after Failed faults = one_more faults
faults_after Memory faults = faults

-- the same with this load told
abbrev pub told : Shelf → List ℕ → Shelf
told s path =
    record s {
      faults = faults_after (answer_of s) s.faults;
      loads = s.loads ++ record { path = path; answer = answer_of s; bytes = bytes_by (answer_of s) (text_of s.texts s.calls) } ∷ [];
    }

-- the same after one more call
abbrev pub called : Shelf → Shelf
called s = record s { calls = one_more s.calls }

-- a load that found memory answers as its number says, and is told
pub record Gives (s : Shelf) (path : List ℕ) (answer : LoadStep) (bytes : List ℕ) (new : Shelf) : Type 0 where
  pub answer_is : answer ≡ answer_of s
  pub bytes_are : bytes ≡ bytes_by (answer_of s) (text_of s.texts s.calls)
  pub new_is : new ≡ told s path

-- a load of this path, or one that found no memory
abbrev pub Loads : Shelf → List ℕ → LoadStep → List ℕ → Shelf → Type 0
Loads s path Done bytes new = Gives (called s) path Done bytes new
Loads s path TooLong bytes new = Gives (called s) path TooLong bytes new
Loads s path Failed bytes new = Gives (called s) path Failed bytes new
Loads s path Memory bytes new = (bytes ≡ []) × (new ≡ called s)
