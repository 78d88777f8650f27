-- What contracts see of a source and of a sink in memory.
use Rattle.std.specs.Prelude.{ℕ, ◌==◌, Bool, List}
use Rattle.std.specs.List.{list_any}

-- a source in memory: the bytes that are left, the numbers of the reads that fail, the reads and the
-- faults so far, and whether the last read answered `End`
pub record Supply : Type 0 where
  pub left : List ℕ
  pub failing : List ℕ
  pub calls : ℕ
  pub faults : ℕ
  pub ended : Bool

-- a sink in memory: the bytes that it holds, the numbers of the writes that fail, and the writes and
-- the faults so far
pub record Store : Type 0 where
  pub held : List ℕ
  pub failing : List ℕ
  pub calls : ℕ
  pub faults : ℕ

-- whether the call with this number is listed
abbrev pub is_listed : List ℕ → ℕ → Bool
is_listed failing call = list_any (λ k. k == call) failing
