-- What one read and one write do to the bytes that are left and held, and when they may fail.
use Rattle.std.specs.Prelude.{ℕ, ◌+◌, ◌-◌, ◌^◌, ◌<◌, ◌≤◌, ◌==◌, min, Bool, true, false, if◌then◌else◌, List, length, take, slice_index, Option}
use Rattle.std.specs.Io.KnownBytes.{Consumes, Keeps, Appends, IsAtEnd}
use Rattle.px_base.specs.declared.step.ReadStep.{ReadStep}
use Rattle.px_base.specs.declared.step.ReadStep.TheVariants as read
use Rattle.px_base.specs.declared.step.WriteStep.{WriteStep}
use Rattle.px_base.specs.declared.step.WriteStep.TheVariants as write

-- a count after one more, which stands still at 2 ^ 64 - 1
abbrev pub one_more : ℕ → ℕ
one_more count = min (count + 1) (2 ^ 64 - 1)

-- a count rose, or stands at its end
abbrev pub Rose : ℕ → ℕ → Type 0
Rose before now = one_more before ≤ now

-- a read gave the next bytes, at least one; or none was left; or it failed and gave nothing
abbrev pub ReadGives : Option (List ℕ) → Option (List ℕ) → ReadStep → List ℕ → Type 0
ReadGives old new (read.Got n) room = (1 ≤ n) × (n ≤ length room) × Consumes old new (take n room)
ReadGives old new read.End room = IsAtEnd old × Keeps old new
ReadGives old new read.Failed room = Keeps old new

-- the count doesn't fall, and has risen where the read failed
abbrev pub ReadCause : ℕ → ℕ → ReadStep → Type 0
ReadCause before now (read.Got n) = before ≤ now
ReadCause before now read.End = before ≤ now
ReadCause before now read.Failed = (before ≤ now) × Rose before now

-- whether the read answered `End`
abbrev pub is_end : ReadStep → Bool
is_end (read.Got n) = false
is_end read.End = true
is_end read.Failed = false

-- whether the read failed
abbrev pub is_failed_read : ReadStep → Bool
is_failed_read (read.Got n) = false
is_failed_read read.End = false
is_failed_read read.Failed = true

-- a write took the first bytes of the piece, at least one, or failed and took nothing
abbrev pub WriteTakes : Option (List ℕ) → Option (List ℕ) → WriteStep → List ℕ → Type 0
WriteTakes old new (write.Took n) piece = (1 ≤ n) × (n ≤ length piece) × Appends old new (take n piece)
WriteTakes old new write.Failed piece = Keeps old new

-- the count doesn't fall, and has risen where the write failed
abbrev pub WriteCause : ℕ → ℕ → WriteStep → Type 0
WriteCause before now (write.Took n) = before ≤ now
WriteCause before now write.Failed = (before ≤ now) × Rose before now

-- whether the write failed
abbrev pub is_failed_write : WriteStep → Bool
is_failed_write (write.Took n) = false
is_failed_write write.Failed = true

-- what is held grew by a part of the text that is not all of it
abbrev pub AppendsLess : Option (List ℕ) → Option (List ℕ) → List ℕ → Type 0
AppendsLess old new text = (n : ℕ) × (n < length text) × Appends old new (take n text)

-- the text without one dot at its end
abbrev pub without_dot : List ℕ → List ℕ
without_dot text = if slice_index text (length text - 1) == 46 then take (length text - 1) text else text
