-- What a scan of a buffer answers, over the grammar of httparse.
use Rattle.std.specs.Prelude.{ℕ, ◌≤◌, List, length, ⊤}
use Rattle.httparse.specs.Grammar.{RequestHead, ReadsRequest}
use Rattle.httparse.specs.Spans.{IsRequestAt, IsRequestWithin}
use Rattle.httparse.specs.declared.spans.HeaderSpan.{HeaderSpan}
use Rattle.httparse.specs.declared.spans.RequestSpans.{RequestSpans}
use Rattle.head_view.specs.declared.scan.HeadSpans.{HeadSpans}
use Rattle.head_view.specs.declared.scan.Scan.{Scan}
use Rattle.head_view.specs.declared.scan.Scan.TheVariants.{Whole, Part, Bad, TooMany}

-- a prefix of the buffer is a head of at most room fields
abbrev pub HasHead : ℕ → List ℕ → Type 0
HasHead room buf = (h : RequestHead) × (rest : List ℕ) × ReadsRequest buf h rest × (length h.fields ≤ room)

-- the same spans, as httparse names them
abbrev pub spans_of : HeadSpans → RequestSpans
spans_of s = record { method = s.method; path = s.target; version = s.version; headers = s.lines; len = s.len }

-- each span lies in the head, and the head in the buffer
abbrev pub IsHeadWithin : List ℕ → List HeaderSpan → HeadSpans → Type 0
IsHeadWithin buf lines s = IsRequestWithin buf lines (spans_of s)

-- the head stands at the front of the buffer, and the spans cover its parts
abbrev pub IsHeadAt : List ℕ → List HeaderSpan → HeadSpans → RequestHead → Type 0
IsHeadAt buf lines s h = IsRequestAt buf lines (spans_of s) h

-- the spans are those of a head of at most room fields at the front of the buffer
abbrev pub AreHeadSpans : ℕ → List ℕ → List HeaderSpan → HeadSpans → Type 0
AreHeadSpans room buf lines s = (h : RequestHead) × IsHeadAt buf lines s h × (length h.fields ≤ room)

-- P of the spans, if the scan is whole
abbrev pub IfWhole : Scan → (HeadSpans → Type 0) → Type 0
IfWhole (Whole s) P = P s
IfWhole _ P = ⊤

-- the scan is whole
abbrev pub IsWhole : Scan → Type 0
IsWhole (Whole s) = ⊤
IsWhole _ = ⊥

-- the scan is whole, and P holds of the spans
abbrev pub IsWholeAnd : Scan → (HeadSpans → Type 0) → Type 0
IsWholeAnd (Whole s) P = P s
IsWholeAnd _ P = ⊥

-- each head of at most room fields at the front is the one that the scan found
abbrev pub FindsHead : ℕ → List ℕ → List HeaderSpan → Scan → Type 0
FindsHead room buf lines scan =
    (h : RequestHead) (rest : List ℕ) → ReadsRequest buf h rest → length h.fields ≤ room
    → IsWholeAnd scan (λ s. IsHeadAt buf lines s h)

-- P, if the scan gave this answer
abbrev pub OnPart : Scan → Type 0 → Type 0
OnPart Part P = P
OnPart _ P = ⊤

abbrev pub OnBad : Scan → Type 0 → Type 0
OnBad Bad P = P
OnBad _ P = ⊤

abbrev pub OnTooMany : Scan → Type 0 → Type 0
OnTooMany TooMany P = P
OnTooMany _ P = ⊤
