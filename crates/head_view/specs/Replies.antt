-- What a scan of a buffer for a reply answers, over the grammar of httparse.
use Rattle.std.specs.Prelude.{ℕ, ◌≤◌, List, length, ⊤}
use Rattle.httparse.specs.Grammar.{ResponseHead, ReadsResponse}
use Rattle.httparse.specs.Spans.{IsResponseAt, IsResponseWithin}
use Rattle.httparse.specs.declared.spans.HeaderSpan.{HeaderSpan}
use Rattle.httparse.specs.declared.spans.ResponseSpans.{ResponseSpans}
use Rattle.head_view.specs.declared.reply.ReplySpans.{ReplySpans}
use Rattle.head_view.specs.declared.reply.ReplyScan.{ReplyScan}
use Rattle.head_view.specs.declared.reply.ReplyScan.TheVariants.{Whole, Part, Bad, TooMany}

-- a prefix of the buffer is a head of at most room fields
abbrev pub HasHead : ℕ → List ℕ → Type 0
HasHead room buf = (h : ResponseHead) × (rest : List ℕ) × ReadsResponse buf h rest × (length h.fields ≤ room)

-- the same spans, as httparse names them
abbrev pub spans_of : ReplySpans → ResponseSpans
spans_of s = record { version = s.version; code = s.status; reason = s.reason; headers = s.lines; len = s.len }

-- each span lies in the head, and the head in the buffer
abbrev pub IsHeadWithin : List ℕ → List HeaderSpan → ReplySpans → Type 0
IsHeadWithin buf lines s = IsResponseWithin buf lines (spans_of s)

-- the head stands at the front of the buffer, and the spans cover its parts
abbrev pub IsHeadAt : List ℕ → List HeaderSpan → ReplySpans → ResponseHead → Type 0
IsHeadAt buf lines s h = IsResponseAt buf lines (spans_of s) h

-- the spans are those of a head of at most room fields at the front of the buffer
abbrev pub AreHeadSpans : ℕ → List ℕ → List HeaderSpan → ReplySpans → Type 0
AreHeadSpans room buf lines s = (h : ResponseHead) × IsHeadAt buf lines s h × (length h.fields ≤ room)

-- P of the spans, if the scan is whole
abbrev pub IfWhole : ReplyScan → (ReplySpans → Type 0) → Type 0
IfWhole (Whole s) P = P s
IfWhole _ P = ⊤

-- the scan is whole
abbrev pub IsWhole : ReplyScan → Type 0
IsWhole (Whole s) = ⊤
IsWhole _ = ⊥

-- the scan is whole, and P holds of the spans
abbrev pub IsWholeAnd : ReplyScan → (ReplySpans → Type 0) → Type 0
IsWholeAnd (Whole s) P = P s
IsWholeAnd _ P = ⊥

-- each head of at most room fields at the front is the one that the scan found
abbrev pub FindsHead : ℕ → List ℕ → List HeaderSpan → ReplyScan → Type 0
FindsHead room buf lines scan =
    (h : ResponseHead) (rest : List ℕ) → ReadsResponse buf h rest → length h.fields ≤ room
    → IsWholeAnd scan (λ s. IsHeadAt buf lines s h)

-- P, if the scan gave this answer
abbrev pub OnPart : ReplyScan → Type 0 → Type 0
OnPart Part P = P
OnPart _ P = ⊤

abbrev pub OnBad : ReplyScan → Type 0 → Type 0
OnBad Bad P = P
OnBad _ P = ⊤

abbrev pub OnTooMany : ReplyScan → Type 0 → Type 0
OnTooMany TooMany P = P
OnTooMany _ P = ⊤
