-- Lines that are spelled one behind the other, and the spans that cover them.
use Rattle.std.proofs.Common.{◌≡◌, ℕ, ◌+◌, ◌-◌, ◌<◌, ◌≤◌, List, [], ◌∷◌, ◌++◌, length, take, drop, map, codes, refl, sym, ap, ◌∙◌, subst, append_assoc, length-append, arith, Result, Ok, Err}
use Rattle.std.specs.Result.{OnErr}
use Rattle.std.specs.List.{slice_range, flat_map}
use Rattle.std.proofs.lemmas.List.{append-nil, map-append, take_at, drop_at, drop-append-le, take-append-le, length-drop, length-take, take-take}
use Rattle.std.proofs.lemmas.List.Concat.{flat_map-append}
use Rattle.httparse.proofs.RunLemmas.{drop_split, length-slice_range}
use Rattle.std.proofs.lemmas.List.Elements.{All-head, All-tail, All-push, All-weaker}
use Rattle.httparse.specs.declared.spans.Span.{Span}
use Rattle.httparse.specs.declared.spans.HeaderSpan.{HeaderSpan}
use Rattle.httparse.specs.Spans.{span_bytes, header_bytes, IsWithin, IsHeaderWithin}
use Rattle.head_view.specs.Lines.{Line as Field, AreWithin, lines_at}
use Rattle.http_wire.specs.Lines.{crlf, field_text, line_text, fields_text, AreSpelled, Keeps, span_at}

-- a text that was added to begins with what it was
pub keeps : (old more new : List ℕ) → new ≡ old ++ more → Keeps old new
keeps old more new e = ap (take (length old)) e ∙ take_at old more (length old) refl

pub keeps_through : (a b c : List ℕ) → Keeps a b → Keeps b c → Keeps a c
keeps_through a b c ab bc =
    let long : length a ≤ length b = omega (arith, length-take (length a) b, ap length ab) in
    sym (take-take (length a) (length b) c long) ∙ ap (take (length a)) bc ∙ ab

-- what holds in any case holds where memory ran out
pub when_err : {T E P : Type 0} (r : Result T E) → P → OnErr r P
when_err (Ok x) p = tt
when_err (Err e) p = p

-- a span within a text covers the same bytes where more follows
same_bytes : (text more : List ℕ) (s : Span) → IsWithin (length text) s → span_bytes (text ++ more) s ≡ span_bytes text s
same_bytes text more s within =
    let from : drop s.start (text ++ more) ≡ drop s.start text ++ more = drop-append-le s.start text more (omega (arith, within.0, within.1)) in
    let fits : s.end - s.start ≤ length (drop s.start text) = omega (arith, within.0, within.1, length-drop s.start text) in
    ap (take (s.end - s.start)) from ∙ take-append-le (s.end - s.start) (drop s.start text) more fits

pub same_field : (text more : List ℕ) (h : HeaderSpan) → IsHeaderWithin (length text) h → header_bytes (text ++ more) h ≡ header_bytes text h
same_field text more h within =
    let name : span_bytes (text ++ more) h.name ≡ span_bytes text h.name = same_bytes text more h.name within.0 in
    let value : span_bytes (text ++ more) h.value ≡ span_bytes text h.value = same_bytes text more h.value within.1 in
    ap (λ (n : List ℕ). (n, span_bytes (text ++ more) h.value)) name ∙ ap (λ (v : List ℕ). (span_bytes text h.name, v)) value

same_lines : (text more : List ℕ) (spans : List HeaderSpan) → AreWithin text spans → lines_at (text ++ more) spans ≡ lines_at text spans
same_lines text more [] within = refl
same_lines text more (h ∷ spans) within =
    let first : header_bytes (text ++ more) h ≡ header_bytes text h = same_field text more h (All-head (IsHeaderWithin (length text)) h spans within) in
    let others : lines_at (text ++ more) spans ≡ lines_at text spans = same_lines text more spans (All-tail (IsHeaderWithin (length text)) h spans within) in
    ap (λ (f : Field). f ∷ lines_at (text ++ more) spans) first ∙ ap (λ (fs : List Field). header_bytes text h ∷ fs) others

-- what stands at a place, of a given length
at_place : (front mid back : List ℕ) (from to : ℕ) → from ≡ length front → to ≡ length front + length mid
    → slice_range (front ++ mid ++ back) from to ≡ mid
at_place front mid back from to f t =
    let cut : drop from (front ++ mid ++ back) ≡ mid ++ back = ap (drop from) (append_assoc front mid back) ∙ drop_at front (mid ++ back) from (sym f) in
    ap (take (to - from)) cut ∙ take_at mid back (to - from) (omega (arith, f, t))

-- a line from its name on
from_name : (name value : List ℕ) → field_text name value ≡ name ++ (codes ": " ++ (value ++ crlf))
from_name name value = append_assoc (name ++ codes ": ") value crlf ∙ append_assoc name (codes ": ") (value ++ crlf)

pub name_there : (text name value : List ℕ) → span_bytes (text ++ field_text name value) (span_at (length text) (length name) (length value)).name ≡ name
name_there text name value =
    let rest : List ℕ = codes ": " ++ (value ++ crlf) in
    let shape : text ++ field_text name value ≡ text ++ name ++ rest = ap (λ (x : List ℕ). text ++ x) (from_name name value) ∙ sym (append_assoc text name rest) in
    ap (λ (x : List ℕ). slice_range x (length text) (length text + length name)) shape
    ∙ at_place text name rest (length text) (length text + length name) refl refl

pub value_there : (text name value : List ℕ) → span_bytes (text ++ field_text name value) (span_at (length text) (length name) (length value)).value ≡ value
value_there text name value =
    let front : List ℕ = text ++ (name ++ codes ": ") in
    let n : length front ≡ length text + length name + 2 = omega (arith, length-append text (name ++ codes ": "), length-append name (codes ": ")) in
    let shape : text ++ field_text name value ≡ front ++ value ++ crlf =
    sym (append_assoc text (name ++ codes ": " ++ value) crlf) ∙ ap (λ (x : List ℕ). x ++ crlf) (sym (append_assoc text (name ++ codes ": ") value)) in
    ap (λ (x : List ℕ). slice_range x (length text + length name + 2) (length text + length name + 2 + length value)) shape
    ∙ at_place front value crlf (length text + length name + 2) (length text + length name + 2 + length value) (sym n) (ap (λ (x : ℕ). x + length value) (sym n))

pub field_length : (name value : List ℕ) → length (field_text name value) ≡ length name + 2 + length value + 2
field_length name value =
    omega (arith, length-append (name ++ codes ": " ++ value) crlf, length-append (name ++ codes ": ") value, length-append name (codes ": "))

pub more_room : (text more : List ℕ) (h : HeaderSpan) → IsHeaderWithin (length text) h → IsHeaderWithin (length (text ++ more)) h
more_room text more h within =
    let n : length (text ++ more) ≡ length text + length more = length-append text more in
    ((within.0.0, omega (arith, within.0.1, n)), (within.1.0, omega (arith, within.1.1, n)))

pub there_within : (text name value : List ℕ) → IsHeaderWithin (length (text ++ field_text name value)) (span_at (length text) (length name) (length value))
there_within text name value =
    let n : length (text ++ field_text name value) ≡ length text + length (field_text name value) = length-append text (field_text name value) in
    let m : length (field_text name value) ≡ length name + 2 + length value + 2 = field_length name value in
    ((omega arith, omega (arith, n, m)), (omega arith, omega (arith, n, m)))

lines_more : (text : List ℕ) (spans : List HeaderSpan) (name value : List ℕ) → AreWithin text spans
    → lines_at (text ++ field_text name value) (spans ++ span_at (length text) (length name) (length value) ∷ []) ≡ lines_at text spans ++ (name, value) ∷ []
lines_more text spans name value within =
    let more : List ℕ = field_text name value in
    let new : HeaderSpan = span_at (length text) (length name) (length value) in
    let field : header_bytes (text ++ more) new ≡ (name, value) =
    ap (λ (n : List ℕ). (n, span_bytes (text ++ more) new.value)) (name_there text name value) ∙ ap (λ (v : List ℕ). (name, v)) (value_there text name value) in
    map-append (header_bytes (text ++ more)) spans (new ∷ [])
    ∙ ap (λ (fs : List Field). fs ++ header_bytes (text ++ more) new ∷ []) (same_lines text more spans within)
    ∙ ap (λ (f : Field). lines_at text spans ++ f ∷ []) field

-- a text and its spans with a line more at the end
spelled_more : (text : List ℕ) (spans : List HeaderSpan) (name value : List ℕ) → AreSpelled text spans
    → AreSpelled (text ++ field_text name value) (spans ++ span_at (length text) (length name) (length value) ∷ [])
spelled_more text spans name value are =
    let more : List ℕ = field_text name value in
    let new : HeaderSpan = span_at (length text) (length name) (length value) in
    record {
      within = All-push (IsHeaderWithin (length (text ++ more))) spans new
          (All-weaker (IsHeaderWithin (length text)) (IsHeaderWithin (length (text ++ more))) (more_room text more) spans are.within) (there_within text name value);
      spelled = ap (λ (x : List ℕ). x ++ more) are.spelled
          ∙ ap (λ (x : List ℕ). fields_text (lines_at text spans) ++ x) (sym (append-nil more))
          ∙ sym (flat_map-append line_text (lines_at text spans) ((name, value) ∷ []))
          ∙ ap fields_text (sym (lines_more text spans name value are.within));
    }

-- what was added is spelled with the others, and is the last line
pub added : (text : List ℕ) (spans : List HeaderSpan) (name value text' : List ℕ) (spans' : List HeaderSpan) → AreSpelled text spans
    → text' ≡ text ++ field_text name value → spans' ≡ spans ++ span_at (length text) (length name) (length value) ∷ []
    → AreSpelled text' spans' × (lines_at text' spans' ≡ lines_at text spans ++ (name, value) ∷ [])
added text spans name value text' spans' are t s =
    let T : List ℕ → Type 0 = λ x. AreSpelled x spans' × (lines_at x spans' ≡ lines_at text spans ++ (name, value) ∷ []) in
    let S : List HeaderSpan → Type 0 = λ x. AreSpelled (text ++ field_text name value) x × (lines_at (text ++ field_text name value) x ≡ lines_at text spans ++ (name, value) ∷ []) in
    subst T (sym t) (subst S (sym s) (spelled_more text spans name value are, lines_more text spans name value are.within))

-- nothing was added
pub kept : (text : List ℕ) (spans : List HeaderSpan) (text' : List ℕ) (spans' : List HeaderSpan) → AreSpelled text spans
    → text' ≡ text → spans' ≡ spans → AreSpelled text' spans' × (lines_at text' spans' ≡ lines_at text spans)
kept text spans text' spans' are t s =
    let T : List ℕ → Type 0 = λ x. AreSpelled x spans' × (lines_at x spans' ≡ lines_at text spans) in
    let S : List HeaderSpan → Type 0 = λ x. AreSpelled text x × (lines_at text x ≡ lines_at text spans) in
    subst T (sym t) (subst S (sym s) (are, refl))

-- a line that is spelled in a buffer as it is spelled here
pub spelled_there : (buf : List ℕ) (h : HeaderSpan) → IsHeaderWithin (length buf) h → h.name.end ≤ h.value.start → h.value.end + 2 ≤ length buf
    → slice_range buf h.name.end h.value.start ≡ codes ": " → slice_range buf h.value.end (h.value.end + 2) ≡ crlf
    → slice_range buf h.name.start (h.value.end + 2) ≡ field_text (span_bytes buf h.name) (span_bytes buf h.value)
spelled_there buf h within ordered room gap end =
    let name : List ℕ = span_bytes buf h.name in
    let value : List ℕ = span_bytes buf h.value in
    let rest : List ℕ = drop (h.value.end + 2) buf in
    let whole : drop h.name.start buf ≡ name ++ (codes ": " ++ (value ++ (crlf ++ rest))) =
    drop_split buf h.name.start h.name.end within.0.0
    ∙ ap (λ (x : List ℕ). name ++ x) (drop_split buf h.name.end h.value.start ordered
    ∙ ap (λ (x : List ℕ). x ++ drop h.value.start buf) gap
    ∙ ap (λ (x : List ℕ). codes ": " ++ x) (drop_split buf h.value.start h.value.end within.1.0
    ∙ ap (λ (x : List ℕ). value ++ x) (drop_split buf h.value.end (h.value.end + 2) (omega arith) ∙ ap (λ (x : List ℕ). x ++ rest) end))) in
    let joined : drop h.name.start buf ≡ field_text name value ++ rest =
    whole ∙ sym (ap (λ (x : List ℕ). x ++ rest) (from_name name value) ∙ append_assoc name (codes ": " ++ (value ++ crlf)) rest
    ∙ ap (λ (x : List ℕ). name ++ x) (append_assoc (codes ": ") (value ++ crlf) rest ∙ ap (λ (x : List ℕ). codes ": " ++ x) (append_assoc value crlf rest))) in
    let n : length name ≡ h.name.end - h.name.start = length-slice_range buf h.name.start h.name.end within.0.0 within.0.1 in
    let v : length value ≡ h.value.end - h.value.start = length-slice_range buf h.value.start h.value.end within.1.0 within.1.1 in
    let g : h.value.start - h.name.end ≡ 2 = sym (length-slice_range buf h.name.end h.value.start ordered (omega (arith, within.1.0, within.1.1))) ∙ ap length gap in
    let all : length (field_text name value) ≡ h.value.end + 2 - h.name.start = omega (arith, field_length name value, n, v, g, within.0.0, within.1.0, ordered) in
    ap (take (h.value.end + 2 - h.name.start)) joined ∙ take_at (field_text name value) rest (h.value.end + 2 - h.name.start) all
