-- Lines that are laid out anew: after one was taken out, and after the last one was moved up.
use Rattle.std.proofs.Common.{◌≡◌, ℕ, suc, ◌+◌, ◌-◌, ◌<◌, ◌≤◌, List, [], ◌∷◌, ◌++◌, length, take, drop, map, get_or, set, add-zero, add-one, refl, sym, ap, ap₂, ◌∙◌, subst, append_assoc, length-append, arith}
use Rattle.std.specs.List.{flat_map, remove, sum_by}
use Rattle.std.proofs.lemmas.List.{append-nil, map-append, take_all, take_rest, take-take, drop_all, length-drop, take_at, drop_at, take-append-le, length-map, length-take-le, take-append-drop, take-map, drop-map, drop_more, take_more, get_or_at, set_at}
use Rattle.std.proofs.lemmas.List.Concat.{flat_map-append}
use Rattle.std.proofs.lemmas.List.Elements.{All-head, All-tail, All-cons, All-nil}
use Rattle.std.proofs.lemmas.List.Sums.{sum_by-cons, sum_by_more, sum_by-take-le}
use Rattle.httparse.proofs.RunLemmas.{length-slice_range}
use Rattle.httparse.specs.declared.spans.HeaderSpan.{HeaderSpan}
use Rattle.httparse.specs.Spans.{header_bytes, IsHeaderWithin}
use Rattle.head_view.specs.Lines.{Line as Field, AreWithin, lines_at}
use Rattle.http_wire.specs.Lines.{line_text, fields_text, AreSpelled, span_at}
use Rattle.http_wire.specs.Laid.{laid, line_length, spelled_total, turned}
use Rattle.http_wire.proofs.Spelled.{same_field, name_there, value_there, field_length, more_room, there_within}

-- the lengths of a name and of a value
abbrev Sizes : Type 0
Sizes = ℕ × ℕ

abbrev span_sizes : HeaderSpan → Sizes
span_sizes h = (h.name.end - h.name.start, h.value.end - h.value.start)

abbrev field_sizes : Field → Sizes
field_sizes f = (length f.0, length f.1)

-- the spans have the lengths of these lines
abbrev pub AreSized : List HeaderSpan → List Field → Type 0
AreSized spans fields = map span_sizes spans ≡ map field_sizes fields

first_size : (a b : Sizes) (ms ns : List Sizes) → a ∷ ms ≡ b ∷ ns → a ≡ b
first_size a b ms ns e = cc

other_sizes : (a b : Sizes) (ms ns : List Sizes) → a ∷ ms ≡ b ∷ ns → ms ≡ ns
other_sizes a b ms ns e = cc

name_size : (a b c d : ℕ) → ◌≡◌ {A = Sizes} (a, b) (c, d) → a ≡ c
name_size a b c d e = ap (λ (p : Sizes). p.0) e

value_size : (a b c d : ℕ) → ◌≡◌ {A = Sizes} (a, b) (c, d) → b ≡ d
value_size a b c d e = ap (λ (p : Sizes). p.1) e

sized_here : (text : List ℕ) (h : HeaderSpan) → IsHeaderWithin (length text) h → span_sizes h ≡ field_sizes (header_bytes text h)
sized_here text h within =
    let name = length-slice_range text h.name.start h.name.end within.0.0 within.0.1 in
    let value = length-slice_range text h.value.start h.value.end within.1.0 within.1.1 in
    ap₂ (λ (n m : ℕ). (n, m)) (sym name) (sym value)

-- spans within a text have the lengths of the lines that they cover
pub sized : (text : List ℕ) (spans : List HeaderSpan) → AreWithin text spans → AreSized spans (lines_at text spans)
sized text [] within = refl
sized text (h ∷ spans) within =
    ap₂ (λ (a : Sizes) (ms : List Sizes). a ∷ ms) (sized_here text h (All-head (IsHeaderWithin (length text)) h spans within))
    (sized text spans (All-tail (IsHeaderWithin (length text)) h spans within))

-- a line as long as its span
long_line : (h : HeaderSpan) (f : Field) → span_sizes h ≡ field_sizes f → length (line_text f) ≡ line_length h
long_line h f e =
    let n = name_size (h.name.end - h.name.start) (h.value.end - h.value.start) (length f.0) (length f.1) e in
    let v = value_size (h.name.end - h.name.start) (h.value.end - h.value.start) (length f.0) (length f.1) e in
    omega (arith, field_length f.0 f.1, n, v)

pub total : (spans : List HeaderSpan) (fields : List Field) → AreSized spans fields → spelled_total spans ≡ length (fields_text fields)
total [] [] e = refl
total [] (f ∷ fields) e = absurd cc
total (h ∷ spans) [] e = absurd cc
total (h ∷ spans) (f ∷ fields) e =
    let here = long_line h f (first_size (span_sizes h) (field_sizes f) (map span_sizes spans) (map field_sizes fields) e) in
    let rest = total spans fields (other_sizes (span_sizes h) (field_sizes f) (map span_sizes spans) (map field_sizes fields) e) in
    omega (arith, sum_by-cons line_length h spans, here, rest, length-append (line_text f) (fields_text fields))

-- a span that is laid out where its line begins
here_at : (front : List ℕ) (f : Field) (more : List ℕ) (n v : ℕ) → n ≡ length f.0 → v ≡ length f.1
    → IsHeaderWithin (length (front ++ line_text f ++ more)) (span_at (length front) n v) × (header_bytes (front ++ line_text f ++ more) (span_at (length front) n v) ≡ f)
here_at front f more n v en ev =
    let text : List ℕ = front ++ line_text f in
    let span : HeaderSpan = span_at (length front) (length f.0) (length f.1) in
    let within = there_within front f.0 f.1 in
    let bytes : header_bytes text span ≡ f = ap₂ (λ (a b : List ℕ). (a, b)) (name_there front f.0 f.1) (value_there front f.0 f.1) in
    let P : ℕ → ℕ → Type 0 = λ a b. IsHeaderWithin (length (text ++ more)) (span_at (length front) a b) × (header_bytes (text ++ more) (span_at (length front) a b) ≡ f) in
    subst (λ (a : ℕ). P a v) (sym en) (subst (P (length f.0)) (sym ev) (more_room text more span within, same_field text more span within ∙ bytes))

-- lines that are laid out behind some text are those lines
laid_behind : (front : List ℕ) (fields : List Field) (spans : List HeaderSpan) → AreSized spans fields
    → AreWithin (front ++ fields_text fields) (laid (length front) spans) × (lines_at (front ++ fields_text fields) (laid (length front) spans) ≡ fields)
laid_behind front [] [] e = (All-nil (IsHeaderWithin (length (front ++ []))), refl)
laid_behind front [] (h ∷ spans) e = absurd cc
laid_behind front (f ∷ fields) [] e = absurd cc
laid_behind front (f ∷ fields) (h ∷ spans) e =
    let size = first_size (span_sizes h) (field_sizes f) (map span_sizes spans) (map field_sizes fields) e in
    let n = name_size (h.name.end - h.name.start) (h.value.end - h.value.start) (length f.0) (length f.1) size in
    let v = value_size (h.name.end - h.name.start) (h.value.end - h.value.start) (length f.0) (length f.1) size in
    let rest = laid_behind (front ++ line_text f) fields spans (other_sizes (span_sizes h) (field_sizes f) (map span_sizes spans) (map field_sizes fields) e) in
    let next : length (front ++ line_text f) ≡ length front + line_length h = omega (arith, length-append front (line_text f), long_line h f size) in
    let here = here_at front f (fields_text fields) (h.name.end - h.name.start) (h.value.end - h.value.start) n v in
    let text : List ℕ = front ++ line_text f ++ fields_text fields in
    let R : ℕ → Type 0 = λ at. AreWithin text (laid at spans) × (lines_at text (laid at spans) ≡ fields) in
    let moved = subst R next rest in
    let span : HeaderSpan = span_at (length front) (h.name.end - h.name.start) (h.value.end - h.value.start) in
    let T : List ℕ → Type 0 = λ t. AreWithin t (laid (length front) (h ∷ spans)) × (lines_at t (laid (length front) (h ∷ spans)) ≡ f ∷ fields) in
    subst T (append_assoc front (line_text f) (fields_text fields))
    (All-cons (IsHeaderWithin (length text)) span (laid (length front + line_length h) spans) here.0 moved.0, ap₂ (λ (x : Field) (xs : List Field). x ∷ xs) here.1 moved.1)

-- a text that spells these lines, and spans of their lengths that are laid out from its front on
pub laid_out : (text : List ℕ) (fields : List Field) (spans : List HeaderSpan) → text ≡ fields_text fields → AreSized spans fields
    → AreSpelled text (laid 0 spans) × (lines_at text (laid 0 spans) ≡ fields)
laid_out text fields spans is e =
    let at = laid_behind [] fields spans e in
    let T : List ℕ → Type 0 = λ t. AreSpelled t (laid 0 spans) × (lines_at t (laid 0 spans) ≡ fields) in
    subst T (sym is) (record { within = at.0; spelled = ap fields_text (sym at.1) }, at.1)

text_of : (xs ys : List Field) → fields_text (xs ++ ys) ≡ fields_text xs ++ fields_text ys
text_of xs ys = flat_map-append line_text xs ys

sizes_of : (spans more : List HeaderSpan) (fields others : List Field) → AreSized spans fields → AreSized more others → AreSized (spans ++ more) (fields ++ others)
sizes_of spans more fields others e o =
    map-append span_sizes spans more ∙ ap₂ (λ (a b : List Sizes). a ++ b) e o ∙ sym (map-append field_sizes fields others)

front_sizes : (n : ℕ) (spans : List HeaderSpan) (fields : List Field) → AreSized spans fields → AreSized (take n spans) (take n fields)
front_sizes n spans fields e = sym (take-map span_sizes n spans) ∙ ap (take n) e ∙ take-map field_sizes n fields

back_sizes : (n : ℕ) (spans : List HeaderSpan) (fields : List Field) → AreSized spans fields → AreSized (drop n spans) (drop n fields)
back_sizes n spans fields e = sym (drop-map span_sizes n spans) ∙ ap (drop n) e ∙ drop-map field_sizes n fields

-- the text before a line, and what stands behind it
cut_at : (fields : List Field) (n : ℕ) → fields_text fields ≡ fields_text (take n fields) ++ fields_text (drop n fields)
cut_at fields n = sym (ap fields_text (take-append-drop n fields)) ∙ text_of (take n fields) (drop n fields)

text_before : (fields : List Field) (n at : ℕ) → at ≡ length (fields_text (take n fields)) → take at (fields_text fields) ≡ fields_text (take n fields)
text_before fields n at e = ap (take at) (cut_at fields n) ∙ take_at (fields_text (take n fields)) (fields_text (drop n fields)) at (sym e)

text_behind : (fields : List Field) (n at : ℕ) → at ≡ length (fields_text (take n fields)) → drop at (fields_text fields) ≡ fields_text (drop n fields)
text_behind fields n at e = ap (drop at) (cut_at fields n) ∙ drop_at (fields_text (take n fields)) (fields_text (drop n fields)) at (sym e)

-- where a line begins
pub begins : (text : List ℕ) (spans : List HeaderSpan) (at : ℕ) → AreWithin text spans → spelled_total (take at spans) ≡ length (fields_text (take at (lines_at text spans)))
begins text spans at within = total (take at spans) (take at (lines_at text spans)) (front_sizes at spans (lines_at text spans) (sized text spans within))

-- all lines together are the text
pub all_long : (text : List ℕ) (spans : List HeaderSpan) → AreSpelled text spans → spelled_total spans ≡ length text
all_long text spans are = total spans (lines_at text spans) (sized text spans are.within) ∙ ap length (sym are.spelled)

-- where the line behind it begins
pub ends : (spans : List HeaderSpan) (at : ℕ) (h : HeaderSpan) → at < length spans → h ≡ get_or spans at h
    → spelled_total (take (at + 1) spans) ≡ spelled_total (take at spans) + line_length h
ends spans at h lt is = sum_by_more line_length spans at h lt ∙ ap (λ (x : HeaderSpan). spelled_total (take at spans) + line_length x) (sym is)

pub begins_within : (spans : List HeaderSpan) (at : ℕ) → spelled_total (take at spans) ≤ spelled_total spans
begins_within spans at = sum_by-take-le line_length spans at

-- a line was taken out of the text, and its span out of the spans
pub taken_out : (text text' : List ℕ) (spans left : List HeaderSpan) (at start end : ℕ) → AreSpelled text spans
    → start ≡ spelled_total (take at spans) → end ≡ spelled_total (take (at + 1) spans) → text' ≡ take start text ++ drop end text → left ≡ remove spans at
    → AreSpelled text' (laid 0 left) × (lines_at text' (laid 0 left) ≡ remove (lines_at text spans) at)
taken_out text text' spans left at start end are s e is removed =
    let fields : List Field = lines_at text spans in
    let front : take start text ≡ fields_text (take at fields) = ap (take start) are.spelled ∙ text_before fields at start (s ∙ begins text spans at are.within) in
    let back : drop end text ≡ fields_text (drop (at + 1) fields) = ap (drop end) are.spelled ∙ text_behind fields (at + 1) end (e ∙ begins text spans (at + 1) are.within) in
    let whole : text' ≡ fields_text (remove fields at) =
    is ∙ ap₂ (λ (a b : List ℕ). a ++ b) front back ∙ sym (text_of (take at fields) (drop (at + 1) fields)) ∙ ap (λ (n : ℕ). fields_text (take at fields ++ drop n fields)) (add-one at) in
    let same = sized text spans are.within in
    let sizes : AreSized (remove spans at) (remove fields at) =
    sizes_of (take at spans) (drop (suc at) spans) (take at fields) (drop (suc at) fields) (front_sizes at spans fields same) (back_sizes (suc at) spans fields same) in
    laid_out text' (remove fields at) left whole (subst (λ (x : List HeaderSpan). AreSized x (remove fields at)) (sym removed) sizes)

-- what is left is no longer than the text
pub fewer : (text text' : List ℕ) (spans left : List HeaderSpan) (at start end : ℕ) → AreSpelled text spans
    → start ≡ spelled_total (take at spans) → end ≡ spelled_total (take (at + 1) spans) → text' ≡ take start text ++ drop end text → left ≡ remove spans at
    → spelled_total left ≤ length text'
fewer text text' spans left at start end are s e is removed =
    let out = taken_out text text' spans left at start end are s e is removed in
    let fields : List Field = lines_at text spans in
    let same = sized text spans are.within in
    let sizes : AreSized (remove spans at) (remove fields at) =
    sizes_of (take at spans) (drop (suc at) spans) (take at fields) (drop (suc at) fields) (front_sizes at spans fields same) (back_sizes (suc at) spans fields same) in
    let long : spelled_total left ≡ length (fields_text (remove fields at)) = ap spelled_total removed ∙ total (remove spans at) (remove fields at) sizes in
    let spelled : text' ≡ fields_text (remove fields at) = out.0.spelled ∙ ap fields_text out.1 in
    omega (arith, long, ap length spelled)

-- a part at the end moved before the part in the middle
rotated : {X : Type 0} (a b c : List X) (from n last : ℕ) → from ≡ length a → last ≡ length c → n ≡ length (drop from (a ++ (b ++ c)))
    → take from (a ++ (b ++ c)) ++ (drop (n - last) (drop from (a ++ (b ++ c))) ++ take (n - last) (drop from (a ++ (b ++ c)))) ≡ a ++ (c ++ b)
rotated {X} a b c from n last f l e =
    let front : take from (a ++ (b ++ c)) ≡ a = take_at a (b ++ c) from (sym f) in
    let back : drop from (a ++ (b ++ c)) ≡ b ++ c = drop_at a (b ++ c) from (sym f) in
    let mid : n - last ≡ length b = omega (arith, e, l, ap length back, length-append b c) in
    ap₂ (λ (x y : List X). x ++ y) front
    (ap₂ (λ (x y : List X). x ++ y) (ap (drop (n - last)) back ∙ drop_at b c (n - last) (sym mid)) (ap (take (n - last)) back ∙ take_at b c (n - last) (sym mid)))

rotated_of : {X : Type 0} (xs a b c : List X) (from n last : ℕ) → xs ≡ a ++ (b ++ c) → from ≡ length a → last ≡ length c → n ≡ length (drop from xs)
    → take from xs ++ (drop (n - last) (drop from xs) ++ take (n - last) (drop from xs)) ≡ a ++ (c ++ b)
rotated_of {X} xs a b c from n last is f l e =
    let P : List X → Type 0 = λ x. n ≡ length (drop from x) → take from x ++ (drop (n - last) (drop from x) ++ take (n - last) (drop from x)) ≡ a ++ (c ++ b) in
    subst P (sym is) (rotated a b c from n last f l) e

-- the last line was moved up in the text, and its span among the spans
pub moved_up : (text text' : List ℕ) (spans spans' : List HeaderSpan) (at start from to : ℕ) (front : List Field) (last : Field)
    → AreSpelled text spans → lines_at text spans ≡ front ++ last ∷ [] → at < length spans
    → start ≡ spelled_total (take at spans) → from ≡ spelled_total (take (length spans - 1) spans) → to ≡ spelled_total (take (length spans - 1 + 1) spans)
    → text' ≡ turned start (to - from) text → spans' ≡ turned at 1 spans
    → AreSpelled text' (laid 0 spans') × (lines_at text' (laid 0 spans') ≡ take at front ++ last ∷ drop at front) × (spelled_total spans' ≤ length text')
moved_up text text' spans spans' at start from to front last are is lt begin from_is to_is text_is spans_are =
    let same : AreSized spans (front ++ last ∷ []) = sized text spans are.within ∙ ap (map field_sizes) is in
    let count : length spans ≡ length front + 1 =
    sym (length-map spans span_sizes) ∙ ap (length {A = Sizes}) same ∙ length-map (front ++ last ∷ []) field_sizes ∙ length-append front (last ∷ []) in
    let below : at ≤ length front = omega (arith, count, lt) in
    let split : front ++ last ∷ [] ≡ take at front ++ (drop at front ++ last ∷ []) =
    ap (λ (x : List Field). x ++ last ∷ []) (sym (take-append-drop at front)) ∙ append_assoc (take at front) (drop at front) (last ∷ []) in
    let a : List ℕ = fields_text (take at front) in
    let b : List ℕ = fields_text (drop at front) in
    let c : List ℕ = fields_text (last ∷ []) in
    let spelled : text ≡ a ++ (b ++ c) =
    are.spelled ∙ ap fields_text (is ∙ split) ∙ text_of (take at front) (drop at front ++ last ∷ []) ∙ ap (λ (x : List ℕ). a ++ x) (text_of (drop at front) (last ∷ [])) in
    let first : take at (lines_at text spans) ≡ take at front = ap (take at) is ∙ take-append-le at front (last ∷ []) below in
    let starts : start ≡ length a = begin ∙ begins text spans at are.within ∙ ap (λ (x : List Field). length (fields_text x)) first in
    let all : spelled_total spans ≡ length text = all_long text spans are in
    let n : ℕ = length spans - 1 in
    let fronts : take n (lines_at text spans) ≡ front =
    ap (take n) is ∙ take_at front (last ∷ []) n (omega (arith, count)) in
    let before : from ≡ length (fields_text front) = from_is ∙ begins text spans n are.within ∙ ap (λ (x : List Field). length (fields_text x)) fronts in
    let every : take (n + 1) spans ≡ spans = take_all (n + 1) spans (omega (arith, lt)) in
    let behind : to ≡ spelled_total spans = to_is ∙ ap spelled_total every in
    let parts : length (fields_text (front ++ last ∷ [])) ≡ length (fields_text front) + length c = ap length (text_of front (last ∷ [])) ∙ length-append (fields_text front) c in
    let text_long : length text ≡ length (fields_text (front ++ last ∷ [])) = ap length (are.spelled ∙ ap fields_text is) in
    let size_is : to - from ≡ length c = omega (arith, all, before, behind, parts, text_long) in
    let turned_text : text' ≡ a ++ (c ++ b) = text_is ∙ rotated_of text a b c start (length (drop start text)) (to - from) spelled starts size_is refl in
    let fields' : List Field = take at front ++ last ∷ drop at front in
    let text_there : text' ≡ fields_text fields' =
    turned_text ∙ ap (λ (x : List ℕ). a ++ (x ++ b)) (append-nil (line_text last)) ∙ sym (text_of (take at front) (last ∷ drop at front)) in
    let z : List Sizes = map span_sizes spans in
    let zs : z ≡ map field_sizes (take at front) ++ (map field_sizes (drop at front) ++ field_sizes last ∷ []) =
    same ∙ ap (map field_sizes) split ∙ map-append field_sizes (take at front) (drop at front ++ last ∷ [])
    ∙ ap (λ (x : List Sizes). map field_sizes (take at front) ++ x) (map-append field_sizes (drop at front) (last ∷ [])) in
    let at_is : at ≡ length (map field_sizes (take at front)) = sym (length-map (take at front) field_sizes ∙ length-take-le at front below) in
    let m : ℕ = length (drop at spans) in
    let many_is : m ≡ length (drop at z) = sym (ap (length {A = Sizes}) (drop-map span_sizes at spans) ∙ length-map (drop at spans) span_sizes) in
    let turned_sizes = rotated_of z (map field_sizes (take at front)) (map field_sizes (drop at front)) (field_sizes last ∷ []) at m 1 zs at_is refl many_is in
    let mapped : map span_sizes (turned at 1 spans) ≡ take at z ++ (drop (m - 1) (drop at z) ++ take (m - 1) (drop at z)) =
    map-append span_sizes (take at spans) (drop (m - 1) (drop at spans) ++ take (m - 1) (drop at spans))
    ∙ ap₂ (λ (x y : List Sizes). x ++ y) (sym (take-map span_sizes at spans))
    (map-append span_sizes (drop (m - 1) (drop at spans)) (take (m - 1) (drop at spans))
    ∙ ap₂ (λ (x y : List Sizes). x ++ y)
    (sym (drop-map span_sizes (m - 1) (drop at spans)) ∙ ap (drop (m - 1)) (sym (drop-map span_sizes at spans)))
    (sym (take-map span_sizes (m - 1) (drop at spans)) ∙ ap (take (m - 1)) (sym (drop-map span_sizes at spans)))) in
    let sizes : AreSized spans' fields' =
    ap (map span_sizes) spans_are ∙ mapped ∙ turned_sizes ∙ sym (map-append field_sizes (take at front) (last ∷ drop at front)) in
    let out = laid_out text' fields' spans' text_there sizes in
    (out.0, out.1, omega (arith, total spans' fields' sizes, ap length text_there))

-- there is always a last line
pub last_of : (fields : List Field) → 0 < length fields → (front : List Field) × ((last : Field) × (fields ≡ front ++ last ∷ []))
last_of [] some = absurd (omega (arith, some))
last_of (f ∷ []) some = ([], (f, refl))
last_of (f ∷ (g ∷ fields)) some =
    let rest = last_of (g ∷ fields) (omega arith) in
    (f ∷ rest.0, (rest.1.0, ap (λ (x : List Field). f ∷ x) rest.1.1))

laid-append : (at : ℕ) (spans more : List HeaderSpan) → laid at (spans ++ more) ≡ laid at spans ++ laid (at + spelled_total spans) more
laid-append at [] more = ap (λ (n : ℕ). laid n more) (sym (add-zero at))
laid-append at (h ∷ spans) more =
    let next : at + line_length h + spelled_total spans ≡ at + spelled_total (h ∷ spans) = omega (arith, sum_by-cons line_length h spans) in
    ap (λ (x : List HeaderSpan). span_at at (h.name.end - h.name.start) (h.value.end - h.value.start) ∷ x)
    (laid-append (at + line_length h) spans more ∙ ap (λ (n : ℕ). laid (at + line_length h) spans ++ laid n more) next)

pub length-laid : (at : ℕ) (spans : List HeaderSpan) → length (laid at spans) ≡ length spans
length-laid at [] = refl
length-laid at (h ∷ spans) = ap suc (length-laid (at + line_length h) spans)

-- one more line is laid out
pub laid_more : (old now next : List HeaderSpan) (at start : ℕ) (h : HeaderSpan) → at < length old → now ≡ laid 0 (take at old) ++ drop at old
    → start ≡ spelled_total (take at old) → h ≡ get_or now at h
    → next ≡ set now at (span_at start (h.name.end - h.name.start) (h.value.end - h.value.start))
    → (next ≡ laid 0 (take (at + 1) old) ++ drop (at + 1) old) × (start + line_length h ≡ spelled_total (take (at + 1) old))
laid_more old now next at start h lt is from read written =
    let done : List HeaderSpan = laid 0 (take at old) in
    let new : HeaderSpan = span_at start (h.name.end - h.name.start) (h.value.end - h.value.start) in
    let long : length done ≡ at = length-laid 0 (take at old) ∙ length-take-le at old (omega (arith, lt)) in
    let rest : drop at old ≡ get_or old at h ∷ drop (at + 1) old = drop_more old at h lt in
    let split : now ≡ done ++ get_or old at h ∷ drop (at + 1) old = is ∙ ap (λ (x : List HeaderSpan). done ++ x) rest in
    let same : h ≡ get_or old at h = read ∙ ap (λ (x : List HeaderSpan). get_or x at h) split ∙ get_or_at done (get_or old at h) (drop (at + 1) old) h at long in
    let put : next ≡ done ++ new ∷ drop (at + 1) old =
    written ∙ ap (λ (x : List HeaderSpan). set x at new) split ∙ set_at done (get_or old at h) (drop (at + 1) old) new at long in
    let one : laid start (h ∷ []) ≡ new ∷ [] = refl in
    let more : laid 0 (take (at + 1) old) ≡ done ++ new ∷ [] =
    ap (laid 0) (take_more old at h lt ∙ ap (λ (x : HeaderSpan). take at old ++ x ∷ []) (sym same))
    ∙ laid-append 0 (take at old) (h ∷ [])
    ∙ ap (λ (n : ℕ). done ++ laid n (h ∷ [])) (omega (arith, from)) in (
      put ∙ sym (append_assoc done (new ∷ []) (drop (at + 1) old)) ∙ ap (λ (x : List HeaderSpan). x ++ drop (at + 1) old) (sym more),
      sym (ends old at h lt same ∙ ap (λ (n : ℕ). n + line_length h) (sym from)),
    )

-- there is room for it
pub room_for : (old now : List HeaderSpan) (at start all : ℕ) (h : HeaderSpan) → at < length old → now ≡ laid 0 (take at old) ++ drop at old
    → start ≡ spelled_total (take at old) → h ≡ get_or now at h → spelled_total old ≤ all → start + line_length h ≤ all
room_for old now at start all h lt is from read fits =
    let done : List HeaderSpan = laid 0 (take at old) in
    let long : length done ≡ at = length-laid 0 (take at old) ∙ length-take-le at old (omega (arith, lt)) in
    let split : now ≡ done ++ get_or old at h ∷ drop (at + 1) old = is ∙ ap (λ (x : List HeaderSpan). done ++ x) (drop_more old at h lt) in
    let same : h ≡ get_or old at h = read ∙ ap (λ (x : List HeaderSpan). get_or x at h) split ∙ get_or_at done (get_or old at h) (drop (at + 1) old) h at long in
    omega (arith, ends old at h lt same, begins_within old (at + 1), from, fits)

-- the last elements of a list, moved by a turn of its tail
pub turned_by : {X : Type 0} (start count : ℕ) (xs ys : List X) → start + count ≤ length xs
    → ys ≡ drop (length (take (length xs - start) (drop start xs)) - count) (take (length xs - start) (drop start xs)) ++ take (length (take (length xs - start) (drop start xs)) - count) (take (length xs - start) (drop start xs))
    → take start xs ++ (ys ++ drop (length xs - start) (drop start xs)) ≡ turned start count xs
turned_by {X} start count xs ys fits is =
    let P : List X → Type 0 = λ mid. ys ≡ drop (length mid - count) mid ++ take (length mid - count) mid in
    let now : ys ≡ drop (length (drop start xs) - count) (drop start xs) ++ take (length (drop start xs) - count) (drop start xs) = subst P (take_rest xs start) is in
    let none : drop (length xs - start) (drop start xs) ≡ [] = drop_all (length xs - start) (drop start xs) (omega (arith, length-drop start xs)) in
    ap (λ (x : List X). take start xs ++ x) (ap₂ (λ (a b : List X). a ++ b) now none ∙ append-nil (drop (length (drop start xs) - count) (drop start xs) ++ take (length (drop start xs) - count) (drop start xs)))

pub begins_later : (spans : List HeaderSpan) (at : ℕ) → at < length spans → spelled_total (take at spans) ≤ spelled_total (take (at + 1) spans)
begins_later [] at lt = absurd (omega (arith, lt))
begins_later (h ∷ spans) at lt = omega (arith, sum_by_more line_length (h ∷ spans) at h lt)

-- the same spans, under another name
pub spelled_as : (text : List ℕ) (laid_spans spans : List HeaderSpan) → spans ≡ laid_spans → AreSpelled text laid_spans → AreSpelled text spans
spelled_as text laid_spans spans same are = subst (AreSpelled text) (sym same) are

pub read_as : (text : List ℕ) (laid_spans spans : List HeaderSpan) → spans ≡ laid_spans → lines_at text spans ≡ lines_at text laid_spans
read_as text laid_spans spans same = ap (lines_at text) same

written : {X : Type 0} (old new : List X) (n : ℕ) → length new ≡ n → length old ≡ n → take n (new ++ drop (length new) old) ≡ new
written {X} old new n ln lo = ap (take n) (ap (λ (x : List X). new ++ x) (drop_all (length new) old (omega (arith, ln, lo))) ∙ append-nil new) ∙ take_all n new (omega (arith, ln))

-- what the last line's move leaves, in a text and spans that were written whole
pub move_is : (text turned_text : List ℕ) (spans turned_spans : List HeaderSpan) (room seats at start from to : ℕ) (front : List Field) (last : Field)
    → AreSpelled text spans → lines_at text spans ≡ front ++ last ∷ [] → at < length spans
    → start ≡ spelled_total (take at spans) → from ≡ spelled_total (take (length spans - 1) spans) → to ≡ spelled_total (take (length spans - 1 + 1) spans)
    → turned_text ≡ turned start (to - from) text → turned_spans ≡ turned at 1 spans
    → length turned_text ≡ room → length text ≡ room → length turned_spans ≡ seats → length spans ≡ seats
    → let text' : List ℕ = take room (turned_text ++ drop (length turned_text) text) in
    let spans' : List HeaderSpan = take seats (turned_spans ++ drop (length turned_spans) spans) in
    AreSpelled text' (laid 0 spans') × (lines_at text' (laid 0 spans') ≡ take at front ++ last ∷ drop at front) × (spelled_total spans' ≤ length text')
move_is text turned_text spans turned_spans room seats at start from to front last are is lt begin from_is to_is text_is spans_are rt tr st ts =
    let text' : List ℕ = take room (turned_text ++ drop (length turned_text) text) in
    let spans' : List HeaderSpan = take seats (turned_spans ++ drop (length turned_spans) spans) in
    let whole_text : text' ≡ turned start (to - from) text = written text turned_text room rt tr ∙ text_is in
    let whole_spans : spans' ≡ turned at 1 spans = written spans turned_spans seats st ts ∙ spans_are in
    moved_up text text' spans spans' at start from to front last are is lt begin from_is to_is whole_text whole_spans

length-turned : {X : Type 0} (start count : ℕ) (xs : List X) → length (turned start count xs) ≡ length xs
length-turned {X} start count xs =
    let tail : List X = drop start xs in
    let n : ℕ = length tail - count in
    omega (arith, length-append (take start xs) (drop n tail ++ take n tail), length-append (drop n tail) (take n tail), length-append (take start xs) tail, length-append (take n tail) (drop n tail), ap (length {A = X}) (take-append-drop start xs), ap (length {A = X}) (take-append-drop n tail))

-- what comes before a line comes before a later one
pub tail_fits : (spans : List HeaderSpan) (at n : ℕ) → at ≤ n → spelled_total (take at spans) ≤ spelled_total (take n spans)
tail_fits spans at n le = subst (λ (x : List HeaderSpan). spelled_total x ≤ spelled_total (take n spans)) (take-take at n spans le) (begins_within (take n spans) at)

-- the same, with the lengths that follow
pub moves : (text turned_text : List ℕ) (spans turned_spans : List HeaderSpan) (room seats at start from to : ℕ)
    → AreSpelled text spans → at < length spans
    → start ≡ spelled_total (take at spans) → from ≡ spelled_total (take (length spans - 1) spans) → to ≡ spelled_total (take (length spans - 1 + 1) spans)
    → turned_text ≡ turned start (to - from) text → turned_spans ≡ turned at 1 spans → length text ≡ room → length spans ≡ seats
    → (front : List Field) (last : Field) → lines_at text spans ≡ front ++ last ∷ []
    → let text' : List ℕ = take room (turned_text ++ drop (length turned_text) text) in
    let spans' : List HeaderSpan = take seats (turned_spans ++ drop (length turned_spans) spans) in
    AreSpelled text' (laid 0 spans') × (lines_at text' (laid 0 spans') ≡ take at front ++ last ∷ drop at front) × (spelled_total spans' ≤ length text')
moves text turned_text spans turned_spans room seats at start from to are lt begin from_is to_is text_is spans_are long_text long_spans front last is =
    move_is text turned_text spans turned_spans room seats at start from to front last are is lt begin from_is to_is text_is spans_are
    (ap length text_is ∙ length-turned start (to - from) text ∙ long_text) long_text
    (ap (length {A = HeaderSpan}) spans_are ∙ length-turned at 1 spans ∙ long_spans) long_spans

-- some lines have a last one
pub ends_in : (text : List ℕ) (spans : List HeaderSpan) (at : ℕ) → at < length spans → (front : List Field) × ((last : Field) × (lines_at text spans ≡ front ++ last ∷ []))
ends_in text spans at lt = last_of (lines_at text spans) (omega (arith, lt, length-map spans (header_bytes text)))
