-- Lists of lines in which one name was set, removed or looked up.
use Rattle.std.proofs.Common.{◌≡◌, ℕ, suc, ◌+◌, ◌<◌, ◌≤◌, List, [], ◌∷◌, ◌++◌, length, take, drop, get_or, Bool, true, false, not, cond, Option, Some, None, Result, Ok, Err, OnOk, inl, inr, refl, sym, ap, ap₂, ◌∙◌, subst, append_assoc, length-append, arith, ltb, add-one}
use native.Mathlib.Numerals.{one-add}
use Rattle.std.specs.List.{position, position_or_len, remove}
use Rattle.std.proofs.lemmas.Bool.{cases_lt, ltb-false, lt-ltb, le-ltb, cond-true, cond-false}
use Rattle.std.proofs.lemmas.List.{drop_more, take_more, take_all, drop_all, take_at, drop_at, length-take-le, length-map, get_or-map}
use Rattle.std.proofs.lemmas.List.Elements.{All-tail}
use Rattle.std.proofs.lemmas.Option.{cond_some}
use Rattle.httparse.specs.declared.spans.HeaderSpan.{HeaderSpan}
use Rattle.httparse.specs.Spans.{header_bytes, span_bytes, IsHeaderWithin}
use Rattle.head_view.specs.Lines.{Line as Field, AreWithin, has_name, lines_at}
use Rattle.http_wire.specs.Edits.{set_in, without, first_in}

-- where the first line of this name stands, or behind the last one
abbrev pub place : List ℕ → List Field → ℕ
place name fields = position_or_len (has_name name) fields

-- a place one further on
next_place : (name : List ℕ) (f : Field) (fields : List Field) → place name (f ∷ fields) ≡ cond (not (has_name name f)) (suc (place name fields)) 0
next_place name f fields = ap (λ (n : ℕ). cond (not (has_name name f)) n 0) (one-add (place name fields))

set_by : (name value : List ℕ) (f : Field) (fields : List Field) (t : Bool) (n : ℕ)
    → cond t ((name, value) ∷ without name fields) (f ∷ (take n fields ++ (name, value) ∷ without name (drop n fields)))
    ≡ take (cond (not t) (suc n) 0) (f ∷ fields) ++ (name, value) ∷ cond t (without name fields) (without name (drop (cond (not t) (suc n) 0) (f ∷ fields)))
set_by name value f fields true n = refl
set_by name value f fields false n = refl

without_by : (f : Field) (rest : List Field) (t : Bool) → t ≡ true → cond (not t) (f ∷ rest) rest ≡ rest
without_by f rest true e = refl
without_by f rest false e = absurd cc

with_by : (f : Field) (rest : List Field) (t : Bool) → t ≡ false → cond (not t) (f ∷ rest) rest ≡ f ∷ rest
with_by f rest true e = absurd cc
with_by f rest false e = refl

dropped_by : (name : List ℕ) (f : Field) (fields : List Field) (t : Bool) (n : ℕ) → has_name name f ≡ t
    → cond t (without name fields) (without name (drop (cond (not t) (suc n) 0) (f ∷ fields))) ≡ without name (drop (cond (not t) (suc n) 0) (f ∷ fields))
dropped_by name f fields true n e = sym (without_by f (without name fields) (has_name name f) e)
dropped_by name f fields false n e = refl

-- a line that is set stands where the first of that name stood
pub set_at : (name value : List ℕ) (fields : List Field)
    → set_in name value fields ≡ take (place name fields) fields ++ (name, value) ∷ without name (drop (place name fields) fields)
set_at name value [] = refl
set_at name value (f ∷ fields) =
    ap (λ (x : List Field). cond (has_name name f) ((name, value) ∷ without name fields) (f ∷ x)) (set_at name value fields)
    ∙ set_by name value f fields (has_name name f) (place name fields)
    ∙ ap (λ (x : List Field). take (cond (not (has_name name f)) (suc (place name fields)) 0) (f ∷ fields) ++ (name, value) ∷ x)
    (dropped_by name f fields (has_name name f) (place name fields) refl)
    ∙ ap (λ (n : ℕ). take n (f ∷ fields) ++ (name, value) ∷ without name (drop n (f ∷ fields))) (sym (next_place name f fields))

place_of : (n at : ℕ) (t : Bool) → cond t (Some n) None ≡ Some at → at ≡ n
place_of n at true e = cc
place_of n at false e = absurd cc

none_of : (n : ℕ) (t : Bool) → ◌≡◌ {A = Option ℕ} (cond t (Some n) None) None → t ≡ false
none_of n true e = absurd cc
none_of n false e = refl

-- one line was put in at the place of the first of that name, and those behind it with that name were taken out
pub set_there : (name value : List ℕ) (fields moved : List Field) (at : ℕ) → position (has_name name) fields ≡ Some at → at < length fields
    → moved ≡ take at fields ++ (name, value) ∷ drop at fields
    → take (at + 1) moved ++ without name (drop (at + 1) moved) ≡ set_in name value fields
set_there name value fields moved at first lt is =
    let e : at ≡ place name fields = place_of (place name fields) at (ltb (place name fields) (length fields)) first in
    let front : List Field = take at fields ++ (name, value) ∷ [] in
    let whole : moved ≡ front ++ drop at fields = is ∙ sym (append_assoc (take at fields) ((name, value) ∷ []) (drop at fields)) in
    let long : length front ≡ at + 1 = omega (arith, length-append (take at fields) ((name, value) ∷ []), length-take-le at fields (omega arith)) in
    ap₂ (λ (a b : List Field). a ++ b) (ap (take (at + 1)) whole ∙ take_at front (drop at fields) (at + 1) long) (ap (λ (x : List Field). without name (drop (at + 1) x)) whole ∙ ap (without name) (drop_at front (drop at fields) (at + 1) long))
    ∙ append_assoc (take at fields) ((name, value) ∷ []) (without name (drop at fields))
    ∙ ap (λ (n : ℕ). take n fields ++ (name, value) ∷ without name (drop n fields)) e
    ∙ sym (set_at name value fields)

-- no line has the name
pub set_behind : (name value : List ℕ) (fields : List Field) → position (has_name name) fields ≡ None → fields ++ (name, value) ∷ [] ≡ set_in name value fields
set_behind name value fields none =
    let past : length fields ≤ place name fields = ltb-false (place name fields) (length fields) (none_of (place name fields) (ltb (place name fields) (length fields)) none) in
    sym (set_at name value fields
    ∙ ap₂ (λ (a b : List Field). a ++ (name, value) ∷ without name b) (take_all (place name fields) fields past) (drop_all (place name fields) fields past))

-- a line of the name was taken out
pub one_out : (name : List ℕ) (fields : List Field) (at : ℕ) (f : Field) → at < length fields → f ≡ get_or fields at f → has_name name f ≡ true
    → take at (remove fields at) ++ without name (drop at (remove fields at)) ≡ take at fields ++ without name (drop at fields)
one_out name fields at f lt is named =
    let long : length (take at fields) ≡ at = length-take-le at fields (omega arith) in
    let rest : drop at fields ≡ f ∷ drop (at + 1) fields = drop_more fields at f lt ∙ ap (λ (x : Field). x ∷ drop (at + 1) fields) (sym is) in
    ap (λ (n : ℕ). take at (take at fields ++ drop n fields) ++ without name (drop at (take at fields ++ drop n fields))) (sym (add-one at))
    ∙ ap₂ (λ (a b : List Field). a ++ without name b) (take_at (take at fields) (drop (at + 1) fields) at long) (drop_at (take at fields) (drop (at + 1) fields) at long)
    ∙ ap (λ (x : List Field). take at fields ++ x) (sym (without_by f (without name (drop (at + 1) fields)) (has_name name f) named) ∙ ap (without name) (sym rest))

-- a line of another name stays
pub one_on : (name : List ℕ) (fields : List Field) (at : ℕ) (f : Field) → at < length fields → f ≡ get_or fields at f → has_name name f ≡ false
    → take (at + 1) fields ++ without name (drop (at + 1) fields) ≡ take at fields ++ without name (drop at fields)
one_on name fields at f lt is other =
    let rest : drop at fields ≡ f ∷ drop (at + 1) fields = drop_more fields at f lt ∙ ap (λ (x : Field). x ∷ drop (at + 1) fields) (sym is) in
    ap (λ (x : List Field). x ++ without name (drop (at + 1) fields)) (take_more fields at f lt ∙ ap (λ (x : Field). take at fields ++ x ∷ []) (sym is))
    ∙ append_assoc (take at fields) (f ∷ []) (without name (drop (at + 1) fields))
    ∙ ap (λ (x : List Field). take at fields ++ x) (sym (with_by f (without name (drop (at + 1) fields)) (has_name name f) other) ∙ ap (without name) (sym rest))

below_next : (n m : ℕ) → ltb n m ≡ ltb (suc n) (suc m)
below_next n m =
    elim (cases_lt n m) [
      | inl lt ↦ lt-ltb n m lt ∙ sym (lt-ltb (suc n) (suc m) (omega (arith, lt)))
      | inr le ↦ le-ltb n m le ∙ sym (le-ltb (suc n) (suc m) (omega (arith, le)))
    ]

value_by : (f d : Field) (fields : List Field) (t : Bool) (n : ℕ) → cond t (Some f.1) (cond (ltb n (length fields)) (Some (get_or fields n d).1) None)
    ≡ cond (ltb (cond (not t) (suc n) 0) (suc (length fields))) (Some (get_or (f ∷ fields) (cond (not t) (suc n) 0) d).1) None
value_by f d fields true n = sym (cond-true (ltb 0 (suc (length fields))) (Some f.1) None (lt-ltb 0 (suc (length fields)) (omega arith)))
value_by f d fields false n = ap (λ (t : Bool). cond t (Some (get_or fields n d).1) None) (below_next n (length fields))

-- the first value stands at the place of the first line
pub first_is : (name : List ℕ) (fields : List Field) (d : Field)
    → first_in name fields ≡ cond (ltb (place name fields) (length fields)) (Some (get_or fields (place name fields) d).1) None
first_is name [] d = refl
first_is name (f ∷ fields) d =
    ap (λ (x : Option (List ℕ)). cond (has_name name f) (Some f.1) x) (first_is name fields d) ∙ value_by f d fields (has_name name f) (place name fields)
    ∙ ap (λ (n : ℕ). cond (ltb n (suc (length fields))) (Some (get_or (f ∷ fields) n d).1) None) (sym (next_place name f fields))

pub first_there : (name : List ℕ) (fields : List Field) (at : ℕ) (f : Field) → position (has_name name) fields ≡ Some at → f ≡ get_or fields at f
    → Some f.1 ≡ first_in name fields
first_there name fields at f first is =
    let within = cond_some (ltb (place name fields) (length fields)) (place name fields) at first in
    let here : f ≡ get_or fields (place name fields) f = is ∙ ap (λ (n : ℕ). get_or fields n f) (sym within.1) in
    ap (λ (x : Field). Some x.1) here
    ∙ sym (first_is name fields f ∙ cond-true (ltb (place name fields) (length fields)) (Some (get_or fields (place name fields) f).1) None within.0)

pub first_nowhere : (name : List ℕ) (fields : List Field) → position (has_name name) fields ≡ None → ◌≡◌ {A = Option (List ℕ)} None (first_in name fields)
first_nowhere name fields none =
    let past = none_of (place name fields) (ltb (place name fields) (length fields)) none in
    sym (first_is name fields ([], []) ∙ cond-false (ltb (place name fields) (length fields)) (Some (get_or fields (place name fields) ([], [])).1) None past)

found_by : (n : ℕ) (t : Bool) → t ≡ true → cond (not t) (1 + n) 0 ≡ 0
found_by n true e = refl
found_by n false e = absurd cc

passed_by : (n : ℕ) (t : Bool) → t ≡ false → cond (not t) (1 + n) 0 ≡ 1 + n
passed_by n true e = absurd cc
passed_by n false e = refl

-- what is known of the lines that are left, of which so many were passed over
abbrev pub Left : List ℕ → List ℕ → ℕ → List HeaderSpan → List HeaderSpan → Type 0
Left text name at left spans =
    AreWithin text left × (place name (lines_at text spans) ≡ at + place name (lines_at text left)) × (at + length left ≡ length spans)

-- a line of another name is passed over
pub place_on : (text name : List ℕ) (at : ℕ) (left spans : List HeaderSpan) (h : HeaderSpan) (rest : List HeaderSpan) → left ≡ h ∷ rest
    → has_name name (header_bytes text h) ≡ false → Left text name at left spans → Left text name (at + 1) rest spans
place_on text name at left spans h rest is other so_far =
    let there : Left text name at (h ∷ rest) spans = subst (λ (l : List HeaderSpan). Left text name at l spans) is so_far in
    let next : place name (lines_at text (h ∷ rest)) ≡ 1 + place name (lines_at text rest) =
    passed_by (place name (lines_at text rest)) (has_name name (header_bytes text h)) other in
    (All-tail (IsHeaderWithin (length text)) h rest there.0, omega (arith, there.1, next), omega (arith, there.2))

-- a line of the name is the first
pub place_here : (text name : List ℕ) (at : ℕ) (left spans : List HeaderSpan) (h : HeaderSpan) (rest : List HeaderSpan) → left ≡ h ∷ rest
    → has_name name (header_bytes text h) ≡ true → Left text name at left spans → Some at ≡ position (has_name name) (lines_at text spans)
place_here text name at left spans h rest is named so_far =
    let fields : List Field = lines_at text spans in
    let there : Left text name at (h ∷ rest) spans = subst (λ (l : List HeaderSpan). Left text name at l spans) is so_far in
    let next : place name (lines_at text (h ∷ rest)) ≡ 0 = found_by (place name (lines_at text rest)) (has_name name (header_bytes text h)) named in
    let here : place name fields ≡ at = omega (arith, there.1, next) in
    let long : length fields ≡ length spans = length-map spans (header_bytes text) in
    let within : ltb (place name fields) (length fields) ≡ true = lt-ltb (place name fields) (length fields) (omega (arith, here, long, there.2)) in
    ap (λ (n : ℕ). Some n) (sym here) ∙ sym (cond-true (ltb (place name fields) (length fields)) (Some (place name fields)) None within)

-- no line has the name
pub place_nowhere : (text name : List ℕ) (at : ℕ) (left spans : List HeaderSpan) → left ≡ [] → Left text name at left spans
    → ◌≡◌ {A = Option ℕ} None (position (has_name name) (lines_at text spans))
place_nowhere text name at left spans is so_far =
    let fields : List Field = lines_at text spans in
    let there : Left text name at [] spans = subst (λ (l : List HeaderSpan). Left text name at l spans) is so_far in
    let long : length fields ≡ length spans = length-map spans (header_bytes text) in
    let past : ltb (place name fields) (length fields) ≡ false = le-ltb (place name fields) (length fields) (omega (arith, there.1, long, there.2)) in
    sym (cond-false (ltb (place name fields) (length fields)) (Some (place name fields)) None past)

field_there : (text : List ℕ) (spans : List HeaderSpan) (at : ℕ) (h : HeaderSpan) → at < length spans → h ≡ get_or spans at h
    → header_bytes text h ≡ get_or (lines_at text spans) at (header_bytes text h)
field_there text spans at h lt is = sym (get_or-map (header_bytes text) spans at h (header_bytes text h) lt ∙ ap (header_bytes text) (sym is))

fields_long : (text : List ℕ) (spans : List HeaderSpan) (at : ℕ) → at < length spans → at < length (lines_at text spans)
fields_long text spans at lt = subst (λ (n : ℕ). at < n) (sym (length-map spans (header_bytes text))) lt

seen_named : (name text seen : List ℕ) (h : HeaderSpan) (t b : Bool) → seen ≡ text → t ≡ has_name name (header_bytes seen h) → t ≡ b → has_name name (header_bytes text h) ≡ b
seen_named name text seen h t b same told is = sym (ap (λ (x : List ℕ). has_name name (header_bytes x h)) same) ∙ sym told ∙ is

-- what stays where a line was taken out
pub step_out : (name text seen : List ℕ) (spans : List HeaderSpan) (at : ℕ) (h : HeaderSpan) (t : Bool) (left : List Field) → at < length spans
    → h ≡ get_or spans at h → seen ≡ text → t ≡ has_name name (header_bytes seen h) → t ≡ true → left ≡ remove (lines_at text spans) at
    → take at left ++ without name (drop at left) ≡ take at (lines_at text spans) ++ without name (drop at (lines_at text spans))
step_out name text seen spans at h t left lt is same told named out =
    ap (λ (x : List Field). take at x ++ without name (drop at x)) out
    ∙ one_out name (lines_at text spans) at (header_bytes text h) (fields_long text spans at lt) (field_there text spans at h lt is) (seen_named name text seen h t true same told named)

-- and where one was passed over
pub step_on : (name text seen : List ℕ) (spans : List HeaderSpan) (at : ℕ) (h : HeaderSpan) (t : Bool) → at < length spans
    → h ≡ get_or spans at h → seen ≡ text → t ≡ has_name name (header_bytes seen h) → t ≡ false
    → take (at + 1) (lines_at text spans) ++ without name (drop (at + 1) (lines_at text spans)) ≡ take at (lines_at text spans) ++ without name (drop at (lines_at text spans))
step_on name text seen spans at h t lt is same told other =
    one_on name (lines_at text spans) at (header_bytes text h) (fields_long text spans at lt) (field_there text spans at h lt is) (seen_named name text seen h t false same told other)

-- the first value, read from the text
pub read_first : (name text : List ℕ) (spans : List HeaderSpan) (at : ℕ) (h : HeaderSpan) (value : List ℕ) → at < length spans → h ≡ get_or spans at h
    → Some at ≡ position (has_name name) (lines_at text spans) → value ≡ span_bytes text h.value → Some value ≡ first_in name (lines_at text spans)
read_first name text spans at h value lt is first read =
    ap (λ (x : List ℕ). Some x) read ∙ first_there name (lines_at text spans) at (header_bytes text h) (sym first) (field_there text spans at h lt is)

pub on_ok : {A E P Q : Type 0} (r : Result A E) → (P → Q) → OnOk r P → OnOk r Q
on_ok (Ok x) f p = f p
on_ok (Err e) f p = tt

-- all of it, where a line was put in before the others of its name and these were taken out
pub set_whole : (name value : List ℕ) (fields pushed moved : List Field) (at : ℕ) → Some at ≡ position (has_name name) fields → at < length fields
    → pushed ≡ fields ++ (name, value) ∷ [] → ((front : List Field) (last : Field) → pushed ≡ front ++ last ∷ [] → moved ≡ take at front ++ last ∷ drop at front)
    → take (at + 1) moved ++ without name (drop (at + 1) moved) ≡ set_in name value fields
set_whole name value fields pushed moved at first lt push move = set_there name value fields moved at (sym first) lt (move fields (name, value) push)

pub fields_below : (text : List ℕ) (spans : List HeaderSpan) (fields : List Field) (at : ℕ) → fields ≡ lines_at text spans → at < length spans → at < length fields
fields_below text spans fields at is lt = subst (λ (x : List Field). at < length x) (sym is) (fields_long text spans at lt)
