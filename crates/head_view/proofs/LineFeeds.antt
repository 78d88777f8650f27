-- A head has a line feed in its start line, in each field line, and at its end.
use Rattle.std.proofs.Common.{◌≡◌, ℕ, ◌+◌, ◌<◌, ◌≤◌, List, [], ◌∷◌, ◌++◌, length, refl, ap, arith}
use Rattle.std.specs.List.{flat_map}
use Rattle.std.proofs.lemmas.List.Sums.{sum_by-append}
use Rattle.httparse.specs.Ascii.{colon}
use Rattle.httparse.specs.Grammar.{LineEnd, crlf, lf, print_end, Field, print_field, print_section, print_blank, print_version, RequestHead, print_request, ResponseHead, print_response, print_reason}
use Rattle.httparse.proofs.GrammarLemmas.{print_request-append, print_response-append}
use Rattle.httparse.specs.Spans.{RequestExceeds, ResponseExceeds}
use Rattle.head_view.specs.Lines.{line_feeds}

line_feeds-append : (xs ys : List ℕ) → line_feeds (xs ++ ys) ≡ line_feeds xs + line_feeds ys
line_feeds-append xs ys = sum_by-append _ xs ys

line_feeds-end : (e : LineEnd) → line_feeds (print_end e) ≡ 1
line_feeds-end crlf = refl
line_feeds-end lf = refl

after : (xs ys : List ℕ) (n : ℕ) → n ≤ line_feeds ys → n ≤ line_feeds (xs ++ ys)
after xs ys n h = let e = line_feeds-append xs ys in omega (arith, h, e)

after_byte : (x : ℕ) (ys : List ℕ) (n : ℕ) → n ≤ line_feeds ys → n ≤ line_feeds (x ∷ ys)
after_byte x ys n h = after (x ∷ []) ys n h

at_end : (e : LineEnd) → 1 ≤ line_feeds (print_end e)
at_end e = let e1 = line_feeds-end e in omega (arith, e1)

line_feeds-field : (f : Field) → 1 ≤ line_feeds (print_field f)
line_feeds-field f = after (f.name ++ colon ∷ f.raw) (print_end f.end) 1 (at_end f.end)

both : (xs ys : List ℕ) (m n : ℕ) → m ≤ line_feeds xs → n ≤ line_feeds ys → m + n ≤ line_feeds (xs ++ ys)
both xs ys m n h k = let e = line_feeds-append xs ys in omega (arith, h, k, e)

line_feeds-fields : (fs : List Field) → length fs ≤ line_feeds (flat_map print_field fs)
line_feeds-fields [] = omega arith
line_feeds-fields (f ∷ fs) =
    let h = both (print_field f) (flat_map print_field fs) 1 (length fs) (line_feeds-field f) (line_feeds-fields fs) in
    omega (arith, h)

line_feeds-section : (fs : List Field) (last : LineEnd) → length fs + 1 ≤ line_feeds (print_section fs last)
line_feeds-section fs last = both (flat_map print_field fs) (print_end last) (length fs) 1 (line_feeds-fields fs) (at_end last)

line_feeds-request : (h : RequestHead) (rest : List ℕ) → 1 + (length h.fields + 1) ≤ line_feeds (print_request h ++ rest)
line_feeds-request h rest =
    let n : ℕ = 1 + (length h.fields + 1) in
    let section = print_section h.fields h.last ++ rest in
    let counted : length h.fields + 1 ≤ line_feeds section =
    let e = line_feeds-append (print_section h.fields h.last) rest in
    let k = line_feeds-section h.fields h.last in omega (arith, e, k) in
    let ended = print_end h.line_end ++ section in
    let versioned = print_version h.minor ++ ended in
    let aimed = h.target ++ 32 ∷ versioned in
    rw (print_request-append h rest)
    (after (print_blank h.blank) (h.method ++ 32 ∷ aimed) n (after h.method (32 ∷ aimed) n (after_byte 32 aimed n
    (after h.target (32 ∷ versioned) n (after_byte 32 versioned n (after (print_version h.minor) ended n
    (both (print_end h.line_end) section 1 (length h.fields + 1) (at_end h.line_end) counted)))))))

pub line_feeds-exceeds : (room : ℕ) (buf : List ℕ) → RequestExceeds room buf → room < line_feeds buf
line_feeds-exceeds room buf x =
    let front = x.0 in
    let rest = x.1 in
    let h = x.3 in
    let whole = ap line_feeds x.2 in
    let reads = ap line_feeds (x.4).1 in
    let split = line_feeds-append front rest in
    let ended = line_feeds-append front (print_end lf) in
    let counted = line_feeds-request h [] in
    let more = x.5 in
    omega (arith, whole, reads, split, ended, counted, more)

line_feeds-response : (h : ResponseHead) (rest : List ℕ) → 1 + (length h.fields + 1) ≤ line_feeds (print_response h ++ rest)
line_feeds-response h rest =
    let n : ℕ = 1 + (length h.fields + 1) in
    let section = print_section h.fields h.last ++ rest in
    let counted : length h.fields + 1 ≤ line_feeds section =
    let e = line_feeds-append (print_section h.fields h.last) rest in
    let k = line_feeds-section h.fields h.last in omega (arith, e, k) in
    let ended = print_end h.line_end ++ section in
    let reasoned = print_reason h.reason ++ ended in
    let coded = h.digits ++ reasoned in
    rw (print_response-append h rest)
    (after (print_blank h.blank) (print_version h.minor ++ 32 ∷ coded) n (after (print_version h.minor) (32 ∷ coded) n
    (after_byte 32 coded n (after h.digits reasoned n (after (print_reason h.reason) ended n
    (both (print_end h.line_end) section 1 (length h.fields + 1) (at_end h.line_end) counted))))))

pub line_feeds-exceeds_response : (room : ℕ) (buf : List ℕ) → ResponseExceeds room buf → room < line_feeds buf
line_feeds-exceeds_response room buf x =
    let front = x.0 in
    let rest = x.1 in
    let h = x.3 in
    let whole = ap line_feeds x.2 in
    let reads = ap line_feeds (x.4).1 in
    let split = line_feeds-append front rest in
    let ended = line_feeds-append front (print_end lf) in
    let counted = line_feeds-response h [] in
    let more = x.5 in
    omega (arith, whole, reads, split, ended, counted, more)
