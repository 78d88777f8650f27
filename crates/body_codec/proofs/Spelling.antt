-- What the writers append, and that it is read back.
use Rattle.std.proofs.Common.{◌≡◌, ℕ, ◌/◌, ◌%◌, ◌^◌, ◌<◌, ◌≤◌, List, [], ◌∷◌, ◌++◌, length, take, map, refl, sym, ◌∙◌, ap, arith, append-nil, append_assoc, length-append, Result, Ok, Err, OnErr}
use Rattle.std.specs.List.{flat_map, AllByRecursion}
use Rattle.std.specs.Char.{digit_value, digit_char}
use Rattle.std.specs.Str.Parse.{AllDigits}
use Rattle.std.specs.Int.Digits.{digits_of, number_from_digits, AllBelowBase}
use Rattle.std.proofs.lemmas.Int.Digits.{digits_of_step, length-digits_of-le, all_below_base_digits_of, number_digits_of, digits_value_is}
use Rattle.std.proofs.lemmas.List.{take_at, take-append-le, length-map, map-append}
use Rattle.body_codec.specs.Grammar.{IsSizeLine, Chunk, IsChunk, chunk_text, IsBody}
use Rattle.body_codec.specs.Writing.{size_text, written_chunk, written_last, written_body, IsPiece, AppendsPart}
use Rattle.body_codec.specs.declared.reading.Framing.TheVariants as framed

digit_back : (d : ℕ) → d < 16 → digit_value (digit_char d) ≡ d
digit_back d small = grind arith

digits_back : (ds : List ℕ) → AllBelowBase 16 ds → (map digit_value (map digit_char ds) ≡ ds) × AllDigits 16 (map digit_char ds)
digits_back [] all = (refl, tt)
digits_back (d ∷ ds) all =
    let rest = digits_back ds all.1 in
    let back : digit_value (digit_char d) ≡ d = digit_back d all.0 in
    (ap (λ x. x ∷ map digit_value (map digit_char ds)) back ∙ ap (λ xs. d ∷ xs) rest.0, (omega (arith, all.0), rest.1))

pub size_text_step : (n : ℕ) → 0 < n → size_text n ≡ size_text (n / 16) ++ digit_char (n % 16) ∷ []
size_text_step n some = ap (map digit_char) (digits_of_step 16 n (omega arith) some) ∙ map-append digit_char (digits_of 16 (n / 16)) (n % 16 ∷ [])

size_line : (n : ℕ) → 0 < n → n < 2 ^ 40 → IsSizeLine (size_text n) n
size_line n some small =
    let ds : List ℕ = digits_of 16 n in
    let back = digits_back ds (all_below_base_digits_of 16 n (omega arith)) in
    let len : length (size_text n) ≡ length ds = length-map ds digit_char in
    let few : length ds ≤ 10 = length-digits_of-le 16 10 n (omega arith) (omega arith) in
    let one : 0 < length (size_text n) = omega (arith, ap length (size_text_step n some), length-append (size_text (n / 16)) (digit_char (n % 16) ∷ [])) in
    record {
      digits = size_text n;
      extension = [];
      splits = sym (append-nil (size_text n));
      numeral = (one, back.1);
      writes = digits_value_is 16 (size_text n) ∙ ap (number_from_digits 16) back.0 ∙ number_digits_of 16 n (omega arith);
      few = omega arith;
      extends = tt;
      short = omega arith;
    }

chunk_of : List ℕ → Chunk
chunk_of piece = record { line = size_text (length piece); bytes = piece }

abbrev chunks_of : List (List ℕ) → List Chunk
chunks_of [] = []
chunks_of (piece ∷ pieces) = chunk_of piece ∷ chunks_of pieces

are_chunks : (pieces : List (List ℕ)) → AllByRecursion IsPiece pieces → AllByRecursion IsChunk (chunks_of pieces)
unfolding chunk_of
are_chunks [] all = tt
are_chunks (piece ∷ pieces) all =
    let p : IsPiece piece = all.0 in
    (record { sized = size_line (length piece) p.some p.short; some = p.some }, are_chunks pieces all.1)

chunks_text : (pieces : List (List ℕ)) → flat_map written_chunk pieces ≡ flat_map chunk_text (chunks_of pieces)
unfolding chunk_of
chunks_text [] = refl
chunks_text (piece ∷ pieces) = ap (λ x. written_chunk piece ++ x) (chunks_text pieces)

chunks_bytes : (pieces : List (List ℕ)) → flat_map (λ piece. piece) pieces ≡ flat_map (λ c. c.bytes) (chunks_of pieces)
unfolding chunk_of
chunks_bytes [] = refl
chunks_bytes (piece ∷ pieces) = ap (λ x. piece ++ x) (chunks_bytes pieces)

zero_line : IsSizeLine (48 ∷ []) 0
zero_line = record { digits = 48 ∷ []; extension = []; splits = refl; numeral = (omega arith, (omega arith, tt)); writes = refl; few = omega arith; extends = tt; short = omega arith }

last_text : (chunks : List ℕ) → chunks ++ written_last ≡ chunks ++ (48 ∷ []) ++ (13 ∷ 10 ∷ []) ++ [] ++ (13 ∷ 10 ∷ [])
last_text chunks = simp append_assoc

-- what is written in any pieces is a body whose content is the pieces
pub is_written : (pieces : List (List ℕ)) → AllByRecursion IsPiece pieces → IsBody framed.Chunked (written_body pieces) (flat_map (λ piece. piece) pieces)
is_written pieces all = record {
  chunks = chunks_of pieces;
  last = 48 ∷ [];
  trailers = [];
  whole = ap (λ x. x ++ written_last) (chunks_text pieces) ∙ last_text (flat_map chunk_text (chunks_of pieces));
  found = chunks_bytes pieces;
  each = are_chunks pieces all;
  ends = zero_line;
  trails = tt;
  limit = omega arith;
}

-- parts of a text

on_err : {T E : Type 0} (r : Result T E) (P : Type 0) → P → OnErr r P
on_err (Ok v) P p = tt
on_err (Err e) P p = p

part_at : (old new a b text : List ℕ) → new ≡ old ++ a → a ++ b ≡ text → 0 < length b → AppendsPart old new text
part_at old new a b text e whole some = record {
  len = length a;
  part = omega (arith, length-append a b, ap length whole);
  appended = e ∙ ap (λ x. old ++ x) (sym (take_at a b (length a) refl) ∙ ap (take (length a)) whole);
}

part_more : (old new a b text : List ℕ) → AppendsPart old new a → a ++ b ≡ text → AppendsPart old new text
part_more old new a b text p whole = record {
  len = p.len;
  part = omega (arith, p.part, length-append a b, ap length whole);
  appended = p.appended ∙ ap (λ x. old ++ x) (sym (take-append-le p.len a b (omega (arith, p.part))) ∙ ap (take p.len) whole);
}

-- a size: its front digits, and the last

pub size_failed : {T E : Type 0} (r : Result T E) (old new : List ℕ) (n : ℕ) → 0 < n → AppendsPart old new (size_text (n / 16)) → OnErr r (AppendsPart old new (size_text n))
size_failed r old new n some p = on_err r (AppendsPart old new (size_text n))
    (part_more old new (size_text (n / 16)) (digit_char (n % 16) ∷ []) (size_text n) p (sym (size_text_step n some)))

pub digit_failed : {T E : Type 0} (r : Result T E) (old new : List ℕ) (n : ℕ) → 0 < n → new ≡ old ++ size_text (n / 16) → OnErr r (AppendsPart old new (size_text n))
digit_failed r old new n some e = on_err r (AppendsPart old new (size_text n))
    (part_at old new (size_text (n / 16)) (digit_char (n % 16) ∷ []) (size_text n) e (sym (size_text_step n some)) (omega arith))

pub size_whole : (old mid new : List ℕ) (n d : ℕ) → 0 < n → mid ≡ old ++ size_text (n / 16) → d ≡ digit_char (n % 16) → new ≡ mid ++ d ∷ [] → new ≡ old ++ size_text n
size_whole old mid new n d some front digit e =
    e ∙ ap (λ x. mid ++ x ∷ []) digit ∙ ap (λ x. x ++ digit_char (n % 16) ∷ []) front
    ∙ append_assoc old (size_text (n / 16)) (digit_char (n % 16) ∷ []) ∙ ap (λ x. old ++ x) (sym (size_text_step n some))

-- a chunk: its size, CRLF, its bytes, CRLF

chunk_split : (size piece : List ℕ) → size ++ ((13 ∷ 10 ∷ []) ++ piece ++ (13 ∷ 10 ∷ [])) ≡ size ++ (13 ∷ 10 ∷ []) ++ piece ++ (13 ∷ 10 ∷ [])
chunk_split size piece = simp append_assoc

pub line_failed : {T E : Type 0} (r : Result T E) (old new piece : List ℕ) → AppendsPart old new (size_text (length piece)) → OnErr r (AppendsPart old new (written_chunk piece))
line_failed r old new piece p = on_err r (AppendsPart old new (written_chunk piece))
    (part_more old new (size_text (length piece)) ((13 ∷ 10 ∷ []) ++ piece ++ (13 ∷ 10 ∷ [])) (written_chunk piece) p (chunk_split (size_text (length piece)) piece))

pub line_end_failed : {T E : Type 0} (r : Result T E) (old new piece : List ℕ) → new ≡ old ++ size_text (length piece) → OnErr r (AppendsPart old new (written_chunk piece))
line_end_failed r old new piece e = on_err r (AppendsPart old new (written_chunk piece))
    (part_at old new (size_text (length piece)) ((13 ∷ 10 ∷ []) ++ piece ++ (13 ∷ 10 ∷ [])) (written_chunk piece) e (chunk_split (size_text (length piece)) piece) (omega arith))

bytes_split : (size piece : List ℕ) → (size ++ (13 ∷ 10 ∷ [])) ++ (piece ++ (13 ∷ 10 ∷ [])) ≡ size ++ (13 ∷ 10 ∷ []) ++ piece ++ (13 ∷ 10 ∷ [])
bytes_split size piece = simp append_assoc

pub bytes_failed : {T E : Type 0} (r : Result T E) (old mid new piece : List ℕ) → mid ≡ old ++ size_text (length piece) → new ≡ mid ++ (13 ∷ 10 ∷ []) → OnErr r (AppendsPart old new (written_chunk piece))
bytes_failed r old mid new piece size e = on_err r (AppendsPart old new (written_chunk piece))
    (part_at old new (size_text (length piece) ++ (13 ∷ 10 ∷ [])) (piece ++ (13 ∷ 10 ∷ [])) (written_chunk piece)
    (e ∙ ap (λ x. x ++ (13 ∷ 10 ∷ [])) size ∙ append_assoc old (size_text (length piece)) (13 ∷ 10 ∷ []))
    (bytes_split (size_text (length piece)) piece) (omega (arith, length-append piece (13 ∷ 10 ∷ []))))

pub chunk_end_failed : {T E : Type 0} (r : Result T E) (old mid line new piece : List ℕ) → mid ≡ old ++ size_text (length piece) → line ≡ mid ++ (13 ∷ 10 ∷ []) → new ≡ line ++ piece
    → OnErr r (AppendsPart old new (written_chunk piece))
chunk_end_failed r old mid line new piece size lined e = on_err r (AppendsPart old new (written_chunk piece))
    (part_at old new (size_text (length piece) ++ (13 ∷ 10 ∷ []) ++ piece) (13 ∷ 10 ∷ []) (written_chunk piece)
    (e ∙ ap (λ x. x ++ piece) (lined ∙ ap (λ x. x ++ (13 ∷ 10 ∷ [])) size) ∙ joined old (size_text (length piece)) piece) refl (omega arith))
  where
    joined : (old size piece : List ℕ) → old ++ size ++ (13 ∷ 10 ∷ []) ++ piece ≡ old ++ (size ++ (13 ∷ 10 ∷ []) ++ piece)
    joined old size piece = simp append_assoc
