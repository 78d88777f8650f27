-- What completes a body from each phase, and that a byte more is in it: what is read to its end is a
-- body of the grammar.
use Rattle.std.proofs.Common.{◌≡◌, ◌≢◌, ℕ, zero, suc, ◌+◌, ◌-◌, ◌*◌, ◌^◌, ◌<◌, ◌≤◌, Bool, true, false, ◌&&◌, List, [], ◌∷◌, ◌++◌, length, refl, sym, ◌∙◌, ap, subst, arith, append_assoc, ◌⊎◌, inl, inr, ◌==◌, nat_le, nat_lt, if◌then◌else◌, length-append}
use Rattle.std.specs.List.{flat_map, AllByRecursion}
use Rattle.std.specs.Char.{digit_value}
use Rattle.std.specs.Str.Parse.{AllDigits, digits_value_after}
use Rattle.body_codec.specs.Bytes.{hex_value, is_hex_digit, is_name_byte, is_value_byte}
use Rattle.body_codec.specs.Reading.{start, after, after_digits, after_size, after_extension, after_name_byte, after_value_byte, given, run, content, may_end, IsPhase}
use Rattle.body_codec.specs.Grammar.{IsExtensionByte, IsExtension, IsSizeLine, Chunk, Trailer, IsTrailer, chunk_text, trailer_text, IsChunked, IsBody}
use Rattle.body_codec.proofs.Runs.{size_bound, size_more}
use Rattle.body_codec.specs.declared.reading.Framing.{Framing}
use Rattle.body_codec.specs.declared.reading.Framing.TheVariants as framed
use Rattle.body_codec.specs.declared.phases.Phase.{Phase}
use Rattle.body_codec.specs.declared.phases.Phase.TheVariants.{Length, ToEnd, Size, Extension, SizeLf, Data, DataCr, DataLf, TrailerStart, TrailerName, TrailerValue, TrailerLf, EndLf, Done, Bad}

record Trails (used : ℕ) (bs c : List ℕ) : Type 0 where
  trailers : List Trailer
  whole : bs ≡ flat_map trailer_text trailers ++ 13 ∷ 10 ∷ []
  each : AllByRecursion IsTrailer trailers
  limit : used + length (flat_map trailer_text trailers) ≤ 8192
  none : c ≡ []

record Lf (Q : List ℕ → List ℕ → Type 0) (bs c : List ℕ) : Type 0 where
  tail : List ℕ
  whole : bs ≡ 10 ∷ tail
  next : Q tail c

record CrLf (Q : List ℕ → List ℕ → Type 0) (bs c : List ℕ) : Type 0 where
  tail : List ℕ
  whole : bs ≡ 13 ∷ 10 ∷ tail
  next : Q tail c

record Valued (used : ℕ) (bs c : List ℕ) : Type 0 where
  value : List ℕ
  tail : List ℕ
  whole : bs ≡ value ++ 13 ∷ 10 ∷ tail
  all : AllByRecursion (λ b. is_value_byte b ≡ true) value
  next : Trails (used + length value + 2) tail c

record Named (used : ℕ) (bs c : List ℕ) : Type 0 where
  name : List ℕ
  tail : List ℕ
  whole : bs ≡ name ++ 58 ∷ tail
  all : AllByRecursion (λ b. is_name_byte b ≡ true) name
  next : Valued (used + length name + 1) tail c

record Holds (left : ℕ) (bs c : List ℕ) : Type 0 where
  bytes : List ℕ
  tail : List ℕ
  more : List ℕ
  size : length bytes ≡ left
  whole : bs ≡ bytes ++ 13 ∷ 10 ∷ tail
  found : c ≡ bytes ++ more
  next : IsChunked tail more

abbrev Sized : ℕ → List ℕ → List ℕ → Type 0
Sized zero bs c = Trails 0 bs c
Sized (suc n) bs c = Holds (suc n) bs c

record Extends (size line : ℕ) (bs c : List ℕ) : Type 0 where
  ext : List ℕ
  tail : List ℕ
  whole : bs ≡ ext ++ 13 ∷ 10 ∷ tail
  all : AllByRecursion IsExtensionByte ext
  short : line + length ext ≤ 256
  next : Sized size tail c

record Numbered (digits value : ℕ) (bs c : List ℕ) : Type 0 where
  more : List ℕ
  ext : List ℕ
  tail : List ℕ
  size : ℕ
  whole : bs ≡ more ++ ext ++ 13 ∷ 10 ∷ tail
  all : AllDigits 16 more
  writes : digits_value_after 16 value more ≡ size
  some : 0 < digits + length more
  few : digits + length more ≤ 10
  extends : IsExtension ext
  short : digits + length more + length ext ≤ 256
  next : Sized size tail c

abbrev Rest : Phase → List ℕ → List ℕ → Type 0
Rest (Length left) bs c = (length bs ≡ left) × (c ≡ bs)
Rest ToEnd bs c = c ≡ bs
Rest (Size digits size) bs c = Numbered digits size bs c
Rest (Extension size line) bs c = Extends size line bs c
Rest (SizeLf size) bs c = Lf (Sized size) bs c
Rest (Data left) bs c = Holds left bs c
Rest DataCr bs c = CrLf IsChunked bs c
Rest DataLf bs c = Lf IsChunked bs c
Rest (TrailerStart used) bs c = Trails used bs c
Rest (TrailerName used) bs c = Named used bs c
Rest (TrailerValue used) bs c = Valued used bs c
Rest (TrailerLf used) bs c = Lf (Trails (used + 1)) bs c
Rest EndLf bs c = (bs ≡ 10 ∷ []) × (c ≡ [])
Rest Done bs c = (bs ≡ []) × (c ≡ [])
Rest Bad bs c = ⊥

chunk_step : (line bytes chunks last trails : List ℕ)
    → line ++ 13 ∷ 10 ∷ (bytes ++ 13 ∷ 10 ∷ (chunks ++ last ++ (13 ∷ 10 ∷ []) ++ trails ++ (13 ∷ 10 ∷ [])))
    ≡ (line ++ (13 ∷ 10 ∷ []) ++ bytes ++ (13 ∷ 10 ∷ []) ++ chunks) ++ last ++ (13 ∷ 10 ∷ []) ++ trails ++ (13 ∷ 10 ∷ [])
chunk_step line bytes chunks last trails = simp append_assoc

body_more : (line bs c : List ℕ) (size : ℕ) → 0 < size → IsSizeLine line size → Holds size bs c → IsChunked (line ++ 13 ∷ 10 ∷ bs) c
body_more line bs c size pos sized h =
    let b : IsChunked h.tail h.more = h.next in
    let chunk : Chunk = record { line = line; bytes = h.bytes } in
    record {
      chunks = chunk ∷ b.chunks;
      last = b.last;
      trailers = b.trailers;
      whole = ap (λ x. line ++ 13 ∷ 10 ∷ x) (h.whole ∙ ap (λ x. h.bytes ++ 13 ∷ 10 ∷ x) b.whole)
          ∙ chunk_step line h.bytes (flat_map chunk_text b.chunks) b.last (flat_map trailer_text b.trailers);
      found = h.found ∙ ap (λ x. h.bytes ++ x) b.found;
      each = (record { sized = subst (λ n. IsSizeLine line n) (sym h.size) sized; some = omega (arith, h.size) }, b.each);
      ends = b.ends;
      trails = b.trails;
      limit = b.limit;
    }

end_step : (line trails : List ℕ) → line ++ 13 ∷ 10 ∷ (trails ++ 13 ∷ 10 ∷ []) ≡ [] ++ line ++ (13 ∷ 10 ∷ []) ++ trails ++ (13 ∷ 10 ∷ [])
end_step line trails = simp append_assoc

body_end : (line bs c : List ℕ) → IsSizeLine line 0 → Trails 0 bs c → IsChunked (line ++ 13 ∷ 10 ∷ bs) c
body_end line bs c sized t = record {
  chunks = [];
  last = line;
  trailers = t.trailers;
  whole = ap (λ x. line ++ 13 ∷ 10 ∷ x) t.whole ∙ end_step line (flat_map trailer_text t.trailers);
  found = t.none;
  each = tt;
  ends = sized;
  trails = t.each;
  limit = omega (arith, t.limit);
}

body_sized : (line bs c : List ℕ) (size : ℕ) → IsSizeLine line size → Sized size bs c → IsChunked (line ++ 13 ∷ 10 ∷ bs) c
body_sized line bs c zero sized t = body_end line bs c sized t
body_sized line bs c (suc n) sized t = body_more line bs c (suc n) (omega arith) sized t

-- a body from its first size line
body_of : (bs c : List ℕ) → Numbered 0 0 bs c → IsChunked bs c
body_of bs c n =
    let sized : IsSizeLine (n.more ++ n.ext) n.size = record {
      digits = n.more;
      extension = n.ext;
      splits = refl;
      numeral = (omega (arith, n.some), n.all);
      writes = n.writes;
      few = omega (arith, n.few);
      extends = n.extends;
      short = omega (arith, n.short, length-append n.more n.ext);
    } in
    subst (λ x. IsChunked x c) (sym n.whole) (body_sized (n.more ++ n.ext) n.tail c n.size sized n.next)

by_eq : (a b : ℕ) → (a == b) ≡ true → a ≡ b
by_eq a b e = grind arith

not_eq : (a b : ℕ) → (a == b) ≡ false → a ≢ b
not_eq a b e = grind arith

-- a choice by a test
abbrev Chosen : Bool → Phase → Phase → List ℕ → List ℕ → Type 0
Chosen b x y bs c = ((b ≡ true) × Rest x bs c) ⊎ ((b ≡ false) × Rest y bs c)

choose : (b : Bool) (x y : Phase) (bs c : List ℕ) → Rest (if b then x else y) bs c → Chosen b x y bs c
choose true x y bs c r = inl (refl, r)
choose false x y bs c r = inr (refl, r)

both : (a b : Bool) → (a && b) ≡ true → (a ≡ true) × (b ≡ true)
both true b e = (refl, e)
both false b e = cc

le_of : (a b : ℕ) → nat_le a b ≡ true → a ≤ b
le_of a b e = grind arith

lt_of : (a b : ℕ) → nat_lt a b ≡ true → a < b
lt_of a b e = grind arith

-- the byte and then what is left
step_lf : (b : ℕ) (Q : List ℕ → List ℕ → Type 0) (x : Phase) (bs c : List ℕ) → (Rest x bs c → Q bs c) → Rest (if b == 10 then x else Bad) bs c → Lf Q (b ∷ bs) c
step_lf b Q x bs c f r = elim (choose (b == 10) x Bad bs c r) [
  | inl p ↦ record { tail = bs; whole = ap (λ k. k ∷ bs) (by_eq b 10 p.0); next = f p.1 }
  | inr p ↦ absurd p.1
]

suc_zero : (n : ℕ) → (suc n == 0) ≡ true → ⊥
suc_zero n e = let z : suc n ≡ 0 = by_eq (suc n) 0 e in omega arith

sized_from : (size : ℕ) (bs c : List ℕ) → Rest (if size == 0 then TrailerStart 0 else Data size) bs c → Sized size bs c
sized_from zero bs c r = r
sized_from (suc n) bs c r = elim (choose (suc n == 0) (TrailerStart 0) (Data (suc n)) bs c r) [ inl p ↦ absurd (suc_zero n p.0) | inr p ↦ p.1 ]

step_length : (left b : ℕ) (bs c : List ℕ) → Rest (if left == 1 then Done else Length (left - 1)) bs c → 0 < left → (length (b ∷ bs) ≡ left) × (b ∷ c ≡ b ∷ bs)
step_length left b bs c r pos = elim (choose (left == 1) Done (Length (left - 1)) bs c r) [
  | inl p ↦ let one : left ≡ 1 = by_eq left 1 p.0 in let none : length bs ≡ 0 = ap length p.1.0 in (omega arith, ap (λ x. b ∷ x) (p.1.1 ∙ sym p.1.0))
  | inr p ↦ let size : length bs ≡ left - 1 = p.1.0 in (omega arith, ap (λ x. b ∷ x) p.1.1)
]

step_data : (left b : ℕ) (bs c : List ℕ) → Rest (if left == 1 then DataCr else Data (left - 1)) bs c → 0 < left → Holds left (b ∷ bs) (b ∷ c)
step_data left b bs c r pos = elim (choose (left == 1) DataCr (Data (left - 1)) bs c r) [
  | inl p ↦ let q : CrLf IsChunked bs c = p.1 in let one : left ≡ 1 = by_eq left 1 p.0 in
      record { bytes = b ∷ []; tail = q.tail; more = c; size = sym one; whole = ap (λ x. b ∷ x) q.whole; found = refl; next = q.next }
  | inr p ↦ let q : Holds (left - 1) bs c = p.1 in
      record { bytes = b ∷ q.bytes; tail = q.tail; more = q.more; size = omega (arith, q.size); whole = ap (λ x. b ∷ x) q.whole; found = ap (λ x. b ∷ x) q.found; next = q.next }
]

step_data_cr : (b : ℕ) (bs c : List ℕ) → Rest (if b == 13 then DataLf else Bad) bs c → CrLf IsChunked (b ∷ bs) c
step_data_cr b bs c r = elim (choose (b == 13) DataLf Bad bs c r) [
  | inl p ↦ let q : Lf IsChunked bs c = p.1 in record { tail = q.tail; whole = ap (λ k. k ∷ bs) (by_eq b 13 p.0) ∙ ap (λ x. 13 ∷ x) q.whole; next = q.next }
  | inr p ↦ absurd p.1
]

step_extension : (size line b : ℕ) (bs c : List ℕ) → Rest (after_extension size line b) bs c → line ≤ 256 → Extends size line (b ∷ bs) c
step_extension size line b bs c r le = elim (choose (b == 13) (SizeLf size) (if b == 10 then Bad else if nat_lt line 256 then Extension size (line + 1) else Bad) bs c r) [
  | inl p ↦ let q : Lf (Sized size) bs c = p.1 in
      record { ext = []; tail = q.tail; whole = ap (λ k. k ∷ bs) (by_eq b 13 p.0) ∙ ap (λ x. 13 ∷ x) q.whole; all = tt; short = omega arith; next = q.next }
  | inr p ↦ elim (choose (b == 10) Bad (if nat_lt line 256 then Extension size (line + 1) else Bad) bs c p.1) [
    | inl q ↦ absurd q.1
    | inr q ↦ elim (choose (nat_lt line 256) (Extension size (line + 1)) Bad bs c q.1) [
      | inl t ↦ let x : Extends size (line + 1) bs c = t.1 in
          record { ext = b ∷ x.ext; tail = x.tail; whole = ap (λ y. b ∷ y) x.whole; all = ((not_eq b 13 p.0, not_eq b 10 q.0), x.all); short = omega (arith, x.short); next = x.next }
      | inr t ↦ absurd t.1
    ]
  ]
]

hex_digit_of : (b : ℕ) → is_hex_digit b ≡ true → digit_value b < 16
unfolding hex_value
hex_digit_of b e = lt_of (digit_value b) 16 e

numbered_digit : (digits size b : ℕ) (bs c : List ℕ) → digit_value b < 16 → Numbered (digits + 1) (size * 16 + hex_value b) bs c → Numbered digits size (b ∷ bs) c
unfolding hex_value
numbered_digit digits size b bs c small q =
    record {
      more = b ∷ q.more;
      ext = q.ext;
      tail = q.tail;
      size = q.size;
      whole = ap (λ x. b ∷ x) q.whole;
      all = (small, q.all);
      writes = q.writes;
      some = omega arith;
      few = omega (arith, q.few);
      extends = q.extends;
      short = omega (arith, q.short);
      next = q.next;
    }

step_digits : (digits size b : ℕ) (bs c : List ℕ) → digits ≤ 10 → Rest (after_digits digits size b) bs c → Numbered digits size (b ∷ bs) c
step_digits digits size b bs c le r = elim (choose (digits == 0) Bad (if b == 13 then SizeLf size else if b == 59 then Extension size (digits + 1) else Bad) bs c r) [
  | inl p ↦ absurd p.1
  | inr p ↦ elim (choose (b == 13) (SizeLf size) (if b == 59 then Extension size (digits + 1) else Bad) bs c p.1) [
    | inl q ↦ let x : Lf (Sized size) bs c = q.1 in
        record {
          more = [];
          ext = [];
          tail = x.tail;
          size = size;
          whole = ap (λ k. k ∷ bs) (by_eq b 13 q.0) ∙ ap (λ y. 13 ∷ y) x.whole;
          all = tt;
          writes = refl;
          some = omega (arith, not_eq digits 0 p.0);
          few = omega arith;
          extends = tt;
          short = omega arith;
          next = x.next;
        }
    | inr q ↦ elim (choose (b == 59) (Extension size (digits + 1)) Bad bs c q.1) [
      | inl t ↦ let x : Extends size (digits + 1) bs c = t.1 in
          record {
            more = [];
            ext = b ∷ x.ext;
            tail = x.tail;
            size = size;
            whole = ap (λ y. b ∷ y) x.whole;
            all = tt;
            writes = refl;
            some = omega (arith, not_eq digits 0 p.0);
            few = omega arith;
            extends = (by_eq b 59 t.0, x.all);
            short = omega (arith, x.short);
            next = x.next;
          }
      | inr t ↦ absurd t.1
    ]
  ]
]

step_size : (digits size b : ℕ) (bs c : List ℕ) → digits ≤ 10 → Rest (after_size digits size b) bs c → Numbered digits size (b ∷ bs) c
step_size digits size b bs c le r = elim (choose (is_hex_digit b) (if nat_lt digits 10 then Size (digits + 1) (size * 16 + hex_value b) else Bad) (after_digits digits size b) bs c r) [
  | inl p ↦ elim (choose (nat_lt digits 10) (Size (digits + 1) (size * 16 + hex_value b)) Bad bs c p.1) [
    | inl q ↦ numbered_digit digits size b bs c (hex_digit_of b p.0) q.1
    | inr q ↦ absurd q.1
  ]
  | inr p ↦ step_digits digits size b bs c le p.1
]

trailers_none : (used : ℕ) (bs c : List ℕ) → used ≤ 8192 → bs ≡ 13 ∷ 10 ∷ [] → c ≡ [] → Trails used bs c
trailers_none used bs c le e n = record { trailers = []; whole = e; each = tt; limit = omega arith; none = n }

trailer_flat : (name value trails : List ℕ) → name ++ 58 ∷ (value ++ 13 ∷ 10 ∷ (trails ++ 13 ∷ 10 ∷ [])) ≡ (name ++ (58 ∷ []) ++ value ++ (13 ∷ 10 ∷ []) ++ trails) ++ 13 ∷ 10 ∷ []
trailer_flat name value trails = simp append_assoc

pub trailer_length : (name value : List ℕ) → length (name ++ (58 ∷ []) ++ value ++ (13 ∷ 10 ∷ [])) ≡ length name + length value + 3
trailer_length name value = omega (arith, length-append (name ++ (58 ∷ []) ++ value) (13 ∷ 10 ∷ []), length-append (name ++ (58 ∷ [])) value, length-append name (58 ∷ []))

trailer_more : (used b : ℕ) (bs c : List ℕ) → is_name_byte b ≡ true → Named (used + 1) bs c → Trails used (b ∷ bs) c
trailer_more used b bs c ok n =
    let v : Valued (used + 1 + length n.name + 1) n.tail c = n.next in
    let t : Trails (used + 1 + length n.name + 1 + length v.value + 2) v.tail c = v.next in
    let trailer : Trailer = record { name = b ∷ n.name; value = v.value } in
    let len : length (trailer_text trailer) ≡ suc (length n.name) + length v.value + 3 = trailer_length (b ∷ n.name) v.value in
    record {
      trailers = trailer ∷ t.trailers;
      whole = ap (λ x. b ∷ x) (n.whole ∙ ap (λ x. n.name ++ 58 ∷ x) (v.whole ∙ ap (λ x. v.value ++ 13 ∷ 10 ∷ x) t.whole))
          ∙ trailer_flat (b ∷ n.name) v.value (flat_map trailer_text t.trailers);
      each = (record { some = omega arith; named = (ok, n.all); valued = v.all }, t.each);
      limit = omega (arith, t.limit, len, length-append (trailer_text trailer) (flat_map trailer_text t.trailers));
      none = t.none;
    }

step_name_byte : (used b : ℕ) (bs c : List ℕ) → Rest (after_name_byte used b) bs c → (is_name_byte b ≡ true) × Named (used + 1) bs c
step_name_byte used b bs c r = elim (choose (is_name_byte b && nat_le (used + 4) 8192) (TrailerName (used + 1)) Bad bs c r) [
  | inl q ↦ ((both (is_name_byte b) (nat_le (used + 4) 8192) q.0).0, q.1)
  | inr q ↦ absurd q.1
]

step_trailer : (used b : ℕ) (bs c : List ℕ) → Rest (if b == 13 then EndLf else after_name_byte used b) bs c → used ≤ 8192 → Trails used (b ∷ bs) c
step_trailer used b bs c r le = elim (choose (b == 13) EndLf (after_name_byte used b) bs c r) [
  | inl p ↦ trailers_none used (b ∷ bs) c le (ap (λ k. k ∷ bs) (by_eq b 13 p.0) ∙ ap (λ x. 13 ∷ x) p.1.0) p.1.1
  | inr p ↦ let q = step_name_byte used b bs c p.1 in trailer_more used b bs c q.0 q.1
]

trails_at : (m n : ℕ) (bs c : List ℕ) → m ≡ n → Trails m bs c → Trails n bs c
trails_at m n bs c e t = subst (λ k. Trails k bs c) e t

valued_at : (m n : ℕ) (bs c : List ℕ) → m ≡ n → Valued m bs c → Valued n bs c
valued_at m n bs c e t = subst (λ k. Valued k bs c) e t

step_name : (used b : ℕ) (bs c : List ℕ) → Rest (if b == 58 then TrailerValue (used + 1) else after_name_byte used b) bs c → Named used (b ∷ bs) c
step_name used b bs c r = elim (choose (b == 58) (TrailerValue (used + 1)) (after_name_byte used b) bs c r) [
  | inl p ↦ record { name = []; tail = bs; whole = ap (λ k. k ∷ bs) (by_eq b 58 p.0); all = tt; next = valued_at (used + 1) (used + 0 + 1) bs c (omega arith) p.1 }
  | inr p ↦ let q = step_name_byte used b bs c p.1 in
      let n : Named (used + 1) bs c = q.1 in
      record {
        name = b ∷ n.name;
        tail = n.tail;
        whole = ap (λ x. b ∷ x) n.whole;
        all = (q.0, n.all);
        next = valued_at (used + 1 + length n.name + 1) (used + suc (length n.name) + 1) n.tail c (omega arith) n.next;
      }
]

step_value : (used b : ℕ) (bs c : List ℕ) → Rest (if b == 13 then TrailerLf (used + 1) else after_value_byte used b) bs c → Valued used (b ∷ bs) c
step_value used b bs c r = elim (choose (b == 13) (TrailerLf (used + 1)) (after_value_byte used b) bs c r) [
  | inl p ↦ let q : Lf (Trails (used + 1 + 1)) bs c = p.1 in
      record { value = []; tail = q.tail; whole = ap (λ k. k ∷ bs) (by_eq b 13 p.0) ∙ ap (λ x. 13 ∷ x) q.whole; all = tt; next = trails_at (used + 1 + 1) (used + 0 + 2) q.tail c (omega arith) q.next }
  | inr p ↦ elim (choose (is_value_byte b && nat_le (used + 3) 8192) (TrailerValue (used + 1)) Bad bs c p.1) [
    | inl q ↦ let n : Valued (used + 1) bs c = q.1 in
        record {
          value = b ∷ n.value;
          tail = n.tail;
          whole = ap (λ x. b ∷ x) n.whole;
          all = ((both (is_value_byte b) (nat_le (used + 3) 8192) q.0).0, n.all);
          next = trails_at (used + 1 + length n.value + 2) (used + suc (length n.value) + 2) n.tail c (omega arith) n.next;
        }
    | inr q ↦ absurd q.1
  ]
]

step_end : (b : ℕ) (bs c : List ℕ) → Rest (if b == 10 then Done else Bad) bs c → (b ∷ bs ≡ 10 ∷ []) × (c ≡ [])
step_end b bs c r = elim (choose (b == 10) Done Bad bs c r) [
  | inl p ↦ (ap (λ k. k ∷ bs) (by_eq b 10 p.0) ∙ ap (λ x. 10 ∷ x) p.1.0, p.1.1)
  | inr p ↦ absurd p.1
]

-- a byte more
step : (p : Phase) (b : ℕ) (bs c : List ℕ) → IsPhase p → Rest (after p b) bs c → Rest p (b ∷ bs) (given p b ++ c)
step (Length left) b bs c v r = step_length left b bs c r v
step ToEnd b bs c v r = ap (λ x. b ∷ x) r
step (Size digits size) b bs c v r = step_size digits size b bs c v.0 r
step (Extension size line) b bs c v r = step_extension size line b bs c r v.1
step (SizeLf size) b bs c v r = step_lf b (Sized size) (if size == 0 then TrailerStart 0 else Data size) bs c (sized_from size bs c) r
step (Data left) b bs c v r = step_data left b bs c r v.0
step DataCr b bs c v r = step_data_cr b bs c r
step DataLf b bs c v r = step_lf b IsChunked (Size 0 0) bs c (body_of bs c) r
step (TrailerStart used) b bs c v r = step_trailer used b bs c r v
step (TrailerName used) b bs c v r = step_name used b bs c r
step (TrailerValue used) b bs c v r = step_value used b bs c r
step (TrailerLf used) b bs c v r = step_lf b (Trails (used + 1)) (TrailerStart (used + 1)) bs c (λ t. t) r
step EndLf b bs c v r = step_end b bs c r
step Done b bs c v r = absurd r
step Bad b bs c v r = absurd r

-- the numbers of a phase stay in their range

valid_if : (b : Bool) (x y : Phase) → (b ≡ true → IsPhase x) → (b ≡ false → IsPhase y) → IsPhase (if b then x else y)
valid_if true x y f g = f refl
valid_if false x y f g = g refl

valid_size : (digits size b : ℕ) → digits ≤ 10 → size < 16 ^ digits → IsPhase (after_size digits size b)
valid_size digits size b le lt =
    valid_if (is_hex_digit b) (if nat_lt digits 10 then Size (digits + 1) (size * 16 + hex_value b) else Bad) (after_digits digits size b)
    (λ e. valid_if (nat_lt digits 10) (Size (digits + 1) (size * 16 + hex_value b)) Bad
    (λ f. let below : digits < 10 = lt_of digits 10 f in (omega arith, size_more digits size (hex_value b) lt (lt_of (hex_value b) 16 e))) (λ f. tt))
    (λ e. valid_if (digits == 0) Bad (if b == 13 then SizeLf size else if b == 59 then Extension size (digits + 1) else Bad) (λ f. tt)
    (λ f. valid_if (b == 13) (SizeLf size) (if b == 59 then Extension size (digits + 1) else Bad) (λ g. size_bound digits size le lt)
    (λ g. valid_if (b == 59) (Extension size (digits + 1)) Bad (λ h. (size_bound digits size le lt, omega arith)) (λ h. tt))))

valid_name_byte : (used b : ℕ) → IsPhase (after_name_byte used b)
valid_name_byte used b = valid_if (is_name_byte b && nat_le (used + 4) 8192) (TrailerName (used + 1)) Bad
    (λ f. let n : used + 4 ≤ 8192 = le_of (used + 4) 8192 (both (is_name_byte b) (nat_le (used + 4) 8192) f).1 in omega arith) (λ f. tt)

valid_value_byte : (used b : ℕ) → IsPhase (after_value_byte used b)
valid_value_byte used b = valid_if (is_value_byte b && nat_le (used + 3) 8192) (TrailerValue (used + 1)) Bad
    (λ f. let n : used + 3 ≤ 8192 = le_of (used + 3) 8192 (both (is_value_byte b) (nat_le (used + 3) 8192) f).1 in omega arith) (λ f. tt)

pub valid_after : (p : Phase) (b : ℕ) → IsPhase p → IsPhase (after p b)
valid_after (Length left) b v =
    valid_if (left == 1) Done (Length (left - 1)) (λ e. tt) (λ e. let n : left ≢ 1 = not_eq left 1 e in omega arith)
valid_after ToEnd b v = tt
valid_after (Size digits size) b v = valid_size digits size b v.0 v.1
valid_after (Extension size line) b v =
    valid_if (b == 13) (SizeLf size) (if b == 10 then Bad else if nat_lt line 256 then Extension size (line + 1) else Bad) (λ e. v.0)
    (λ e. valid_if (b == 10) Bad (if nat_lt line 256 then Extension size (line + 1) else Bad) (λ f. tt)
    (λ f. valid_if (nat_lt line 256) (Extension size (line + 1)) Bad (λ g. let h : line < 256 = lt_of line 256 g in (v.0, omega arith)) (λ g. tt)))
valid_after (SizeLf size) b v =
    valid_if (b == 10) (if size == 0 then TrailerStart 0 else Data size) Bad
    (λ e. valid_if (size == 0) (TrailerStart 0) (Data size) (λ f. omega arith) (λ f. let n : size ≢ 0 = not_eq size 0 f in (omega arith, v))) (λ e. tt)
valid_after (Data left) b v =
    valid_if (left == 1) DataCr (Data (left - 1)) (λ e. tt) (λ e. let n : left ≢ 1 = not_eq left 1 e in let p : 0 < left = v.0 in let q : left < 2 ^ 40 = v.1 in (omega arith, omega arith))
valid_after DataCr b v = valid_if (b == 13) DataLf Bad (λ e. tt) (λ e. tt)
valid_after DataLf b v = valid_if (b == 10) (Size 0 0) Bad (λ e. (omega arith, omega arith)) (λ e. tt)
valid_after (TrailerStart used) b v = valid_if (b == 13) EndLf (after_name_byte used b) (λ e. tt) (λ e. valid_name_byte used b)
valid_after (TrailerName used) b v = valid_if (b == 58) (TrailerValue (used + 1)) (after_name_byte used b) (λ e. omega arith) (λ e. valid_name_byte used b)
valid_after (TrailerValue used) b v = valid_if (b == 13) (TrailerLf (used + 1)) (after_value_byte used b) (λ e. omega arith) (λ e. valid_value_byte used b)
valid_after (TrailerLf used) b v = valid_if (b == 10) (TrailerStart (used + 1)) Bad (λ e. omega arith) (λ e. tt)
valid_after EndLf b v = valid_if (b == 10) Done Bad (λ e. tt) (λ e. tt)
valid_after Done b v = tt
valid_after Bad b v = tt

pub valid_run : (p : Phase) (bs : List ℕ) → IsPhase p → IsPhase (run p bs)
valid_run p [] v = v
valid_run p (b ∷ bs) v = valid_run (after p b) bs (valid_after p b v)

-- what is read to its end is in what was left to read

at_end : (p : Phase) → may_end p ≡ true → Rest p [] []
at_end ToEnd e = refl
at_end Done e = (refl, refl)
at_end _ e = cc

read : (p : Phase) (bs : List ℕ) → IsPhase p → may_end (run p bs) ≡ true → Rest p bs (content p bs)
read p [] v e = at_end p e
read p (b ∷ bs) v e = step p b bs (content (after p b) bs) v (read (after p b) bs (valid_after p b v) e)

pub valid_start : (framing : Framing) → IsPhase (start framing)
valid_start framed.None = tt
valid_start (framed.Length n) = valid_if (n == 0) Done (Length n) (λ e. tt) (λ e. let m : n ≢ 0 = not_eq n 0 e in omega arith)
valid_start framed.Chunked = (omega arith, omega arith)
valid_start framed.ToEnd = tt

body_from : (framing : Framing) (bs c : List ℕ) → Rest (start framing) bs c → IsBody framing bs c
body_from framed.None bs c r = r
body_from (framed.Length n) bs c r = elim (choose (n == 0) Done (Length n) bs c r) [
  | inl p ↦ (ap length p.1.0 ∙ sym (by_eq n 0 p.0), p.1.1 ∙ sym p.1.0)
  | inr p ↦ p.1
]
body_from framed.Chunked bs c r = body_of bs c r
body_from framed.ToEnd bs c r = r

pub in_grammar : (framing : Framing) (bs : List ℕ) → may_end (run (start framing) bs) ≡ true → IsBody framing bs (content (start framing) bs)
in_grammar framing bs e = body_from framing bs (content (start framing) bs) (read (start framing) bs (valid_start framing) e)
