-- Each body of the grammar is read to its end.
use Rattle.std.proofs.Common.{◌≡◌, ◌≢◌, ℕ, zero, suc, ◌+◌, ◌*◌, ◌<◌, ◌≤◌, Bool, true, false, ◌&&◌, List, [], ◌∷◌, ◌++◌, length, refl, sym, ◌∙◌, ap, subst, arith, append-nil, append_assoc, ◌==◌, nat_le, nat_lt, if◌then◌else◌, length-append}
use Rattle.std.specs.List.{flat_map, AllByRecursion}
use Rattle.std.specs.Char.{digit_value}
use Rattle.std.specs.Str.Parse.{AllDigits, digits_value_after}
use Rattle.body_codec.specs.Bytes.{hex_value, is_hex_digit, is_name_byte, is_name_mark, is_value_byte}
use Rattle.body_codec.specs.Reading.{start, after, after_digits, after_name_byte, after_value_byte, given, run, content, may_end}
use Rattle.body_codec.specs.Grammar.{IsExtensionByte, IsExtension, IsSizeLine, Chunk, IsChunk, Trailer, IsTrailer, chunk_text, trailer_text, IsChunked, IsBody}
use Rattle.body_codec.proofs.Runs.{run-append, content-append, run_length, content_length, run_data, content_data, run_to_end, content_to_end}
use Rattle.body_codec.proofs.Residuals.{trailer_length}
use Rattle.body_codec.specs.declared.reading.Framing.{Framing}
use Rattle.body_codec.specs.declared.reading.Framing.TheVariants as framed
use Rattle.body_codec.specs.declared.phases.Phase.{Phase}
use Rattle.body_codec.specs.declared.phases.Phase.TheVariants.{Length, Size, Extension, SizeLf, Data, DataCr, TrailerStart, TrailerName, TrailerValue, TrailerLf, EndLf, Done, Bad}

-- these bytes lead from one phase to another, with this content
pub record Reaches (p : Phase) (bs c : List ℕ) (q : Phase) : Type 0 where
  pub to : run p bs ≡ q
  pub gives : content p bs ≡ c

pub follow : (p q r : Phase) (xs ys c d : List ℕ) → Reaches p xs c q → Reaches q ys d r → Reaches p (xs ++ ys) (c ++ d) r
follow p q r xs ys c d a b = record {
  to = run-append p xs ys ∙ ap (λ m. run m ys) a.to ∙ b.to;
  gives = content-append p xs ys ∙ ap (λ m. content p xs ++ content m ys) a.to ∙ ap (λ m. m ++ content q ys) a.gives ∙ ap (λ m. c ++ m) b.gives;
}

-- the same where the second part is no content
silent : (p q r : Phase) (xs ys c : List ℕ) → Reaches p xs c q → Reaches q ys [] r → Reaches p (xs ++ ys) c r
silent p q r xs ys c a b = subst (λ m. Reaches p (xs ++ ys) m r) (append-nil c) (follow p q r xs ys c [] a b)

one_byte : (p q r : Phase) (b : ℕ) (bs c : List ℕ) → after p b ≡ q → given p b ≡ [] → Reaches q bs c r → Reaches p (b ∷ bs) c r
one_byte p q r b bs c e g n = record {
  to = ap (λ m. run m bs) e ∙ n.to;
  gives = ap (λ m. m ++ content (after p b) bs) g ∙ ap (λ m. content m bs) e ∙ n.gives;
}

here : (p : Phase) → Reaches p [] [] p
here p = record { to = refl; gives = refl }

-- a choice whose test is known
chosen : (b : Bool) (x y : Phase) → b ≡ true → (if b then x else y) ≡ x
chosen b x y e = ap (λ t. if t then x else y) e

passed : (b : Bool) (x y : Phase) → b ≡ false → (if b then x else y) ≡ y
passed b x y e = ap (λ t. if t then x else y) e

lt_true : (a b : ℕ) → a < b → nat_lt a b ≡ true
lt_true a b h = grind arith

le_true : (a b : ℕ) → a ≤ b → nat_le a b ≡ true
le_true a b h = grind arith

ne_false : (a b : ℕ) → a ≢ b → (a == b) ≡ false
ne_false a b h = grind arith

and_true : (a b : Bool) → a ≡ true → b ≡ true → (a && b) ≡ true
and_true a b e f = cc

-- a size's digits

hex_true : (b : ℕ) → digit_value b < 16 → is_hex_digit b ≡ true
unfolding hex_value
hex_true b h = lt_true (digit_value b) 16 h

hex_value_is : (b : ℕ) → hex_value b ≡ digit_value b
unfolding hex_value
hex_value_is b = refl

after_digit : (digits size b : ℕ) → digits < 10 → digit_value b < 16 → after (Size digits size) b ≡ Size (digits + 1) (size * 16 + digit_value b)
after_digit digits size b le small =
    chosen (is_hex_digit b) (if nat_lt digits 10 then Size (digits + 1) (size * 16 + hex_value b) else Bad) (after_digits digits size b) (hex_true b small)
    ∙ chosen (nat_lt digits 10) (Size (digits + 1) (size * 16 + hex_value b)) Bad (lt_true digits 10 le)
    ∙ ap (λ v. Size (digits + 1) (size * 16 + v)) (hex_value_is b)

read_digits : (digits size : ℕ) (ds : List ℕ) → digits + length ds ≤ 10 → AllDigits 16 ds → Reaches (Size digits size) ds [] (Size (digits + length ds) (digits_value_after 16 size ds))
read_digits digits size [] le all = subst (λ n. Reaches (Size digits size) [] [] (Size n size)) (omega arith) (here (Size digits size))
read_digits digits size (b ∷ ds) le all =
    one_byte (Size digits size) (Size (digits + 1) (size * 16 + digit_value b)) (Size (digits + suc (length ds)) (digits_value_after 16 (size * 16 + digit_value b) ds)) b ds []
    (after_digit digits size b (omega arith) all.0) refl
    (subst (λ n. Reaches (Size (digits + 1) (size * 16 + digit_value b)) ds [] (Size n (digits_value_after 16 (size * 16 + digit_value b) ds))) (omega arith)
    (read_digits (digits + 1) (size * 16 + digit_value b) ds (omega arith) all.1))

-- an extension, and the CR

thirteen_no_digit : is_hex_digit 13 ≡ false
unfolding hex_value
thirteen_no_digit = refl

fifty_nine_no_digit : is_hex_digit 59 ≡ false
unfolding hex_value
fifty_nine_no_digit = refl

pub size_cr : (digits size : ℕ) → 0 < digits → after (Size digits size) 13 ≡ SizeLf size
size_cr digits size some =
    passed (is_hex_digit 13) (if nat_lt digits 10 then Size (digits + 1) (size * 16 + hex_value 13) else Bad) (after_digits digits size 13) thirteen_no_digit
    ∙ passed (digits == 0) Bad (SizeLf size) (ne_false digits 0 (λ e. omega arith))

size_semicolon : (digits size : ℕ) → 0 < digits → after (Size digits size) 59 ≡ Extension size (digits + 1)
size_semicolon digits size some =
    passed (is_hex_digit 59) (if nat_lt digits 10 then Size (digits + 1) (size * 16 + hex_value 59) else Bad) (after_digits digits size 59) fifty_nine_no_digit
    ∙ passed (digits == 0) Bad (Extension size (digits + 1)) (ne_false digits 0 (λ e. omega arith))

extension_byte : (size line b : ℕ) → b ≢ 13 → b ≢ 10 → line < 256 → after (Extension size line) b ≡ Extension size (line + 1)
extension_byte size line b cr lf le =
    passed (b == 13) (SizeLf size) (if b == 10 then Bad else if nat_lt line 256 then Extension size (line + 1) else Bad) (ne_false b 13 cr)
    ∙ passed (b == 10) Bad (if nat_lt line 256 then Extension size (line + 1) else Bad) (ne_false b 10 lf)
    ∙ chosen (nat_lt line 256) (Extension size (line + 1)) Bad (lt_true line 256 le)

read_extension : (size line : ℕ) (bs : List ℕ) → line + length bs ≤ 256 → AllByRecursion IsExtensionByte bs → Reaches (Extension size line) (bs ++ 13 ∷ []) [] (SizeLf size)
read_extension size line [] le all = one_byte (Extension size line) (SizeLf size) (SizeLf size) 13 [] [] refl refl (here (SizeLf size))
read_extension size line (b ∷ bs) le all = one_byte (Extension size line) (Extension size (line + 1)) (SizeLf size) b (bs ++ 13 ∷ []) []
    (extension_byte size line b all.0.0 all.0.1 (omega arith)) refl (read_extension size (line + 1) bs (omega arith) all.1)

read_after_digits : (digits size : ℕ) (ext : List ℕ) → 0 < digits → digits + length ext ≤ 256 → IsExtension ext → Reaches (Size digits size) (ext ++ 13 ∷ []) [] (SizeLf size)
read_after_digits digits size [] some le ext = one_byte (Size digits size) (SizeLf size) (SizeLf size) 13 [] [] (size_cr digits size some) refl (here (SizeLf size))
read_after_digits digits size (b ∷ bs) some le ext =
    one_byte (Size digits size) (Extension size (digits + 1)) (SizeLf size) b (bs ++ 13 ∷ []) []
    (subst (λ x. after (Size digits size) x ≡ Extension size (digits + 1)) (sym ext.0) (size_semicolon digits size some)) refl
    (read_extension size (digits + 1) bs (omega arith) ext.1)

abbrev pub sized : ℕ → Phase
sized size = if size == 0 then TrailerStart 0 else Data size

read_line : (line : List ℕ) (size : ℕ) → IsSizeLine line size → Reaches (Size 0 0) (line ++ 13 ∷ 10 ∷ []) [] (sized size)
read_line line size l =
    let many : length l.digits + length l.extension ≤ 256 = omega (arith, l.short, ap length l.splits, length-append l.digits l.extension) in
    let digits : Reaches (Size 0 0) l.digits [] (Size (0 + length l.digits) (digits_value_after 16 0 l.digits)) = read_digits 0 0 l.digits (omega (arith, l.few)) l.numeral.1 in
    let digits' : Reaches (Size 0 0) l.digits [] (Size (length l.digits) size) =
    subst (λ v. Reaches (Size 0 0) l.digits [] (Size (length l.digits) v)) l.writes
    (subst (λ n. Reaches (Size 0 0) l.digits [] (Size n (digits_value_after 16 0 l.digits))) (omega arith) digits) in
    let cr : Reaches (Size 0 0) (l.digits ++ (l.extension ++ 13 ∷ [])) [] (SizeLf size) =
    silent (Size 0 0) (Size (length l.digits) size) (SizeLf size) l.digits (l.extension ++ 13 ∷ []) [] digits' (read_after_digits (length l.digits) size l.extension l.numeral.0 many l.extends) in
    let lf : Reaches (SizeLf size) (10 ∷ []) [] (sized size) = one_byte (SizeLf size) (sized size) (sized size) 10 [] [] refl refl (here (sized size)) in
    subst (λ bs. Reaches (Size 0 0) bs [] (sized size)) (whole_line line l.digits l.extension l.splits)
    (silent (Size 0 0) (SizeLf size) (sized size) (l.digits ++ (l.extension ++ 13 ∷ [])) (10 ∷ []) [] cr lf)
  where
    regroup : (digits ext : List ℕ) → (digits ++ (ext ++ 13 ∷ [])) ++ 10 ∷ [] ≡ (digits ++ ext) ++ 13 ∷ 10 ∷ []
    regroup digits ext = simp append_assoc

    whole_line : (line digits ext : List ℕ) → line ≡ digits ++ ext → (digits ++ (ext ++ 13 ∷ [])) ++ 10 ∷ [] ≡ line ++ 13 ∷ 10 ∷ []
    whole_line line digits ext e = regroup digits ext ∙ ap (λ x. x ++ 13 ∷ 10 ∷ []) (sym e)

-- a chunk

pub sized_some : (size : ℕ) → 0 < size → sized size ≡ Data size
sized_some size some = passed (size == 0) (TrailerStart 0) (Data size) (ne_false size 0 (λ e. omega arith))

read_data : (size : ℕ) (bs : List ℕ) → 0 < size → length bs ≡ size → Reaches (Data size) bs bs DataCr
read_data zero bs some e = absurd (omega arith)
read_data (suc n) bs some e = record { to = run_data n bs e; gives = content_data n bs (omega arith) }

data_end : Reaches DataCr (13 ∷ 10 ∷ []) [] (Size 0 0)
data_end = record { to = refl; gives = refl }

pub read_chunk : (c : Chunk) → IsChunk c → Reaches (Size 0 0) (chunk_text c) c.bytes (Size 0 0)
read_chunk c h =
    let line : Reaches (Size 0 0) (c.line ++ 13 ∷ 10 ∷ []) [] (Data (length c.bytes)) =
    subst (λ q. Reaches (Size 0 0) (c.line ++ 13 ∷ 10 ∷ []) [] q) (sized_some (length c.bytes) h.some) (read_line c.line (length c.bytes) h.sized) in
    let bytes : Reaches (Size 0 0) (c.line ++ (13 ∷ 10 ∷ []) ++ c.bytes) c.bytes DataCr =
    follow (Size 0 0) (Data (length c.bytes)) DataCr (c.line ++ 13 ∷ 10 ∷ []) c.bytes [] c.bytes line (read_data (length c.bytes) c.bytes h.some refl) in
    silent (Size 0 0) DataCr (Size 0 0) (c.line ++ (13 ∷ 10 ∷ []) ++ c.bytes) (13 ∷ 10 ∷ []) c.bytes bytes data_end

pub read_chunks : (chunks : List Chunk) → AllByRecursion IsChunk chunks → Reaches (Size 0 0) (flat_map chunk_text chunks) (flat_map (λ c. c.bytes) chunks) (Size 0 0)
read_chunks [] all = here (Size 0 0)
read_chunks (c ∷ chunks) all = follow (Size 0 0) (Size 0 0) (Size 0 0) (chunk_text c) (flat_map chunk_text chunks) c.bytes (flat_map (λ d. d.bytes) chunks) (read_chunk c all.0) (read_chunks chunks all.1)

-- trailers

name_byte : (used b : ℕ) → is_name_byte b ≡ true → used + 4 ≤ 8192 → after_name_byte used b ≡ TrailerName (used + 1)
name_byte used b e le = chosen (is_name_byte b && nat_le (used + 4) 8192) (TrailerName (used + 1)) Bad (and_true (is_name_byte b) (nat_le (used + 4) 8192) e (le_true (used + 4) 8192 le))

not_name : (b k : ℕ) → is_name_byte b ≡ true → is_name_byte k ≡ false → b ≢ k
not_name b k e f same = let g : is_name_byte b ≡ false = ap is_name_byte same ∙ f in cc

cr_no_name : is_name_byte 13 ≡ false
unfolding is_name_byte is_name_mark
cr_no_name = refl

colon_no_name : is_name_byte 58 ≡ false
unfolding is_name_byte is_name_mark
colon_no_name = refl

cr_no_value : is_value_byte 13 ≡ false
unfolding is_value_byte
cr_no_value = refl

not_value : (b k : ℕ) → is_value_byte b ≡ true → is_value_byte k ≡ false → b ≢ k
not_value b k e f same = let g : is_value_byte b ≡ false = ap is_value_byte same ∙ f in cc

read_name : (used : ℕ) (name : List ℕ) → used + length name + 3 ≤ 8192 → AllByRecursion (λ b. is_name_byte b ≡ true) name
    → Reaches (TrailerName used) (name ++ 58 ∷ []) [] (TrailerValue (used + length name + 1))
read_name used [] le all = subst (λ n. Reaches (TrailerName used) (58 ∷ []) [] (TrailerValue n)) (omega arith)
    (one_byte (TrailerName used) (TrailerValue (used + 1)) (TrailerValue (used + 1)) 58 [] [] refl refl (here (TrailerValue (used + 1))))
read_name used (b ∷ name) le all =
    one_byte (TrailerName used) (TrailerName (used + 1)) (TrailerValue (used + suc (length name) + 1)) b (name ++ 58 ∷ []) []
    (passed (b == 58) (TrailerValue (used + 1)) (after_name_byte used b) (ne_false b 58 (not_name b 58 all.0 colon_no_name)) ∙ name_byte used b all.0 (omega arith)) refl
    (subst (λ n. Reaches (TrailerName (used + 1)) (name ++ 58 ∷ []) [] (TrailerValue n)) (omega arith) (read_name (used + 1) name (omega arith) all.1))

read_first_name : (used : ℕ) (name : List ℕ) → 0 < length name → used + length name + 3 ≤ 8192 → AllByRecursion (λ b. is_name_byte b ≡ true) name
    → Reaches (TrailerStart used) (name ++ 58 ∷ []) [] (TrailerValue (used + length name + 1))
read_first_name used [] some le all = absurd (omega arith)
read_first_name used (b ∷ name) some le all =
    one_byte (TrailerStart used) (TrailerName (used + 1)) (TrailerValue (used + suc (length name) + 1)) b (name ++ 58 ∷ []) []
    (passed (b == 13) EndLf (after_name_byte used b) (ne_false b 13 (not_name b 13 all.0 cr_no_name)) ∙ name_byte used b all.0 (omega arith)) refl
    (subst (λ n. Reaches (TrailerName (used + 1)) (name ++ 58 ∷ []) [] (TrailerValue n)) (omega arith) (read_name (used + 1) name (omega arith) all.1))

value_byte : (used b : ℕ) → is_value_byte b ≡ true → used + 3 ≤ 8192 → after (TrailerValue used) b ≡ TrailerValue (used + 1)
value_byte used b e le =
    passed (b == 13) (TrailerLf (used + 1)) (after_value_byte used b) (ne_false b 13 (not_value b 13 e cr_no_value))
    ∙ chosen (is_value_byte b && nat_le (used + 3) 8192) (TrailerValue (used + 1)) Bad (and_true (is_value_byte b) (nat_le (used + 3) 8192) e (le_true (used + 3) 8192 le))

read_value : (used : ℕ) (value : List ℕ) → used + length value + 2 ≤ 8192 → AllByRecursion (λ b. is_value_byte b ≡ true) value
    → Reaches (TrailerValue used) (value ++ 13 ∷ 10 ∷ []) [] (TrailerStart (used + length value + 2))
read_value used [] le all = subst (λ n. Reaches (TrailerValue used) (13 ∷ 10 ∷ []) [] (TrailerStart n)) (omega arith)
    (one_byte (TrailerValue used) (TrailerLf (used + 1)) (TrailerStart (used + 1 + 1)) 13 (10 ∷ []) [] refl refl
    (one_byte (TrailerLf (used + 1)) (TrailerStart (used + 1 + 1)) (TrailerStart (used + 1 + 1)) 10 [] [] refl refl (here (TrailerStart (used + 1 + 1)))))
read_value used (b ∷ value) le all =
    one_byte (TrailerValue used) (TrailerValue (used + 1)) (TrailerStart (used + suc (length value) + 2)) b (value ++ 13 ∷ 10 ∷ []) []
    (value_byte used b all.0 (omega arith)) refl
    (subst (λ n. Reaches (TrailerValue (used + 1)) (value ++ 13 ∷ 10 ∷ []) [] (TrailerStart n)) (omega arith) (read_value (used + 1) value (omega arith) all.1))

read_trailer : (used : ℕ) (t : Trailer) → IsTrailer t → used + length (trailer_text t) ≤ 8192 → Reaches (TrailerStart used) (trailer_text t) [] (TrailerStart (used + length (trailer_text t)))
read_trailer used t h le =
    let size : length (trailer_text t) ≡ length t.name + length t.value + 3 = trailer_length t.name t.value in
    let name : Reaches (TrailerStart used) (t.name ++ 58 ∷ []) [] (TrailerValue (used + length t.name + 1)) = read_first_name used t.name h.some (omega arith) h.named in
    let value : Reaches (TrailerValue (used + length t.name + 1)) (t.value ++ 13 ∷ 10 ∷ []) [] (TrailerStart (used + length t.name + 1 + length t.value + 2)) =
    read_value (used + length t.name + 1) t.value (omega arith) h.valued in
    let whole : Reaches (TrailerStart used) ((t.name ++ 58 ∷ []) ++ (t.value ++ 13 ∷ 10 ∷ [])) [] (TrailerStart (used + length t.name + 1 + length t.value + 2)) =
    silent (TrailerStart used) (TrailerValue (used + length t.name + 1)) (TrailerStart (used + length t.name + 1 + length t.value + 2)) (t.name ++ 58 ∷ []) (t.value ++ 13 ∷ 10 ∷ []) [] name value in
    let at : Reaches (TrailerStart used) ((t.name ++ 58 ∷ []) ++ (t.value ++ 13 ∷ 10 ∷ [])) [] (TrailerStart (used + length (trailer_text t))) =
    subst (λ n. Reaches (TrailerStart used) ((t.name ++ 58 ∷ []) ++ (t.value ++ 13 ∷ 10 ∷ [])) [] (TrailerStart n)) (omega arith) whole in
    subst (λ bs. Reaches (TrailerStart used) bs [] (TrailerStart (used + length (trailer_text t)))) (sym (append_assoc (t.name ++ 58 ∷ []) t.value (13 ∷ 10 ∷ []))) at

read_trailers : (used : ℕ) (ts : List Trailer) → AllByRecursion IsTrailer ts → used + length (flat_map trailer_text ts) ≤ 8192
    → Reaches (TrailerStart used) (flat_map trailer_text ts) [] (TrailerStart (used + length (flat_map trailer_text ts)))
read_trailers used [] all le = subst (λ n. Reaches (TrailerStart used) [] [] (TrailerStart n)) (omega arith) (here (TrailerStart used))
read_trailers used (t ∷ ts) all le =
    let size : length (flat_map trailer_text (t ∷ ts)) ≡ length (trailer_text t) + length (flat_map trailer_text ts) = length-append (trailer_text t) (flat_map trailer_text ts) in
    let first : Reaches (TrailerStart used) (trailer_text t) [] (TrailerStart (used + length (trailer_text t))) = read_trailer used t all.0 (omega arith) in
    let rest : Reaches (TrailerStart (used + length (trailer_text t))) (flat_map trailer_text ts) [] (TrailerStart (used + length (trailer_text t) + length (flat_map trailer_text ts))) =
    read_trailers (used + length (trailer_text t)) ts all.1 (omega arith) in
    let whole : Reaches (TrailerStart used) (trailer_text t ++ flat_map trailer_text ts) [] (TrailerStart (used + length (trailer_text t) + length (flat_map trailer_text ts))) =
    silent (TrailerStart used) (TrailerStart (used + length (trailer_text t))) (TrailerStart (used + length (trailer_text t) + length (flat_map trailer_text ts))) (trailer_text t) (flat_map trailer_text ts) [] first rest in
    subst (λ n. Reaches (TrailerStart used) (trailer_text t ++ flat_map trailer_text ts) [] (TrailerStart n)) (omega arith) whole

trailers_end : (used : ℕ) → Reaches (TrailerStart used) (13 ∷ 10 ∷ []) [] Done
trailers_end used = record { to = refl; gives = refl }

pub read_chunked : (bs c : List ℕ) → IsChunked bs c → Reaches (Size 0 0) bs c Done
read_chunked bs c b =
    let chunks : Reaches (Size 0 0) (flat_map chunk_text b.chunks) (flat_map (λ k. k.bytes) b.chunks) (Size 0 0) = read_chunks b.chunks b.each in
    let last : Reaches (Size 0 0) (b.last ++ 13 ∷ 10 ∷ []) [] (TrailerStart 0) = read_line b.last 0 b.ends in
    let trails : Reaches (TrailerStart 0) (flat_map trailer_text b.trailers) [] (TrailerStart (0 + length (flat_map trailer_text b.trailers))) =
    read_trailers 0 b.trailers b.trails (omega (arith, b.limit)) in
    let headed : Reaches (Size 0 0) (flat_map chunk_text b.chunks ++ (b.last ++ 13 ∷ 10 ∷ [])) (flat_map (λ k. k.bytes) b.chunks) (TrailerStart 0) =
    silent (Size 0 0) (Size 0 0) (TrailerStart 0) (flat_map chunk_text b.chunks) (b.last ++ 13 ∷ 10 ∷ []) (flat_map (λ k. k.bytes) b.chunks) chunks last in
    let trailed : Reaches (Size 0 0) (flat_map chunk_text b.chunks ++ (b.last ++ 13 ∷ 10 ∷ []) ++ flat_map trailer_text b.trailers) (flat_map (λ k. k.bytes) b.chunks) (TrailerStart (0 + length (flat_map trailer_text b.trailers))) =
    silent (Size 0 0) (TrailerStart 0) (TrailerStart (0 + length (flat_map trailer_text b.trailers))) (flat_map chunk_text b.chunks ++ (b.last ++ 13 ∷ 10 ∷ [])) (flat_map trailer_text b.trailers) (flat_map (λ k. k.bytes) b.chunks) headed trails in
    let ended : Reaches (Size 0 0) (flat_map chunk_text b.chunks ++ (b.last ++ 13 ∷ 10 ∷ []) ++ flat_map trailer_text b.trailers ++ 13 ∷ 10 ∷ []) (flat_map (λ k. k.bytes) b.chunks) Done =
    silent (Size 0 0) (TrailerStart (0 + length (flat_map trailer_text b.trailers))) Done (flat_map chunk_text b.chunks ++ (b.last ++ 13 ∷ 10 ∷ []) ++ flat_map trailer_text b.trailers) (13 ∷ 10 ∷ []) (flat_map (λ k. k.bytes) b.chunks) trailed (trailers_end (0 + length (flat_map trailer_text b.trailers))) in
    subst (λ x. Reaches (Size 0 0) bs x Done) (sym b.found)
    (subst (λ x. Reaches (Size 0 0) x (flat_map (λ k. k.bytes) b.chunks) Done) (grouped (flat_map chunk_text b.chunks) b.last (flat_map trailer_text b.trailers) ∙ sym b.whole) ended)
  where
    grouped : (chunks last trails : List ℕ) → chunks ++ (last ++ 13 ∷ 10 ∷ []) ++ trails ++ 13 ∷ 10 ∷ [] ≡ chunks ++ last ++ (13 ∷ 10 ∷ []) ++ trails ++ 13 ∷ 10 ∷ []
    grouped chunks last trails = simp append_assoc

read_length : (n : ℕ) (bs : List ℕ) → length bs ≡ n → Reaches (start (framed.Length n)) bs bs Done
read_length zero [] e = here Done
read_length zero (b ∷ bs) e = absurd (omega arith)
read_length (suc n) bs e =
    let from : start (framed.Length (suc n)) ≡ Length (suc n) = passed (suc n == 0) Done (Length (suc n)) (ne_false (suc n) 0 (λ z. omega arith)) in
    record { to = ap (λ p. run p bs) from ∙ run_length n bs e; gives = ap (λ p. content p bs) from ∙ content_length n bs (omega arith) }

-- each body is read to its end, and gives its content

pub body_gives : (framing : Framing) (bs c : List ℕ) → IsBody framing bs c → content (start framing) bs ≡ c
body_gives framed.None bs c b = ap (λ x. content Done x) b.0 ∙ sym b.1
body_gives (framed.Length n) bs c b = let r : Reaches (start (framed.Length n)) bs bs Done = read_length n bs b.0 in r.gives ∙ sym b.1
body_gives framed.Chunked bs c b = let r : Reaches (Size 0 0) bs c Done = read_chunked bs c b in r.gives
body_gives framed.ToEnd bs c b = content_to_end bs ∙ sym b

pub body_done : (framing : Framing) (bs c : List ℕ) → framing ≢ framed.ToEnd → IsBody framing bs c → run (start framing) bs ≡ Done
body_done framed.None bs c n b = ap (λ x. run Done x) b.0
body_done (framed.Length n) bs c other b = let r : Reaches (start (framed.Length n)) bs bs Done = read_length n bs b.0 in r.to
body_done framed.Chunked bs c n b = let r : Reaches (Size 0 0) bs c Done = read_chunked bs c b in r.to
body_done framed.ToEnd bs c n b = absurd (n refl)

pub body_ends : (framing : Framing) (bs c : List ℕ) → IsBody framing bs c → may_end (run (start framing) bs) ≡ true
body_ends framed.None bs c b = ap may_end (body_done framed.None bs c (λ e. cc) b)
body_ends (framed.Length n) bs c b = ap may_end (body_done (framed.Length n) bs c (λ e. cc) b)
body_ends framed.Chunked bs c b = ap may_end (body_done framed.Chunked bs c (λ e. cc) b)
body_ends framed.ToEnd bs c b = ap may_end (run_to_end bs)
