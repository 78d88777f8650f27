-- The text of bytes, a piece at a time.
use Rattle.std.proofs.Common.{◌≡◌, ◌≢◌, ℕ, ◌+◌, ◌*◌, ◌<◌, ◌/◌, ◌%◌, List, [], ◌∷◌, ◌++◌, map, length, Bool, true, false, not, ◌&&◌, ◌==◌, refl, sym, ap, ◌∙◌, subst, arith, append_assoc, append-nil, ne_eqb, inl, inr, if◌then◌else◌, get_or, suc}
use Rattle.std.proofs.lemmas.Bool.Decides.{eqb_tells}
use Rattle.std.specs.List.{AllByRecursion, flat_map}
use Rattle.std.proofs.lemmas.List.Concat.{flat_map-append}
use Rattle.std.proofs.lemmas.List.{map-append}
use Rattle.replay_script.specs.Escapes.{Piece, plain, return_, feed, slash, hex, IsPiece, piece_text, piece_byte, hex_digit, IsTextOf, BeginsWithPiece, is_printable, piece_of, escaped}

-- a text read up to a place: the pieces before it, and whatever the whole text stands for, the rest is a text too
pub record Partly (text rest bytes : List ℕ) : Type 0 where
  pub pieces : List Piece
  pub are : AllByRecursion IsPiece pieces
  pub text_is : text ≡ flat_map piece_text pieces ++ rest
  pub bytes_are : bytes ≡ map piece_byte pieces
  pub further : (whole : List ℕ) → IsTextOf text whole → (more : List ℕ) × IsTextOf rest more

pub partly_none : (text : List ℕ) → Partly text text []
partly_none text = record { pieces = []; are = tt; text_is = refl; bytes_are = refl; further = λ whole is. (whole, is) }

abbrev second : List ℕ → ℕ
second [] = 0
second (a ∷ []) = 0
second (a ∷ b ∷ r) = b

no_slash : (b : ℕ) → IsPiece (plain b) → b ≡ 92 → ⊥
no_slash b is e = let f : (is_printable 92 && not (92 == 92)) ≡ true = subst (λ x. (is_printable x && not (x == 92)) ≡ true) e is in cc

-- no piece begins another one
same_rest : (p q : Piece) (r s : List ℕ) → IsPiece p → IsPiece q → piece_text p ++ r ≡ piece_text q ++ s → r ≡ s
same_rest (plain a) (plain b) r s i j e = cc
same_rest (plain a) return_ r s i j e = absurd (no_slash a i (cc))
same_rest (plain a) feed r s i j e = absurd (no_slash a i (cc))
same_rest (plain a) slash r s i j e = absurd (no_slash a i (cc))
same_rest (plain a) (hex h l) r s i j e = absurd (no_slash a i (cc))
same_rest return_ (plain b) r s i j e = absurd (no_slash b j (cc))
same_rest return_ return_ r s i j e = cc
same_rest return_ feed r s i j e = absurd (let k : 114 ≡ 110 = ap second e in omega (arith, k))
same_rest return_ slash r s i j e = absurd (let k : 114 ≡ 92 = ap second e in omega (arith, k))
same_rest return_ (hex h l) r s i j e = absurd (let k : 114 ≡ 120 = ap second e in omega (arith, k))
same_rest feed (plain b) r s i j e = absurd (no_slash b j (cc))
same_rest feed return_ r s i j e = absurd (let k : 110 ≡ 114 = ap second e in omega (arith, k))
same_rest feed feed r s i j e = cc
same_rest feed slash r s i j e = absurd (let k : 110 ≡ 92 = ap second e in omega (arith, k))
same_rest feed (hex h l) r s i j e = absurd (let k : 110 ≡ 120 = ap second e in omega (arith, k))
same_rest slash (plain b) r s i j e = absurd (no_slash b j (cc))
same_rest slash return_ r s i j e = absurd (let k : 92 ≡ 114 = ap second e in omega (arith, k))
same_rest slash feed r s i j e = absurd (let k : 92 ≡ 110 = ap second e in omega (arith, k))
same_rest slash slash r s i j e = cc
same_rest slash (hex h l) r s i j e = absurd (let k : 92 ≡ 120 = ap second e in omega (arith, k))
same_rest (hex h l) (plain b) r s i j e = absurd (no_slash b j (cc))
same_rest (hex h l) return_ r s i j e = absurd (let k : 120 ≡ 114 = ap second e in omega (arith, k))
same_rest (hex h l) feed r s i j e = absurd (let k : 120 ≡ 110 = ap second e in omega (arith, k))
same_rest (hex h l) slash r s i j e = absurd (let k : 120 ≡ 92 = ap second e in omega (arith, k))
same_rest (hex h l) (hex k m) r s i j e = cc

-- where a text is more than nothing, a piece begins it
front_piece : (text : List ℕ) (x : ℕ) (xs : List ℕ) (pieces : List Piece) → text ≡ x ∷ xs → AllByRecursion IsPiece pieces → text ≡ flat_map piece_text pieces → (byte : ℕ) × (rest : List ℕ) × BeginsWithPiece text byte rest
front_piece text x xs [] some are is = absurd (let f : ⊥ = cc in f)
front_piece text x xs (p ∷ ps) some are is = (piece_byte p, flat_map piece_text ps, record { piece = p; is_piece = are.0; text_is = is; byte_is = refl })

after_piece : (rest after : List ℕ) (p : Piece) (pieces : List Piece) → IsPiece p → rest ≡ piece_text p ++ after → AllByRecursion IsPiece pieces → rest ≡ flat_map piece_text pieces → (x : ℕ) → (xs : List ℕ) → rest ≡ x ∷ xs → (more : List ℕ) × IsTextOf after more
after_piece rest after p [] is e are whole x xs some = absurd (let f : ⊥ = cc in f)
after_piece rest after p (q ∷ qs) is e are whole x xs some =
    (map piece_byte qs, record { pieces = qs; are = are.1; text_is = same_rest p q after (flat_map piece_text qs) is are.0 (sym e ∙ whole); bytes_are = refl })

not_nil : (p : Piece) (rest after : List ℕ) → rest ≡ piece_text p ++ after → (x : ℕ) × (xs : List ℕ) × (rest ≡ x ∷ xs)
not_nil (plain b) rest after e = (b, after, e)
not_nil return_ rest after e = (92, 114 ∷ after, e)
not_nil feed rest after e = (92, 110 ∷ after, e)
not_nil slash rest after e = (92, 92 ∷ after, e)
not_nil (hex h l) rest after e = (92, 120 ∷ hex_digit h ∷ hex_digit l ∷ after, e)

all_push : (pieces : List Piece) (p : Piece) → AllByRecursion IsPiece pieces → IsPiece p → AllByRecursion IsPiece (pieces ++ p ∷ [])
all_push [] p h k = (k, tt)
all_push (q ∷ qs) p h k = (h.0, all_push qs p h.1 k)

text_push : (pieces : List Piece) (p : Piece) → flat_map piece_text (pieces ++ p ∷ []) ≡ flat_map piece_text pieces ++ piece_text p
text_push pieces p = flat_map-append piece_text pieces (p ∷ []) ∙ ap (λ t. flat_map piece_text pieces ++ t) (append-nil (piece_text p))

-- one more piece
pub partly_more : (text rest after bytes : List ℕ) (byte : ℕ) → Partly text rest bytes → BeginsWithPiece rest byte after → Partly text after (bytes ++ byte ∷ [])
partly_more text rest after bytes byte s b = record {
  pieces = s.pieces ++ b.piece ∷ [];
  are = all_push s.pieces b.piece s.are b.is_piece;
  text_is = s.text_is ∙ ap (λ t. flat_map piece_text s.pieces ++ t) b.text_is ∙ sym (append_assoc (flat_map piece_text s.pieces) (piece_text b.piece) after) ∙ ap (λ t. t ++ after) (sym (text_push s.pieces b.piece));
  bytes_are = rw (s.bytes_are, b.byte_is) (sym (map-append piece_byte s.pieces (b.piece ∷ [])));
  further = λ whole is. (let m = s.further whole is in let n = not_nil b.piece rest after b.text_is in after_piece rest after b.piece m.1.pieces b.is_piece b.text_is m.1.are m.1.text_is n.0 n.1 n.2);
}

-- the whole text was read
pub partly_all : (text rest bytes : List ℕ) → rest ≡ [] → Partly text rest bytes → IsTextOf text bytes
partly_all text rest bytes e s = record { pieces = s.pieces; are = s.are; text_is = s.text_is ∙ ap (λ t. flat_map piece_text s.pieces ++ t) e ∙ append-nil (flat_map piece_text s.pieces); bytes_are = s.bytes_are }

-- no piece begins the rest
pub partly_stuck : (text rest bytes : List ℕ) → (length rest == 0) ≡ false → ((byte : ℕ) (after : List ℕ) → ¬ (BeginsWithPiece rest byte after)) → Partly text rest bytes → (whole : List ℕ) → ¬ (IsTextOf text whole)
partly_stuck text [] bytes some stuck s whole = λ is. absurd (let f : true ≡ false = some in cc)
partly_stuck text (x ∷ xs) bytes some stuck s whole = λ is. (let m = s.further whole is in let f = front_piece (x ∷ xs) x xs m.1.pieces refl m.1.are m.1.text_is in stuck f.0 f.1 f.2)

pub plain_front : (text : List ℕ) (b : ℕ) (rest : List ℕ) → text ≡ b ∷ rest → is_printable b ≡ true → b ≢ 92 → BeginsWithPiece text b rest
plain_front text b rest e is apart = record { piece = plain b; is_piece = rw (is, ne_eqb b 92 apart) refl; text_is = e; byte_is = refl }

pub hex_front : (text rest more : List ℕ) (high low h l byte : ℕ) → text ≡ high ∷ more → more ≡ low ∷ rest → h < 16 → l < 16 → hex_digit h ≡ high → hex_digit l ≡ low → byte ≡ 16 * h + l → BeginsWithPiece (92 ∷ 120 ∷ text) byte rest
hex_front text rest more high low h l byte e f ih il dh dl is = record { piece = hex h l; is_piece = (ih, il); text_is = rw (e, f, dh, dl) refl; byte_is = is }

-- a byte is written in a piece that stands for it
unprinted : (b : ℕ) → b < 256 → IsPiece (hex (b / 16) (b % 16)) × (b ≡ piece_byte (hex (b / 16) (b % 16)))
unprinted b small = ((omega (arith, small), omega arith), omega arith)

by_print : (b : ℕ) → b < 256 → b ≢ 92 → (r : Bool) → is_printable b ≡ r → IsPiece (if r then plain b else hex (b / 16) (b % 16)) × (b ≡ piece_byte (if r then plain b else hex (b / 16) (b % 16)))
by_print b small apart true e = (rw (e, ne_eqb b 92 apart) refl, refl)
by_print b small apart false e = unprinted b small

pub written_piece : (b : ℕ) → b < 256 → IsPiece (piece_of b) × (b ≡ piece_byte (piece_of b))
written_piece b small =
    elim (eqb_tells b 13) [
      | inl r ↦ rw r.0 (tt, r.1)
      | inr r ↦ elim (eqb_tells b 10) [
        | inl f ↦ rw (r.0, f.0) (tt, f.1)
        | inr f ↦ elim (eqb_tells b 92) [
          | inl s ↦ rw (r.0, f.0, s.0) (tt, s.1)
          | inr s ↦ rw (r.0, f.0, s.0) (by_print b small s.1 (is_printable b) refl)
        ]
      ]
    ]

pub all_small : (bytes : List ℕ) → ((k : ℕ) → get_or bytes k 0 < 256) → AllByRecursion (λ b. b < 256) bytes
all_small [] h = tt
all_small (b ∷ bs) h = (h 0, all_small bs (λ k. h (suc k)))

-- what is written reads back
pub written_text : (bytes : List ℕ) → AllByRecursion (λ b. b < 256) bytes → IsTextOf (escaped bytes) bytes
written_text bytes small = record { pieces = map piece_of bytes; are = all_are bytes small; text_is = texts bytes; bytes_are = bytes_back bytes small }
  where
    all_are : (bytes : List ℕ) → AllByRecursion (λ b. b < 256) bytes → AllByRecursion IsPiece (map piece_of bytes)
    all_are [] h = tt
    all_are (b ∷ bs) h = ((written_piece b h.0).0, all_are bs h.1)

    texts : (bytes : List ℕ) → escaped bytes ≡ flat_map piece_text (map piece_of bytes)
    texts [] = refl
    texts (b ∷ bs) = ap (λ t. piece_text (piece_of b) ++ t) (texts bs)

    bytes_back : (bytes : List ℕ) → AllByRecursion (λ b. b < 256) bytes → bytes ≡ map piece_byte (map piece_of bytes)
    bytes_back [] h = refl
    bytes_back (b ∷ bs) h = (let e = (written_piece b h.0).1 in let f = bytes_back bs h.1 in cc)
