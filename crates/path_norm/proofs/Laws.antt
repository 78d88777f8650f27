-- The normal form of a path has no dot segment, is its own normal form, and is the only one.
use Rattle.std.proofs.Common.{◌≡◌, ◌≢◌, ℕ, ◌+◌, ◌*◌, ◌<◌, ◌⊎◌, inl, inr, Bool, true, false, ◌||◌, List, [], ◌∷◌, ◌++◌, length, map, fold, IsTrue, refl, sym, ap, ap₂, ◌∙◌, subst, arith, append_assoc, append-nil, length-append}
use Rattle.std.proofs.lemmas.Bool.{cond_both, cond-true, cond-false, false≢true}
use Rattle.std.specs.List.{AllByRecursion}
use Rattle.std.specs.Char.{is_ascii_hexdigit, to_ascii_uppercase}
use Rattle.path_norm.specs.Escapes.{Piece, plain, escape, slash, spelled, written, octet, is_unreserved, IsPiece, AreSegment, segment_text, segment_written}
use Rattle.path_norm.specs.Dots.{path_of, resolved, ends_in_dots, with_segment, is_dot, is_dot_dot, is_dots, without_dots}
use Rattle.path_norm.specs.Normal.{IsRooted, Normalises, IsSlashless, IsNoDots, HasNoDots}
use Rattle.path_norm.proofs.Pieces.{all-append}
use Rattle.path_norm.proofs.Paths.{all_without, all_written, upper_digit, upper_value, upper_upper, unreserved_apart, slashless_written}

-- ---- no dot segment is left

not_dots : (s : List ℕ) → is_dots s ≡ false → IsNoDots s
not_dots s h = (
  λ e. let at : is_dots (46 ∷ []) ≡ false = subst (λ t. is_dots t ≡ false) e h in false≢true (sym at),
  λ e. let at : is_dots (46 ∷ 46 ∷ []) ≡ false = subst (λ t. is_dots t ≡ false) e h in false≢true (sym at),
)

each : (P Q : List ℕ → Type 0) → ((s : List ℕ) → P s → Q s) → (segments : List (List ℕ)) → AllByRecursion P segments → AllByRecursion Q segments
each P Q f [] h = tt
each P Q f (s ∷ segments) h = (f s h.0, each P Q f segments h.1)

any : (Q : List ℕ → Type 0) → ((s : List ℕ) → Q s) → (segments : List (List ℕ)) → AllByRecursion Q segments
any Q f [] = tt
any Q f (s ∷ segments) = (f s, any Q f segments)

plain_left : (segments : List (List ℕ)) → AllByRecursion (λ s. is_dots s ≡ false) (without_dots segments)
plain_left segments = all_without (λ s. is_dots s ≡ false) segments refl (any _ (λ s h. h) segments)

-- ---- some segment is left

dots_cases : (b : Bool) → (b ≡ true) ⊎ (b ≡ false)
dots_cases true = inl refl
dots_cases false = inr refl

no_dot_of : (a b : Bool) → (a || b) ≡ false → a ≡ false
no_dot_of false b h = refl
no_dot_of true b h = absurd (false≢true (sym h))

no_dot_dot_of : (a b : Bool) → (a || b) ≡ false → b ≡ false
no_dot_dot_of false b h = h
no_dot_dot_of true b h = absurd (false≢true (sym h))

with_plain : (stack : List (List ℕ)) (s : List ℕ) → is_dots s ≡ false → with_segment stack s ≡ stack ++ s ∷ []
with_plain stack s h = rw (no_dot_of (is_dot s) (is_dot_dot s) h, no_dot_dot_of (is_dot s) (is_dot_dot s) h) refl

step_some : (stack : List (List ℕ)) (s : List ℕ) → (is_dots s ≡ true) ⊎ (0 < length (with_segment stack s))
step_some stack s =
    elim (dots_cases (is_dots s)) [
      | inl dots ↦ inl dots
      | inr no_dots ↦ inr (rw (with_plain stack s no_dots) (omega (arith, length-append stack (s ∷ []))))
    ]

fold_some : (segments stack : List (List ℕ)) (d : Bool) → (d ≡ true) ⊎ (0 < length stack)
    → (fold (λ _ s. is_dots s) d segments ≡ true) ⊎ (0 < length (fold with_segment stack segments))
fold_some [] stack d h = h
fold_some (s ∷ segments) stack d h = fold_some segments (with_segment stack s) (is_dots s) (step_some stack s)

some_left : (segments : List (List ℕ)) → 0 < length segments → 0 < length (without_dots segments)
some_left [] h = absurd (omega arith)
some_left (s ∷ segments) h =
    let more : 0 < length (resolved (s ∷ segments) ++ [] ∷ []) = omega (arith, length-append (resolved (s ∷ segments)) ([] ∷ [])) in
    cond_both (ends_in_dots (s ∷ segments)) _ _ (λ x. 0 < length x) (λ _. more) (λ no_dots.
    elim (fold_some segments (with_segment [] s) (is_dots s) (step_some [] s)) [
      | inl dots ↦ absurd (false≢true (sym no_dots ∙ dots))
      | inr some ↦ some
    ])

map_some : (segments : List (List Piece)) (path : List ℕ) → IsRooted path → path ≡ path_of (map segment_text segments) → 0 < length (map segment_written segments)
map_some [] path (rest, rooted) is = absurd (let e : [] ≡ slash ∷ rest = sym is ∙ rooted in cc)
map_some (s ∷ segments) path rooted is = omega arith

pub has_no_dots : (path normal : List ℕ) → IsRooted path → Normalises path normal → HasNoDots normal
has_no_dots path normal rooted n = record {
  segments = without_dots (map segment_written n.segments);
  some = some_left (map segment_written n.segments) (map_some n.segments path rooted n.path_is);
  slashless = all_without IsSlashless (map segment_written n.segments) tt (all_written (λ s. is_dots s ≡ false → IsSlashless s) (λ pieces are _. slashless_written pieces are) n.segments n.are_segments);
  no_dots = each (λ s. is_dots s ≡ false) IsNoDots not_dots (without_dots (map segment_written n.segments)) (plain_left (map segment_written n.segments));
  path_is = n.normal_is;
}

rooted_of : (segments : List (List ℕ)) (path : List ℕ) → 0 < length segments → path ≡ path_of segments → IsRooted path
rooted_of [] path some is = absurd (omega arith)
rooted_of (s ∷ segments) path some is = (s ++ path_of segments, is)

pub is_rooted : (path normal : List ℕ) → IsRooted path → Normalises path normal → IsRooted normal
is_rooted path normal rooted n = let h = has_no_dots path normal rooted n in rooted_of h.segments normal h.some h.path_is

-- ---- the normal form of the normal form

-- the text is a segment that is written as it is spelled
abbrev IsNormalText : List ℕ → Type 0
IsNormalText t = (pieces : List Piece) × AreSegment pieces × (t ≡ segment_text pieces) × (t ≡ segment_written pieces)

-- q is spelled as p is written, and written so too
record IsCanonical (p q : Piece) : Type 0 where
  is : IsPiece q
  spelled_is : written p ≡ spelled q
  written_is : written p ≡ written q

same_octet : (high low : ℕ) → IsTrue (is_ascii_hexdigit high) → IsTrue (is_ascii_hexdigit low) → octet (to_ascii_uppercase high) (to_ascii_uppercase low) ≡ octet high low
same_octet high low h l = ap₂ (λ a b. a * 16 + b) (upper_value high h) (upper_value low l)

canonical_piece : (p : Piece) → IsPiece p → (q : Piece) × IsCanonical p q
canonical_piece (plain b) h = (plain b, record { is = h; spelled_is = λ _. b ∷ []; written_is = λ _. b ∷ [] })
canonical_piece (escape high low) h =
    elim (dots_cases (is_unreserved (octet high low))) [
      | inl unreserved ↦ (
        plain (octet high low),
        record {
          is = unreserved_apart (octet high low) unreserved;
          spelled_is = cond-true _ _ _ unreserved;
          written_is = cond-true _ _ _ unreserved;
        },
      )
      | inr reserved ↦ (
        escape (to_ascii_uppercase high) (to_ascii_uppercase low),
        record {
          is = (upper_digit high h.0, upper_digit low h.1);
          spelled_is = cond-false _ _ _ reserved;
          written_is = cond-false _ _ _ reserved ∙ ap₂ (λ a b. 37 ∷ a ∷ b ∷ []) (sym (upper_upper high)) (sym (upper_upper low)) ∙ sym (cond-false _ _ _ (ap is_unreserved (same_octet high low h.0 h.1) ∙ reserved));
        },
      )
    ]

normal_text : (pieces : List Piece) → AreSegment pieces → IsNormalText (segment_written pieces)
normal_text [] h = ([], tt, refl, refl)
normal_text (p ∷ pieces) h =
    let (q, is) = canonical_piece p h.0 in
    let (rest, are, spelled_is, written_is) = normal_text pieces h.1 in
    (q ∷ rest, (is.is, are), ap₂ ◌++◌ is.spelled_is spelled_is, ap₂ ◌++◌ is.written_is written_is)

collect : (texts : List (List ℕ)) → AllByRecursion IsNormalText texts
    → (segments : List (List Piece)) × AllByRecursion AreSegment segments × (texts ≡ map segment_text segments) × (texts ≡ map segment_written segments)
collect [] h = ([], tt, refl, refl)
collect (t ∷ texts) ((pieces, are, spelled_is, written_is), more) =
    let (segments, all, texts_are, written_are) = collect texts more in
    (pieces ∷ segments, (are, all), ap₂ ◌∷◌ spelled_is texts_are, ap₂ ◌∷◌ written_is written_are)

resolved_plain : (segments stack : List (List ℕ)) → AllByRecursion (λ s. is_dots s ≡ false) segments → fold with_segment stack segments ≡ stack ++ segments
resolved_plain [] stack h = sym (append-nil stack)
resolved_plain (s ∷ segments) stack h =
    ap (λ x. fold with_segment x segments) (with_plain stack s h.0) ∙ resolved_plain segments (stack ++ s ∷ []) h.1 ∙ append_assoc stack (s ∷ []) segments

ends_plain : (segments : List (List ℕ)) (d : Bool) → d ≡ false → AllByRecursion (λ s. is_dots s ≡ false) segments → fold (λ _ s. is_dots s) d segments ≡ false
ends_plain [] d none h = none
ends_plain (s ∷ segments) d none h = ends_plain segments (is_dots s) h.0 h.1

without_plain : (segments : List (List ℕ)) → AllByRecursion (λ s. is_dots s ≡ false) segments → without_dots segments ≡ segments
without_plain segments h = cond-false (ends_in_dots segments) _ _ (ends_plain segments false refl h) ∙ resolved_plain segments [] h

pub normal_again : (path normal : List ℕ) → Normalises path normal → Normalises normal normal
normal_again path normal n =
    let texts = without_dots (map segment_written n.segments) in
    let all = all_without IsNormalText (map segment_written n.segments) (normal_text [] tt) (all_written (λ s. is_dots s ≡ false → IsNormalText s) (λ pieces are _. normal_text pieces are) n.segments n.are_segments) in
    let (segments, are, texts_are, written_are) = collect texts all in
    record {
      segments = segments;
      are_segments = are;
      path_is = n.normal_is ∙ ap path_of texts_are;
      normal_is = n.normal_is ∙ ap path_of (sym (without_plain texts (plain_left (map segment_written n.segments))) ∙ ap without_dots written_are);
    }

-- ---- one normal form

hex_apart : (c : ℕ) → IsTrue (is_ascii_hexdigit c) → c ≢ 47
hex_apart c h e = let at : IsTrue (is_ascii_hexdigit 47) = subst (λ b. IsTrue (is_ascii_hexdigit b)) e h in false≢true at

-- pieces are read off a text in one way
piece_slashless : (p : Piece) → IsPiece p → IsSlashless (spelled p)
piece_slashless (plain b) h = (h.1, tt)
piece_slashless (escape high low) h = ((λ e. omega arith), (hex_apart high h.0, (hex_apart low h.1, tt)))

text_slashless : (pieces : List Piece) → AreSegment pieces → IsSlashless (segment_text pieces)
text_slashless [] h = tt
text_slashless (p ∷ pieces) h = all-append _ (spelled p) (segment_text pieces) (piece_slashless p h.0) (text_slashless pieces h.1)

head_is : (a b : ℕ) (xs ys : List ℕ) → a ∷ xs ≡ b ∷ ys → a ≡ b
head_is a b xs ys e = cc

tail_is : (a b : ℕ) (xs ys : List ℕ) → a ∷ xs ≡ b ∷ ys → xs ≡ ys
tail_is a b xs ys e = cc

no_cons : (b : ℕ) (ys : List ℕ) → [] ≡ b ∷ ys → ⊥
no_cons b ys e = cc

same_pieces : (xs ys : List Piece) → AreSegment xs → AreSegment ys → segment_text xs ≡ segment_text ys → xs ≡ ys
same_pieces [] [] h k e = refl
same_pieces [] (plain b ∷ ys) h k e = absurd (no_cons _ _ e)
same_pieces [] (escape a b ∷ ys) h k e = absurd (no_cons _ _ e)
same_pieces (plain b ∷ xs) [] h k e = absurd (no_cons _ _ (sym e))
same_pieces (escape a b ∷ xs) [] h k e = absurd (no_cons _ _ (sym e))
same_pieces (plain a ∷ xs) (plain b ∷ ys) h k e = ap₂ (λ x r. plain x ∷ r) (head_is _ _ _ _ e) (same_pieces xs ys h.1 k.1 (tail_is _ _ _ _ e))
same_pieces (plain a ∷ xs) (escape b c ∷ ys) h k e = absurd (h.0.0 (head_is _ _ _ _ e))
same_pieces (escape a b ∷ xs) (plain c ∷ ys) h k e = absurd (k.0.0 (sym (head_is _ _ _ _ e)))
same_pieces (escape a b ∷ xs) (escape c d ∷ ys) h k e =
    let first = tail_is _ _ _ _ e in
    let second = tail_is _ _ _ _ first in
    ap₂ (λ p r. p ∷ r) (ap₂ escape (head_is _ _ _ _ first) (head_is _ _ _ _ second)) (same_pieces xs ys h.1 k.1 (tail_is _ _ _ _ second))

-- what follows a segment: nothing, or the next segment's slash
path_follows : (segments : List (List ℕ)) → (path_of segments ≡ []) ⊎ IsRooted (path_of segments)
path_follows [] = inl refl
path_follows (s ∷ segments) = inr (s ++ path_of segments, refl)

-- a byte that is no slash begins no such rest
not_follows : (b : ℕ) (bs rest : List ℕ) → b ≢ 47 → (rest ≡ []) ⊎ IsRooted rest → rest ≡ b ∷ bs → ⊥
not_follows b bs rest apart (inl none) e = no_cons _ _ (sym none ∙ e)
not_follows b bs rest apart (inr (tail, is)) e = apart (head_is _ _ _ _ (sym e ∙ is))

same_cut : (xs ys us vs : List ℕ) → IsSlashless xs → IsSlashless ys → (us ≡ []) ⊎ IsRooted us → (vs ≡ []) ⊎ IsRooted vs → xs ++ us ≡ ys ++ vs → (xs ≡ ys) × (us ≡ vs)
same_cut [] [] us vs h k f g e = (refl, e)
same_cut [] (y ∷ ys) us vs h k f g e = absurd (not_follows y (ys ++ vs) us k.0 f e)
same_cut (x ∷ xs) [] us vs h k f g e = absurd (not_follows x (xs ++ us) vs h.0 g (sym e))
same_cut (x ∷ xs) (y ∷ ys) us vs h k f g e =
    let (front, back) = same_cut xs ys us vs h.1 k.1 f g (tail_is _ _ _ _ e) in
    (ap₂ ◌∷◌ (head_is _ _ _ _ e) front, back)

same_segments : (xs ys : List (List Piece)) → AllByRecursion AreSegment xs → AllByRecursion AreSegment ys → path_of (map segment_text xs) ≡ path_of (map segment_text ys) → xs ≡ ys
same_segments [] [] h k e = refl
same_segments [] (y ∷ ys) h k e = absurd (no_cons _ _ e)
same_segments (x ∷ xs) [] h k e = absurd (no_cons _ _ (sym e))
same_segments (x ∷ xs) (y ∷ ys) h k e =
    let (front, back) = same_cut (segment_text x) (segment_text y) _ _ (text_slashless x h.0) (text_slashless y k.0) (path_follows (map segment_text xs)) (path_follows (map segment_text ys)) (tail_is _ _ _ _ e) in
    ap₂ ◌∷◌ (same_pieces x y h.0 k.0 front) (same_segments xs ys h.1 k.1 back)

pub one_normal : (path a b : List ℕ) → Normalises path a → Normalises path b → a ≡ b
one_normal path a b n m =
    n.normal_is ∙ ap (λ s. path_of (without_dots (map segment_written s))) (same_segments n.segments m.segments n.are_segments m.are_segments (sym n.path_is ∙ m.path_is)) ∙ sym m.normal_is
