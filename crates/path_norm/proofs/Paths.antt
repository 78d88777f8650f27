-- The segments of a path, and how far the normal form has come.
use Rattle.std.proofs.Common.{◌≡◌, ◌≢◌, ℕ, zero, suc, ◌-◌, ◌<◌, ◌≤◌, ◌⊎◌, inl, inr, Bool, true, false, List, [], ◌∷◌, ◌++◌, length, get_or, take, drop, map, fold, refl, sym, ap, ◌∙◌, subst, arith, append_assoc, append-nil, take-append-drop, drop-cons, IsTrue, ◌||◌, ap₂}
use Rattle.std.proofs.lemmas.Bool.{cases_lt, cond_both, cond-true, cond-false, false≢true}
use Rattle.std.proofs.lemmas.Bool.Decides.{nat_tests}
use Rattle.std.proofs.lemmas.List.{take_rest, drop_all}
use Rattle.std.specs.Char.{is_ascii_hexdigit, to_ascii_uppercase, digit_value}
use Rattle.path_norm.proofs.Pieces.{all-append, whole-tail, whole-front}
use Rattle.std.proofs.lemmas.List.{map-append}
use Rattle.std.proofs.lemmas.Grind.{flat_map-append, fold-append}
use Rattle.std.specs.List.{AllByRecursion}
use Rattle.path_norm.specs.Escapes.{Piece, slash, plain, escape, written, octet, is_unreserved, IsPiece, AreSegment, segment_text, segment_written, HasWholeEscapes}
use Rattle.path_norm.specs.Dots.{path_of, resolved, ends_in_dots, with_segment, is_dot, is_dot_dot, is_dots, without_dots}
use Rattle.path_norm.specs.Normal.{IsRooted, Normalises, IsSlashless}

-- the segments that were added, and what is left of the path
pub record Progress (path rest out : List ℕ) (dots : Bool) : Type 0 where
  pub segments : List (List Piece)
  pub are : AllByRecursion AreSegment segments
  pub split : path ≡ path_of (map segment_text segments) ++ rest
  pub out_is : out ≡ path_of (resolved (map segment_written segments))
  pub dots_is : dots ≡ ends_in_dots (map segment_written segments)
  pub begins : (rest ≡ []) ⊎ IsRooted rest
  pub whole : HasWholeEscapes rest

pub progress_none : (path out : List ℕ) → IsRooted path → HasWholeEscapes path → out ≡ [] → Progress path path out false
progress_none path out rooted whole empty = record {
  segments = [];
  are = tt;
  split = λ _. path;
  out_is = empty;
  dots_is = λ _. false;
  begins = inr rooted;
  whole = whole;
}

-- ---- what each segment of the normal path keeps

all_take : (P : List ℕ → Type 0) (n : ℕ) (xs : List (List ℕ)) → AllByRecursion P xs → AllByRecursion P (take n xs)
all_take P zero xs h = tt
all_take P (suc n) [] h = tt
all_take P (suc n) (x ∷ xs) h = (h.0, all_take P n xs h.1)

not_dots : (a b : Bool) → a ≡ false → b ≡ false → (a || b) ≡ false
not_dots a b p q = rw (p, q) refl

all_with : (P : List ℕ → Type 0) (stack : List (List ℕ)) (s : List ℕ) → AllByRecursion P stack → (is_dots s ≡ false → P s) → AllByRecursion P (with_segment stack s)
all_with P stack s h k =
    cond_both (is_dot s) _ _ (AllByRecursion P) (λ _. h) (λ no_dot.
    cond_both (is_dot_dot s) _ _ (AllByRecursion P) (λ _. all_take P (length stack - 1) stack h) (λ no_dot_dot.
    all-append P stack (s ∷ []) h (k (not_dots _ _ no_dot no_dot_dot), tt)))

all_resolved : (P : List ℕ → Type 0) (segments stack : List (List ℕ)) → AllByRecursion P stack → AllByRecursion (λ s. is_dots s ≡ false → P s) segments → AllByRecursion P (fold with_segment stack segments)
all_resolved P [] stack h k = h
all_resolved P (s ∷ segments) stack h k = all_resolved P segments (with_segment stack s) (all_with P stack s h k.0) k.1

pub all_without : (P : List ℕ → Type 0) (segments : List (List ℕ)) → P [] → AllByRecursion (λ s. is_dots s ≡ false → P s) segments → AllByRecursion P (without_dots segments)
all_without P segments none h =
    let left = all_resolved P segments [] tt h in
    cond_both (ends_in_dots segments) _ _ (AllByRecursion P) (λ _. all-append P (resolved segments) ([] ∷ []) left (none, tt)) (λ _. left)

pub all_written : (Q : List ℕ → Type 0) → ((pieces : List Piece) → AreSegment pieces → Q (segment_written pieces)) → (segments : List (List Piece)) → AllByRecursion AreSegment segments → AllByRecursion Q (map segment_written segments)
all_written Q each [] h = tt
all_written Q each (pieces ∷ segments) h = (each pieces h.0, all_written Q each segments h.1)

-- ---- no slash is written

pub upper_digit : (c : ℕ) → IsTrue (is_ascii_hexdigit c) → IsTrue (is_ascii_hexdigit (to_ascii_uppercase c))
upper_digit c h = grind (arith, nat_tests)

pub upper_value : (c : ℕ) → IsTrue (is_ascii_hexdigit c) → digit_value (to_ascii_uppercase c) ≡ digit_value c
upper_value c h = grind (arith, nat_tests)

pub upper_upper : (c : ℕ) → to_ascii_uppercase (to_ascii_uppercase c) ≡ to_ascii_uppercase c
upper_upper c = grind (arith, nat_tests)

digit_apart : (c : ℕ) → IsTrue (is_ascii_hexdigit c) → c ≢ 47
digit_apart c h e = let at : IsTrue (is_ascii_hexdigit 47) = subst (λ b. IsTrue (is_ascii_hexdigit b)) e h in false≢true at

pub unreserved_apart : (c : ℕ) → is_unreserved c ≡ true → (c ≢ 37) × (c ≢ 47)
unreserved_apart c h = (
  λ e. let at : is_unreserved 37 ≡ true = subst (λ b. is_unreserved b ≡ true) e h in false≢true at,
  λ e. let at : is_unreserved 47 ≡ true = subst (λ b. is_unreserved b ≡ true) e h in false≢true at,
)

slashless_piece : (p : Piece) → IsPiece p → IsSlashless (written p)
slashless_piece (plain b) h = (h.1, tt)
slashless_piece (escape high low) h =
    cond_both (is_unreserved (octet high low)) _ _ IsSlashless
    (λ unreserved. ((unreserved_apart _ unreserved).1, tt))
    (λ _. ((λ e. omega arith), (digit_apart _ (upper_digit high h.0), (digit_apart _ (upper_digit low h.1), tt))))

pub slashless_written : (pieces : List Piece) → AreSegment pieces → IsSlashless (segment_written pieces)
slashless_written [] h = tt
slashless_written (p ∷ pieces) h = all-append _ (written p) (segment_written pieces) (slashless_piece p h.0) (slashless_written pieces h.1)

pub stack_slashless : (segments : List (List Piece)) → AllByRecursion AreSegment segments → AllByRecursion IsSlashless (resolved (map segment_written segments))
stack_slashless segments h =
    all_resolved IsSlashless (map segment_written segments) [] tt (all_written (λ s. is_dots s ≡ false → IsSlashless s) (λ pieces are _. slashless_written pieces are) segments h)

-- ---- one more segment

path_snoc : (segments : List (List ℕ)) (s rest : List ℕ) → path_of (segments ++ s ∷ []) ++ rest ≡ path_of segments ++ ((47 ∷ s) ++ rest)
path_snoc segments s rest =
    ap (λ p. p ++ rest) (flat_map-append (λ t. slash ∷ t) segments (s ∷ []) ∙ ap (λ t. path_of segments ++ slash ∷ t) (append-nil s))
    ∙ append_assoc (path_of segments) (47 ∷ s) rest

pub progress_more : (path rest front back out new : List ℕ) (old dots : Bool) (pieces : List Piece) → (p : Progress path rest out old) → rest ≡ (47 ∷ front) ++ back
    → (back ≡ []) ⊎ IsRooted back → AreSegment pieces → front ≡ segment_text pieces → dots ≡ is_dots (segment_written pieces)
    → new ≡ path_of (with_segment (resolved (map segment_written p.segments)) (segment_written pieces)) → Progress path back new dots
progress_more path rest front back out new old dots pieces p rest_is begins are text_is dots_is new_is =
    let written_all = map-append segment_written p.segments (pieces ∷ []) in
    record {
      segments = p.segments ++ pieces ∷ [];
      are = all-append AreSegment p.segments (pieces ∷ []) p.are (are, tt);
      split =
          p.split ∙ ap (λ t. path_of (map segment_text p.segments) ++ t) (rest_is ∙ ap (λ t. (47 ∷ t) ++ back) text_is)
          ∙ sym (path_snoc (map segment_text p.segments) (segment_text pieces) back)
          ∙ ap (λ t. path_of t ++ back) (sym (map-append segment_text p.segments (pieces ∷ [])));
      out_is =
          new_is ∙ ap path_of (sym (fold-append with_segment [] (map segment_written p.segments) (segment_written pieces ∷ [])) ∙ ap resolved (sym written_all));
      dots_is =
          dots_is ∙ sym (fold-append (λ _ s. is_dots s) false (map segment_written p.segments) (segment_written pieces ∷ [])) ∙ ap ends_in_dots (sym written_all);
      begins = begins;
      whole = whole-tail (47 ∷ front) back (subst HasWholeEscapes rest_is p.whole);
    }

pub rooted_rest : (rest : List ℕ) → (rest ≡ []) ⊎ IsRooted rest → 0 < length rest → IsRooted rest
rooted_rest rest (inl none) some = absurd (let e = ap length none in omega arith)
rooted_rest rest (inr rooted) some = rooted

-- ---- the end of the path

none_left : (rest : List ℕ) → length rest ≤ 0 → rest ≡ []
none_left [] h = refl
none_left (x ∷ rest) h = absurd (omega arith)

pub finished : (path rest out : List ℕ) (dots : Bool) → Progress path rest out dots → length rest ≤ 0 → dots ≡ false → Normalises path out
finished path rest out dots p empty no_dots = record {
  segments = p.segments;
  are_segments = p.are;
  path_is = p.split ∙ ap (λ t. path_of (map segment_text p.segments) ++ t) (none_left rest empty) ∙ append-nil _;
  normal_is = p.out_is ∙ ap path_of (sym (cond-false (ends_in_dots (map segment_written p.segments)) _ _ (sym p.dots_is ∙ no_dots)));
}

pub finished_dots : (path rest out new : List ℕ) (dots : Bool) → Progress path rest out dots → length rest ≤ 0 → dots ≡ true → new ≡ out ++ 47 ∷ [] → Normalises path new
finished_dots path rest out new dots p empty some added = record {
  segments = p.segments;
  are_segments = p.are;
  path_is = p.split ∙ ap (λ t. path_of (map segment_text p.segments) ++ t) (none_left rest empty) ∙ append-nil _;
  normal_is =
      added ∙ ap (λ t. t ++ 47 ∷ []) p.out_is ∙ sym (flat_map-append (λ t. slash ∷ t) (resolved (map segment_written p.segments)) ([] ∷ []))
      ∙ ap path_of (sym (cond-true (ends_in_dots (map segment_written p.segments)) _ _ (sym p.dots_is ∙ some)));
}

-- ---- cutting a segment

pub tail_is : (rest : List ℕ) → IsRooted rest → rest ≡ 47 ∷ take (length rest - 1) (drop 1 rest)
tail_is rest (tail, is) = is ∙ ap (λ t. 47 ∷ t) (sym (take_rest rest 1 ∙ ap (λ r. drop 1 r) is))

pub cut_is : (rest tail front back : List ℕ) (n : ℕ) → rest ≡ 47 ∷ tail → front ≡ take n tail → back ≡ drop n tail → rest ≡ (47 ∷ front) ++ back
cut_is rest tail front back n is is_front is_back = is ∙ ap (λ t. 47 ∷ t) (sym (take-append-drop n tail) ∙ ap₂ ◌++◌ (sym is_front) (sym is_back))

pub back_begins : (tail back : List ℕ) (n : ℕ) → back ≡ drop n tail → n ≤ length tail → (n < length tail → get_or tail n 0 ≡ 47) → (back ≡ []) ⊎ IsRooted back
back_begins tail back n is within slash_at =
    elim (cases_lt n (length tail)) [
      | inl less ↦ inr (drop (suc n) tail, is ∙ drop-cons tail n 0 less ∙ ap (λ b. b ∷ drop (suc n) tail) (slash_at less))
      | inr all ↦ inl (is ∙ drop_all n tail all)
    ]

stops : (back : List ℕ) → (back ≡ []) ⊎ IsRooted back → (get_or back 0 0 ≡ 0) ⊎ (get_or back 0 0 ≡ 47)
stops back (inl none) = inl (ap (λ b. get_or b 0 0) none)
stops back (inr (tail, is)) = inr (ap (λ b. get_or b 0 0) is)

pub front_whole : (rest front back : List ℕ) → rest ≡ (47 ∷ front) ++ back → (back ≡ []) ⊎ IsRooted back → HasWholeEscapes rest → HasWholeEscapes front
front_whole rest front back is begins whole = whole-front front back (whole-tail (47 ∷ []) (front ++ back) (subst HasWholeEscapes is whole)) (stops back begins)
