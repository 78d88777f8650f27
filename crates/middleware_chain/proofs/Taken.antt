-- The path of a request that is taken is one word.
use Rattle.std.proofs.Common.{◌≡◌, ◌∙◌, ℕ, ◌+◌, ◌-◌, ◌<◌, ◌≤◌, ◌==◌, List, [], ◌∷◌, ◌++◌, Bool, true, false, not, ◌&&◌, ◌||◌, cond, refl, sym, ap, subst, inl, inr, arith, flat_map, fold, nat_lt, nat_le, length, take, drop, map, zero, suc, Option, Some, None, Ok}
use Rattle.std.specs.List.{list_all, position, AllByRecursion}
use Rattle.std.specs.Char.{is_ascii_digit, is_ascii_hexdigit, is_ascii_alphanumeric, to_ascii_uppercase}
use Rattle.std.specs.Int.{is_in_range}
use Rattle.std.proofs.lemmas.Bool.{and_parts, and_from, cond_both, false_from_ne_true, leb-true, lt-ltb, ltb-false, eqb-true, or_cases, or_parts, not-false}
use Rattle.std.proofs.lemmas.List.Folds.{list_all-append}
use Rattle.head_view.specs.Lines.{Line as Field}
use Rattle.http_wire.specs.Fields.{is_same}
use Rattle.http_wire.specs.Requests.{TakesRequest, IsRequestOf, IsSound, host_in}
use Rattle.http_wire.specs.Targets.{before_place, behind_scheme, ends_authority, from_place, is_absolute, is_bad_target, is_origin, is_question, is_target_byte, or_slash, path_and_query, path_of}
use Rattle.http_wire.specs.declared.message.Request.{Request}
use Rattle.ip_net.specs.declared.ip.Ip.{Ip}
use Rattle.path_norm.specs.Dots.{ends_in_dots, is_dot, is_dot_dot, parent, path_of as joined_path, resolved, with_segment, without_dots}
use Rattle.path_norm.specs.Escapes.{Piece, plain, escape, AreSegment, IsPiece, is_unreserved, octet, segment_text, segment_written, spelled, written, percent, slash}
use Rattle.path_norm.specs.Normal.{Normalises}
use Rattle.middleware_chain.specs.Written.{is_one_word, is_word_byte}
use Rattle.middleware_chain.proofs.Texts.{of_bytes}

take_all : (p : ℕ → Bool) (n : ℕ) (text : List ℕ) → list_all p text ≡ true → list_all p (take n text) ≡ true
take_all p zero text all = refl
take_all p (suc n) [] all = refl
take_all p (suc n) (b ∷ text) all = let parts = and_parts (p b) (list_all p text) all in and_from (p b) (list_all p (take n text)) parts.0 (take_all p n text parts.1)

drop_all : (p : ℕ → Bool) (n : ℕ) (text : List ℕ) → list_all p text ≡ true → list_all p (drop n text) ≡ true
drop_all p zero text all = all
drop_all p (suc n) [] all = refl
drop_all p (suc n) (b ∷ text) all = drop_all p n text (and_parts (p b) (list_all p text) all).1

before_all : (p : ℕ → Bool) (o : Option ℕ) (text : List ℕ) → list_all p text ≡ true → list_all p (before_place o text) ≡ true
before_all p None text all = all
before_all p (Some at) text all = take_all p at text all

from_all : (p : ℕ → Bool) (o : Option ℕ) (text : List ℕ) → list_all p text ≡ true → list_all p (from_place o text) ≡ true
from_all p None text all = refl
from_all p (Some at) text all = drop_all p at text all

slash_all : (text : List ℕ) → is_one_word text ≡ true → is_one_word (or_slash text) ≡ true
slash_all [] all = refl
slash_all (b ∷ rest) all = all

pieces_all : (target : List ℕ) (b : Bool) → is_one_word target ≡ true
    → is_one_word (cond b (from_place (position ends_authority (behind_scheme target)) (behind_scheme target)) target) ≡ true
pieces_all target true all = from_all is_word_byte (position ends_authority (behind_scheme target)) (behind_scheme target) (drop_all is_word_byte 7 target all)
pieces_all target false all = all

path_word : (target : List ℕ) → is_one_word target ≡ true → is_one_word (path_of target) ≡ true
path_word target all =
    slash_all (before_place (position is_question (path_and_query target)) (path_and_query target))
    (before_all is_word_byte (position is_question (path_and_query target)) (path_and_query target) (pieces_all target (is_absolute target) all))

target_byte_word : (b : ℕ) → is_target_byte b ≡ true → is_word_byte b ≡ true
target_byte_word b t =
    let outer = and_parts (nat_le 33 b && nat_le b 126) (not (b == 35)) t in
    lt-ltb 32 b (let l = leb-true 33 b (and_parts (nat_le 33 b) (nat_le b 126) outer.0).0 in omega (arith, l))

target_word : (method target host : List ℕ) → ¬ (is_bad_target method target host ≡ true) → is_one_word target ≡ true
target_word method target host good =
    let none = false_from_ne_true (is_bad_target method target host) good in
    let a = or_parts (is_same method _ || not (is_origin target || is_absolute target) || not (list_all is_target_byte target)) (not (list_all is_target_byte host)) none in
    let b = or_parts (is_same method _ || not (is_origin target || is_absolute target)) (not (list_all is_target_byte target)) a.0 in
    of_bytes is_target_byte is_word_byte target_byte_word target (not-false (list_all is_target_byte target) b.1)

word-append : (a b : List ℕ) → is_one_word a ≡ true → is_one_word b ≡ true → is_one_word (a ++ b) ≡ true
word-append a b x y = list_all-append is_word_byte a b ∙ and_from (is_one_word a) (is_one_word b) x y

word-parts : (a b : List ℕ) → is_one_word (a ++ b) ≡ true → (is_one_word a ≡ true) × (is_one_word b ≡ true)
word-parts a b w = and_parts (is_one_word a) (is_one_word b) (sym (list_all-append is_word_byte a b) ∙ w)

upper_word : (b : ℕ) → is_word_byte b ≡ true → is_word_byte (to_ascii_uppercase b) ≡ true
upper_word b w =
    cond_both (nat_lt b 97) b (cond (nat_lt b 123) (b - 32) b) (λ (x : ℕ). is_word_byte x ≡ true) (λ e. w)
    (λ e. cond_both (nat_lt b 123) (b - 32) b (λ (x : ℕ). is_word_byte x ≡ true) (λ f. lt-ltb 32 (b - 32) (let l = ltb-false b 97 e in omega (arith, l))) (λ f. w))

either : (x y : Bool) (P : Type 0) → (x ≡ true → P) → (y ≡ true → P) → (x || y) ≡ true → P
either x y P f g e = elim (or_cases x y e) [ inl a ↦ f a | inr b ↦ g b ]

range_word : (low high b : ℕ) → 32 < low → is_in_range low high b ≡ true → is_word_byte b ≡ true
range_word low high b l e = lt-ltb 32 b (let m = leb-true low b (and_parts (nat_le low b) (nat_le b high) e).0 in omega (arith, l, m))

same_word : (n b : ℕ) → 32 < n → (b == n) ≡ true → is_word_byte b ≡ true
same_word n b l e = lt-ltb 32 b (let m = eqb-true b n e in omega (arith, l, m))

letter_word : (b : ℕ) → is_ascii_alphanumeric b ≡ true → is_word_byte b ≡ true
letter_word b e =
    either (is_in_range 48 57 b || is_in_range 65 90 b) (is_in_range 97 122 b) (is_word_byte b ≡ true)
    (λ x. either (is_in_range 48 57 b) (is_in_range 65 90 b) (is_word_byte b ≡ true) (λ y. range_word 48 57 b (omega arith) y) (λ y. range_word 65 90 b (omega arith) y) x)
    (λ x. range_word 97 122 b (omega arith) x) e

octet_word : (b : ℕ) → is_unreserved b ≡ true → is_word_byte b ≡ true
octet_word b u =
    either (is_ascii_alphanumeric b || (b == 45) || (b == 46) || (b == 95)) (b == 126) (is_word_byte b ≡ true)
    (λ v. either (is_ascii_alphanumeric b || (b == 45) || (b == 46)) (b == 95) (is_word_byte b ≡ true)
    (λ w. either (is_ascii_alphanumeric b || (b == 45)) (b == 46) (is_word_byte b ≡ true)
    (λ x. either (is_ascii_alphanumeric b) (b == 45) (is_word_byte b ≡ true) (λ y. letter_word b y) (λ y. same_word 45 b (omega arith) y) x)
    (λ x. same_word 46 b (omega arith) x) w)
    (λ w. same_word 95 b (omega arith) w) v)
    (λ v. same_word 126 b (omega arith) v) u

written_word : (p : Piece) → is_one_word (spelled p) ≡ true → is_one_word (written p) ≡ true
written_word (plain b) w = w
written_word (escape high low) w =
    let a = and_parts (is_word_byte percent) (is_word_byte high && (is_word_byte low && true)) w in
    let b = and_parts (is_word_byte high) (is_word_byte low && true) a.1 in
    let c = and_parts (is_word_byte low) true b.1 in
    cond_both (is_unreserved (octet high low)) (octet high low ∷ []) (percent ∷ to_ascii_uppercase high ∷ to_ascii_uppercase low ∷ []) (λ (t : List ℕ). is_one_word t ≡ true)
    (λ u. and_from (is_word_byte (octet high low)) true (octet_word (octet high low) u) refl)
    (λ u. and_from (is_word_byte (to_ascii_uppercase high)) (is_word_byte (to_ascii_uppercase low) && true) (upper_word high b.0)
    (and_from (is_word_byte (to_ascii_uppercase low)) true (upper_word low c.0) refl))

segment_word : (pieces : List Piece) → is_one_word (segment_text pieces) ≡ true → is_one_word (segment_written pieces) ≡ true
segment_word [] w = refl
segment_word (p ∷ pieces) w =
    let parts = word-parts (spelled p) (segment_text pieces) w in
    word-append (written p) (segment_written pieces) (written_word p parts.0) (segment_word pieces parts.1)

abbrev are_words : List (List ℕ) → Bool
are_words segments = list_all is_one_word segments

written_words : (segments : List (List Piece)) → is_one_word (joined_path (map segment_text segments)) ≡ true → are_words (map segment_written segments) ≡ true
written_words [] w = refl
written_words (s ∷ segments) w =
    let parts = word-parts (segment_text s) (joined_path (map segment_text segments)) w in
    and_from (is_one_word (segment_written s)) (are_words (map segment_written segments)) (segment_word s parts.0) (written_words segments parts.1)

taken_words : (n : ℕ) (segments : List (List ℕ)) → are_words segments ≡ true → are_words (take n segments) ≡ true
taken_words zero segments all = refl
taken_words (suc n) [] all = refl
taken_words (suc n) (s ∷ segments) all =
    let parts = and_parts (is_one_word s) (are_words segments) all in and_from (is_one_word s) (are_words (take n segments)) parts.0 (taken_words n segments parts.1)

one_more : (before : List (List ℕ)) (s : List ℕ) → are_words before ≡ true → is_one_word s ≡ true → are_words (with_segment before s) ≡ true
one_more before s all w =
    cond_both (is_dot s) before (cond (is_dot_dot s) (parent before) (before ++ s ∷ [])) (λ (ss : List (List ℕ)). are_words ss ≡ true) (λ e. all)
    (λ e. cond_both (is_dot_dot s) (parent before) (before ++ s ∷ []) (λ (ss : List (List ℕ)). are_words ss ≡ true) (λ f. taken_words (length before - 1) before all)
    (λ f. list_all-append is_one_word before (s ∷ []) ∙ and_from (are_words before) (is_one_word s && true) all (and_from (is_one_word s) true w refl)))

folded_words : (segments before : List (List ℕ)) → are_words before ≡ true → are_words segments ≡ true → are_words (fold with_segment before segments) ≡ true
folded_words [] before all rest = all
folded_words (s ∷ segments) before all rest =
    let parts = and_parts (is_one_word s) (are_words segments) rest in folded_words segments (with_segment before s) (one_more before s all parts.0) parts.1

undotted : (segments : List (List ℕ)) → are_words segments ≡ true → are_words (without_dots segments) ≡ true
undotted segments all =
    let left : are_words (resolved segments) ≡ true = folded_words segments [] refl all in
    cond_both (ends_in_dots segments) (resolved segments ++ [] ∷ []) (resolved segments) (λ (ss : List (List ℕ)). are_words ss ≡ true)
    (λ e. list_all-append is_one_word (resolved segments) ([] ∷ []) ∙ and_from (are_words (resolved segments)) true left refl) (λ e. left)

joined_word : (segments : List (List ℕ)) → are_words segments ≡ true → is_one_word (joined_path segments) ≡ true
joined_word [] all = refl
joined_word (s ∷ segments) all =
    let parts = and_parts (is_one_word s) (are_words segments) all in word-append s (joined_path segments) parts.0 (joined_word segments parts.1)

normal_word : (path normal : List ℕ) → Normalises path normal → is_one_word path ≡ true → is_one_word normal ≡ true
normal_word path normal n w =
    ap is_one_word n.normal_is
    ∙ joined_word (without_dots (map segment_written n.segments)) (undotted (map segment_written n.segments) (written_words n.segments (ap is_one_word (sym n.path_is) ∙ w)))

pub taken_word : (method target : List ℕ) (version : ℕ) (lines : List Field) (peer : Ip) (q : Request) → TakesRequest method target version lines peer (Ok q) → is_one_word q.path ≡ true
taken_word method target version lines peer q (sound, whole, is) =
    normal_word (path_of target) q.path is.path_is (path_word target (target_word method target (host_in target lines) sound.target_taken))
