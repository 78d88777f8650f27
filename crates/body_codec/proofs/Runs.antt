-- How runs over bytes go on.
use Rattle.std.proofs.Common.{◌≡◌, ◌≢◌, ℕ, zero, suc, ◌+◌, ◌-◌, ◌*◌, ◌^◌, ◌<◌, ◌≤◌, Bool, true, false, IsTrue, ◌↔◌, List, [], ◌∷◌, ◌++◌, length, take, drop, refl, sym, ◌∙◌, ap, arith, append_assoc, get_or, length-drop}
use Rattle.std.proofs.Math.Nat.{pow-le-pow_right}
use Rattle.std.proofs.lemmas.Grind.{pow_more}
use Rattle.std.proofs.lemmas.List.{take_more, length-take}
use Rattle.std.proofs.Math.Seq.{take-add, take-length}
use Rattle.body_codec.specs.Reading.{after, given, run, content, is_content, is_framing, IsPhase}
use Rattle.body_codec.specs.Feeding.{FramedTo, ContentTo, Takes}
use Rattle.body_codec.specs.declared.phases.Phase.{Phase}
use Rattle.body_codec.specs.declared.phases.Phase.TheVariants.{Length, ToEnd, Data, DataCr, Done, Bad}

pub size_bound : (digits size : ℕ) → digits ≤ 10 → size < 16 ^ digits → size < 2 ^ 40
size_bound digits size le lt = let bound : 16 ^ digits ≤ 16 ^ 10 = pow-le-pow_right {n = 16} (omega arith) le in omega arith

-- one more hexadecimal digit
pub size_more : (digits size d : ℕ) → size < 16 ^ digits → d < 16 → size * 16 + d < 16 ^ (digits + 1)
size_more digits size d h k = omega (arith, pow_more 16 digits)

pub run-append : (p : Phase) (xs ys : List ℕ) → run p (xs ++ ys) ≡ run (run p xs) ys
run-append p [] ys = refl
run-append p (x ∷ xs) ys = run-append (after p x) xs ys

pub content-append : (p : Phase) (xs ys : List ℕ) → content p (xs ++ ys) ≡ content p xs ++ content (run p xs) ys
content-append p [] ys = refl
content-append p (x ∷ xs) ys =
    ap (λ t. given p x ++ t) (content-append (after p x) xs ys)
    ∙ sym (append_assoc (given p x) (content (after p x) xs) (content (run (after p x) xs) ys))

given_framing : (p : Phase) (b : ℕ) → is_framing p ≡ true → given p b ≡ []
given_framing (Length left) b e = cc
given_framing ToEnd b e = cc
given_framing (Data left) b e = cc
given_framing _ b e = refl

-- one byte more
pub run_more : (p : Phase) (s : List ℕ) (i : ℕ) (d : ℕ) → i < length s → run p (take (i + 1) s) ≡ after (run p (take i s)) (get_or s i d)
run_more p s i d h = rw (take_more s i d h) (run-append p (take i s) (get_or s i d ∷ []))

content_more : (p : Phase) (s : List ℕ) (i : ℕ) (d : ℕ) → i < length s → content p (take (i + 1) s) ≡ content p (take i s) ++ (given (run p (take i s)) (get_or s i d) ++ [])
content_more p s i d h = rw (take_more s i d h) (content-append p (take i s) (get_or s i d ∷ []))

-- a byte of the framing is no content
pub framing_more : (p q : Phase) (s : List ℕ) (i : ℕ) (d : ℕ) → i < length s → run p (take i s) ≡ q → is_framing q ≡ true → content p (take i s) ≡ [] → content p (take (i + 1) s) ≡ []
framing_more p q s i d h e f n =
    content_more p s i d h ∙ ap (λ t. t ++ (given (run p (take i s)) (get_or s i d) ++ [])) n
    ∙ ap (λ r. given r (get_or s i d) ++ []) e ∙ ap (λ t. t ++ []) (given_framing q (get_or s i d) f)

-- a count of content: the phase with so many bytes left, and the phase after the last
record Counts (phase : ℕ → Phase) (end : Phase) : Type 0 where
  last : (b : ℕ) → after (phase 1) b ≡ end
  more : (n b : ℕ) → after (phase (suc (suc n))) b ≡ phase (suc n)
  gives : (n b : ℕ) → given (phase n) b ≡ b ∷ []

length_more : (n b : ℕ) → after (Length (suc (suc n))) b ≡ Length (suc n)
length_more n b = grind arith

data_more : (n b : ℕ) → after (Data (suc (suc n))) b ≡ Data (suc n)
data_more n b = grind arith

length_counts : Counts Length Done
length_counts = record { last = λ b. refl; more = length_more; gives = λ n b. refl }

data_counts : Counts Data DataCr
data_counts = record { last = λ b. refl; more = data_more; gives = λ n b. refl }

module _ {phase : ℕ → Phase} {end : Phase} (counts : Counts phase end) where
  counted_all : (n : ℕ) (xs : List ℕ) → length xs ≡ suc n → run (phase (suc n)) xs ≡ end
  counted_all n [] e = absurd (omega arith)
  counted_all zero (x ∷ []) e = counts.last x
  counted_all zero (x ∷ y ∷ xs) e = absurd (omega arith)
  counted_all (suc n) (x ∷ xs) e = ap (λ q. run q xs) (counts.more n x) ∙ counted_all n xs (omega arith)

  counted_part : (n : ℕ) (xs : List ℕ) → length xs < n → run (phase n) xs ≡ phase (n - length xs)
  counted_part n [] lt = ap phase (omega arith)
  counted_part zero (x ∷ xs) lt = absurd (omega arith)
  counted_part (suc zero) (x ∷ xs) lt = absurd (omega arith)
  counted_part (suc (suc n)) (x ∷ xs) lt = ap (λ q. run q xs) (counts.more n x) ∙ counted_part (suc n) xs (omega arith) ∙ ap phase (omega arith)

  counted_content : (n : ℕ) (xs : List ℕ) → length xs ≤ suc n → content (phase (suc n)) xs ≡ xs
  counted_content n [] le = refl
  counted_content zero (x ∷ []) le = ap (λ g. g ++ content (after (phase 1) x) []) (counts.gives 1 x)
  counted_content zero (x ∷ y ∷ xs) le = absurd (omega arith)
  counted_content (suc n) (x ∷ xs) le =
      ap (λ g. g ++ content (after (phase (suc (suc n))) x) xs) (counts.gives (suc (suc n)) x)
      ∙ ap (λ q. x ∷ content q xs) (counts.more n x) ∙ ap (λ t. x ∷ t) (counted_content n xs (omega arith))

pub run_length : (n : ℕ) (xs : List ℕ) → length xs ≡ suc n → run (Length (suc n)) xs ≡ Done
run_length n xs e = counted_all length_counts n xs e

pub content_length : (n : ℕ) (xs : List ℕ) → length xs ≤ suc n → content (Length (suc n)) xs ≡ xs
content_length n xs le = counted_content length_counts n xs le

pub run_data : (n : ℕ) (xs : List ℕ) → length xs ≡ suc n → run (Data (suc n)) xs ≡ DataCr
run_data n xs e = counted_all data_counts n xs e

pub content_data : (n : ℕ) (xs : List ℕ) → length xs ≤ suc n → content (Data (suc n)) xs ≡ xs
content_data n xs le = counted_content data_counts n xs le

module _ {phase : ℕ → Phase} {end : Phase} (counts : Counts phase end) where
  takes_all : (left : ℕ) (rest : List ℕ) → 0 < left → left ≤ length rest → end ≢ Bad → IsPhase end → ContentTo (phase left) rest left end
  takes_all zero rest some le good valid = absurd (omega arith)
  takes_all (suc n) rest some le good valid =
      let same : length (take (suc n) rest) ≡ suc n = omega (arith, length-take {A = ℕ}) in
      record {
        inside = le;
        state = counted_all counts n (take (suc n) rest) same;
        found = counted_content counts n (take (suc n) rest) (omega arith);
        good = good;
        valid = valid;
        progress = λ c h. some;
      }

  takes_part : (left : ℕ) (rest : List ℕ) → length rest < left → phase (left - length rest) ≢ Bad → IsPhase (phase (left - length rest)) → 0 < left
      → ContentTo (phase left) rest (length rest) (phase (left - length rest))
  takes_part zero rest lt good valid some = absurd (omega arith)
  takes_part (suc n) rest lt good valid some =
      let all : take (length rest) rest ≡ rest = take-length rest in
      record {
        inside = omega arith;
        state = ap (λ t. run (phase (suc n)) t) all ∙ counted_part counts (suc n) rest lt;
        found = ap (λ t. content (phase (suc n)) t) all ∙ counted_content counts n rest (omega arith) ∙ sym all;
        good = good;
        valid = valid;
        progress = λ c h. h;
      }

pub length_all : (left : ℕ) (rest : List ℕ) → 0 < left → left ≤ length rest → ContentTo (Length left) rest left Done
length_all left rest some le = takes_all length_counts left rest some le (λ e. cc) tt

pub length_part : (left : ℕ) (rest : List ℕ) → 0 < left → length rest < left → ContentTo (Length left) rest (length rest) (Length (left - length rest))
length_part left rest some lt = takes_part length_counts left rest lt (λ e. cc) (omega arith) some

pub data_all : (left : ℕ) (rest : List ℕ) → 0 < left → left ≤ length rest → ContentTo (Data left) rest left DataCr
data_all left rest some le = takes_all data_counts left rest some le (λ e. cc) tt

pub data_part : (left : ℕ) (rest : List ℕ) → 0 < left → left < 2 ^ 40 → length rest < left → ContentTo (Data left) rest (length rest) (Data (left - length rest))
data_part left rest some small lt = takes_part data_counts left rest lt (λ e. cc) (omega arith, omega arith) some

pub run_to_end : (xs : List ℕ) → run ToEnd xs ≡ ToEnd
run_to_end [] = refl
run_to_end (x ∷ xs) = run_to_end xs

pub content_to_end : (xs : List ℕ) → content ToEnd xs ≡ xs
content_to_end [] = refl
content_to_end (x ∷ xs) = ap (λ t. x ∷ t) (content_to_end xs)

pub end_all : (rest : List ℕ) → ContentTo ToEnd rest (length rest) ToEnd
end_all rest = record {
  inside = omega arith;
  state = run_to_end (take (length rest) rest);
  found = content_to_end (take (length rest) rest);
  good = λ e. cc;
  valid = tt;
  progress = λ c h. h;
}

pub no_content : (old : Phase) (rest : List ℕ) → old ≢ Bad → IsPhase old → is_content old ≡ false → ContentTo old rest 0 old
no_content old rest good valid e = record { inside = omega arith; state = refl; found = refl; good = good; valid = valid; progress = λ c h. cc }

take_two : (piece : List ℕ) (at len : ℕ) → at ≤ length piece → take (at + len) piece ≡ take at piece ++ take len (drop at piece)
take_two piece at len le = take-add at len piece

-- at the piece's begin a phase other than the last is framing, which is passed, or content
starts_as : (p : Phase) → is_framing p ≡ false → p ≢ Done → is_content p ≡ true
starts_as (Length left) e d = refl
starts_as ToEnd e d = refl
starts_as (Data left) e d = refl
starts_as Done e d = absurd (d refl)
starts_as _ e d = cc

moves : (old : Phase) (piece : List ℕ) (at len : ℕ) (mid new : Phase) → FramedTo old piece at mid → ContentTo mid (drop at piece) len new → old ≢ Done → 0 < length piece → 0 < at + len
moves old piece zero len mid new f c d more =
    let same : old ≡ mid = f.state in
    let open_mid : mid ≢ Done = λ e. d (same ∙ e) in
    let given_mid : is_content mid ≡ true = starts_as mid (f.stops more) open_mid in
    let first : 0 < len = c.progress given_mid (omega (arith, length-drop 0 piece)) in
    omega arith
moves old piece (suc at) len mid new f c d more = omega arith

-- framing and then content
pub takes : (old : Phase) (piece : List ℕ) (at len : ℕ) (mid new : Phase) (done : Bool) → FramedTo old piece at mid → ContentTo mid (drop at piece) len new → IsTrue done ↔ (new ≡ Done)
    → Takes old piece (at + len) at len done new
takes old piece at len mid new done f c ends =
    let cut : take (at + len) piece ≡ take at piece ++ take len (drop at piece) = take_two piece at len f.inside in
    record {
      inside = omega (arith, f.inside, c.inside, length-drop at piece);
      state = ap (λ t. run old t) cut ∙ run-append old (take at piece) (take len (drop at piece)) ∙ ap (λ q. run q (take len (drop at piece))) f.state ∙ c.state;
      found = ap (λ t. content old t) cut ∙ content-append old (take at piece) (take len (drop at piece))
          ∙ ap (λ t. t ++ content (run old (take at piece)) (take len (drop at piece))) f.found
          ∙ ap (λ q. content q (take len (drop at piece))) f.state ∙ c.found;
      within = omega arith;
      good = c.good;
      ends = ends;
      progress = λ d more. moves old piece at len mid new f c d more;
    }
