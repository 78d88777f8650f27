-- The counts of picks.
use Rattle.std.proofs.Common.{◌≡◌, ℕ, ◌==◌, ◌&&◌, ◌⊎◌, inl, inr, List, [], ◌∷◌, ◌++◌, refl, sym, ap, ◌∙◌, Bool, true, false, if◌then◌else◌}
use Rattle.std.specs.Prelude.{not, filter}
use Rattle.std.proofs.lemmas.Bool.Decides.{eqb_tells}
use Rattle.link_world.specs.declared.note.Look.{Look}
use Rattle.link_world.specs.declared.note.NodePick.{NodePick}
use Rattle.desk.specs.declared.told.Told.{Told}
use Rattle.desk.specs.declared.told.Told.TheVariants.{Began, Looked, Drew}
use Rattle.desk.specs.declared.told.NodeCount.{NodeCount}
use Rattle.desk.specs.Told.{picks_by, picks_after, picks_told, last_end, is_count, last_count, AreCounted}
use Rattle.desk.proofs.Keeps.{last_end_append, picks_at}

pub last_count_append : (n m count : ℕ) (xs ys : List NodeCount) → last_count n m count (xs ++ ys) ≡ last_count n m (last_count n m count xs) ys
last_count_append n m count [] ys = refl
last_count_append n m count (x ∷ xs) ys = last_count_append n m (if is_count x n m then x.pops else count) xs ys

-- the last of some counts
pub last_count_here : (n m : ℕ) (xs ys : List NodeCount) (x : NodeCount) → ys ≡ xs ++ x ∷ [] → is_count x n m ≡ true → last_count n m 0 ys ≡ x.pops
last_count_here n m xs ys x is at =
    ap (last_count n m 0) is ∙ last_count_append n m 0 xs (x ∷ []) ∙ ap (λ (b : Bool). if b then x.pops else last_count n m 0 xs) at

pub last_count_before : (n m : ℕ) (xs ys : List NodeCount) (x : NodeCount) → ys ≡ xs ++ x ∷ [] → is_count x n m ≡ false
    → last_count n m 0 ys ≡ last_count n m 0 xs
last_count_before n m xs ys x is at =
    ap (last_count n m 0) is ∙ last_count_append n m 0 xs (x ∷ []) ∙ ap (λ (b : Bool). if b then x.pops else last_count n m 0 xs) at

tells : (b : Bool) → (b ≡ true) ⊎ (b ≡ false)
tells true = inl refl
tells false = inr refl

-- a count that was taken out, of another number or node, didn't count
without : (p : NodeCount → Bool) (n m : ℕ) → ((c : NodeCount) → p c ≡ true → is_count c n m ≡ false) → (count : ℕ) (xs : List NodeCount)
    → last_count n m count (filter (λ c. not (p c)) xs) ≡ last_count n m count xs
without p n m away count [] = refl
without p n m away count (x ∷ xs) = elim (tells (p x)) [
  | inl h ↦ rw (h, away x h) (without p n m away count xs)
  | inr h ↦ rw (h) (without p n m away (if is_count x n m then x.pops else count) xs)
]

-- where all that counts was taken out, nothing is left of it
none_left : (p : NodeCount → Bool) (n m : ℕ) → ((c : NodeCount) → p c ≡ false → is_count c n m ≡ false) → (count : ℕ) (xs : List NodeCount)
    → last_count n m count (filter (λ c. not (p c)) xs) ≡ count
none_left p n m away count [] = refl
none_left p n m away count (x ∷ xs) = elim (tells (p x)) [
  | inl h ↦ rw (h) (none_left p n m away count xs)
  | inr h ↦ rw (h) (rw (away x h) (none_left p n m away count xs))
]

-- two places of one count are one
same_place : (c : NodeCount) (k node n m : ℕ) → is_count c k node ≡ true → ((k == n) && (node == m)) ≡ false → is_count c n m ≡ false
same_place c k node n m e d = elim (eqb_tells c.number k) [
  | inl h ↦ elim (eqb_tells c.node node) [
    | inl i ↦ ap (λ (x : ℕ). (x == n) && (c.node == m)) h.1 ∙ ap (λ (x : ℕ). (k == n) && (x == m)) i.1 ∙ d
    | inr i ↦ absurd (off_right (c.number == k) (c.node == node) e i.0)
  ]
  | inr h ↦ absurd (off_left (c.number == k) (c.node == node) e h.0)
]
  where
    off_left : (a b : Bool) → (a && b) ≡ true → a ≡ false → ⊥
    off_left true b e f = cc
    off_left false b e f = cc

    off_right : (a b : Bool) → (a && b) ≡ true → b ≡ false → ⊥
    off_right true true e f = cc
    off_right true false e f = cc
    off_right false b e f = cc

-- a count is put in place of the one before
pub put_counts : (old new : List NodeCount) (next : NodeCount) → new ≡ filter (λ c. not (is_count c next.number next.node)) old ++ next ∷ []
    → (n m : ℕ) → last_count n m 0 new ≡ (if is_count next n m then next.pops else last_count n m 0 old)
put_counts old new next e n m =
    ap (last_count n m 0) e ∙ last_count_append n m 0 (filter (λ c. not (is_count c next.number next.node)) old) (next ∷ []) ∙ by (is_count next n m) refl
  where
    by : (b : Bool) → is_count next n m ≡ b
        → (if b then next.pops else last_count n m 0 (filter (λ c. not (is_count c next.number next.node)) old)) ≡ (if b then next.pops else last_count n m 0 old)
    by true h = refl
    by false h = without (λ c. is_count c next.number next.node) n m (λ c p. same_place c next.number next.node n m p h) 0 old

-- and the counts are those of the picks still
pub counted_draw : (old new : List NodeCount) (told told' : List (ℕ × Told)) (k : ℕ) (p : NodePick) → AreCounted old told
    → told' ≡ told ++ (k, Drew p) ∷ [] → ((n m : ℕ) → last_count n m 0 new ≡ (if (k == n) && (p.node == m) then p.pick.to else last_count n m 0 old)) → AreCounted new told'
counted_draw old new told told' k p h e put n m =
    put n m ∙ by (k == n) (last_count n m 0 old) (picks_told told n) (h n m) ∙ sym (ap (last_end m 0) (picks_at told told' k n (Drew p) (k == n) e refl))
  where
    by : (b : Bool) (count : ℕ) (ps : List NodePick) → count ≡ last_end m 0 ps → (if b && (p.node == m) then p.pick.to else count) ≡ last_end m 0 (picks_by b ps (Drew p))
    by true count ps c = ap (λ (x : ℕ). if p.node == m then p.pick.to else x) c ∙ sym (last_end_append m 0 ps (p ∷ []))
    by false count ps c = c

pub counted_look : (counts : List NodeCount) (told told' : List (ℕ × Told)) (k : ℕ) (look : Look) → AreCounted counts told
    → told' ≡ told ++ (k, Looked look) ∷ [] → AreCounted counts told'
counted_look counts told told' k look h e n m = h n m ∙ sym (ap (last_end m 0) (picks_at told told' k n (Looked look) (k == n) e refl ∙ by (k == n) (picks_told told n)))
  where
    by : (b : Bool) (ps : List NodePick) → picks_by b ps (Looked look) ≡ ps
    by true ps = refl
    by false ps = refl

-- of a seat that begins there is none
pub counted_began : (old new : List NodeCount) (told told' : List (ℕ × Told)) (k : ℕ) → AreCounted old told
    → told' ≡ told ++ (k, Began) ∷ [] → new ≡ filter (λ c. not (c.number == k)) old → AreCounted new told'
counted_began old new told told' k h e gone n m =
    ap (last_count n m 0) gone ∙ by (k == n) refl ∙ sym (ap (last_end m 0) (picks_at told told' k n Began (k == n) e refl))
  where
    other : (c : NodeCount) → (k == n) ≡ true → (c.number == k) ≡ false → is_count c n m ≡ false
    other c q f = elim (eqb_tells k n) [
      | inl i ↦ ap (λ (x : ℕ). (c.number == x) && (c.node == m)) (sym i.1) ∙ ap (λ (b : Bool). b && (c.node == m)) f
      | inr i ↦ absurd (both (k == n) q i.0)
    ]
      where
        both : (b : Bool) → b ≡ true → b ≡ false → ⊥
        both true a b = cc
        both false a b = cc

    same : (c : NodeCount) → (k == n) ≡ false → (c.number == k) ≡ true → is_count c n m ≡ false
    same c q t = elim (eqb_tells c.number k) [
      | inl i ↦ ap (λ (x : ℕ). (x == n) && (c.node == m)) i.1 ∙ ap (λ (b : Bool). b && (c.node == m)) q
      | inr i ↦ absurd (both (c.number == k) t i.0)
    ]
      where
        both : (b : Bool) → b ≡ true → b ≡ false → ⊥
        both true a b = cc
        both false a b = cc

    by : (b : Bool) → (k == n) ≡ b → last_count n m 0 (filter (λ c. not (c.number == k)) old) ≡ last_end m 0 (picks_by b (picks_told told n) Began)
    by true q = none_left (λ c. c.number == k) n m (λ c f. other c q f) 0 old
    by false q = without (λ c. c.number == k) n m (λ c t. same c q t) 0 old ∙ h n m
