-- Places of links.
use Rattle.std.proofs.Common.{◌≡◌, ◌≢◌, ℕ, ◌+◌, ◌<◌, ◌≤◌, List, [], ◌∷◌, ◌++◌, map, refl, sym, ap, ◌∙◌, Bool, true, false, cond, zero, suc, length, get_or, take, subst, add-one, arith}
use Rattle.std.specs.Prelude.{◌==◌, ◌||◌, slice_set}
use Rattle.std.proofs.lemmas.Bool.{false≢true}
use Rattle.std.proofs.lemmas.Bool.Decides.{nat_tests}
use Rattle.memory_world.specs.declared.mark.Mark.{Mark}
use Rattle.memory_world.specs.Marks.{blank, has, mark_of, IsFirst, open_count, after_wait, Put, Added}

pub first_within : (marks : List Mark) (link at : ℕ) → IsFirst marks link at → at < length marks
first_within [] link at h = absurd h
first_within (m ∷ marks) link zero h = omega arith
first_within (m ∷ marks) link (suc at) h = let before = first_within marks link at h.1 in omega (arith, before)

-- the first element with the link, none of those before it having it
first_at : (marks : List Mark) (link at : ℕ) (d : Mark) → at < length marks → has (take at marks) link ≡ false → ((get_or marks at d).link == link) ≡ true → IsFirst marks link at
first_at [] link at d within none here = absurd (omega arith)
first_at (m ∷ marks) link zero d within none here = here
first_at (m ∷ marks) link (suc at) d within none here = (left, first_at marks link at d (omega arith) right here)
  where
    left : (m.link == link) ≡ false
    left = grind (arith, none)

    right : has (take at marks) link ≡ false
    right = grind (arith, none)

pub first_here : (marks : List Mark) (link at : ℕ) (d : Mark) → at < length marks → has (take at marks) link ≡ false → (get_or marks at d).link ≡ link → IsFirst marks link at
first_here marks link at d within none here = first_at marks link at d within none (grind (arith, nat_tests, here))

none_suc : (marks : List Mark) (link at : ℕ) (d : Mark) → at < length marks → has (take at marks) link ≡ false → ((get_or marks at d).link == link) ≡ false → has (take (suc at) marks) link ≡ false
none_suc [] link at d within none here = absurd (omega arith)
none_suc (m ∷ marks) link zero d within none here = rw here refl
none_suc (m ∷ marks) link (suc at) d within none here =
    let left : (m.link == link) ≡ false = grind (arith, none) in
    let right : has (take at marks) link ≡ false = grind (arith, none) in
    rw left (none_suc marks link at d (omega arith) right here)

pub none_next : (marks : List Mark) (link at : ℕ) (d : Mark) → at < length marks → has (take at marks) link ≡ false → (get_or marks at d).link ≢ link → has (take (at + 1) marks) link ≡ false
none_next marks link at d within none here = subst (λ (n : ℕ). has (take n marks) link ≡ false) (sym (add-one at)) (none_suc marks link at d within none (grind (arith, nat_tests, here)))

-- what stands at the first place
pub first_mark : (marks : List Mark) (link at : ℕ) (d : Mark) → IsFirst marks link at → get_or marks at d ≡ mark_of marks link
first_mark [] link at d h = absurd h
first_mark (m ∷ marks) link zero d h = rw h refl
first_mark (m ∷ marks) link (suc at) d h = rw h.0 (first_mark marks link at d h.1)

pub first_link : (marks : List Mark) (link at : ℕ) → IsFirst marks link at → (mark_of marks link).link ≡ link
first_link [] link at h = absurd h
first_link (m ∷ marks) link zero h = rw h (grind (arith, nat_tests, h))
first_link (m ∷ marks) link (suc at) h = rw h.0 (first_link marks link at h.1)

pub first_has : (marks : List Mark) (link at : ℕ) → IsFirst marks link at → has marks link ≡ true
first_has [] link at h = absurd h
first_has (m ∷ marks) link zero h = rw h refl
first_has (m ∷ marks) link (suc at) h = rw h.0 (first_has marks link at h.1)

set_here : (marks : List Mark) (link at : ℕ) (m : Mark) → IsFirst marks link at → (m.link == link) ≡ true → mark_of (slice_set marks at m) link ≡ m
set_here [] link at m h is = absurd h
set_here (x ∷ marks) link zero m h is = rw is refl
set_here (x ∷ marks) link (suc at) m h is = rw h.0 (set_here marks link at m h.1 is)

set_other : (marks : List Mark) (link at : ℕ) (m : Mark) (l : ℕ) → IsFirst marks link at → (m.link == link) ≡ true → l ≢ link → mark_of (slice_set marks at m) l ≡ mark_of marks l
set_other [] link at m l h is ne = absurd h
set_other (x ∷ marks) link zero m l h is ne =
    let a : (x.link == l) ≡ false = grind (arith, nat_tests, h, ne) in
    let b : (m.link == l) ≡ false = grind (arith, nat_tests, is, ne) in
    rw a (rw b refl)
set_other (x ∷ marks) link (suc at) m l h is ne = ap (λ (r : Mark). cond (x.link == l) x r) (set_other marks link at m l h.1 is ne)

set_has : (marks : List Mark) (link at : ℕ) (m : Mark) (l : ℕ) → IsFirst marks link at → (m.link == link) ≡ true → has (slice_set marks at m) l ≡ has marks l
set_has [] link at m l h is = absurd h
set_has (x ∷ marks) link zero m l h is =
    let same : (m.link == l) ≡ (x.link == l) = grind (arith, nat_tests, h, is) in ap (λ (b : Bool). b || has marks l) same
set_has (x ∷ marks) link (suc at) m l h is = ap (λ (b : Bool). (x.link == l) || b) (set_has marks link at m l h.1 is)

pub put_set : (marks : List Mark) (link at : ℕ) (m : Mark) → IsFirst marks link at → m.link ≡ link → Put marks link m (slice_set marks at m)
put_set marks link at m h e =
    let is : (m.link == link) ≡ true = grind (arith, nat_tests, e) in
    record { here = set_here marks link at m h is; others = λ l ne. set_other marks link at m l h is ne; has = λ l. set_has marks link at m l h is }

-- how many are open after a change
pub count_set : (marks : List Mark) (link at : ℕ) (m : Mark) → IsFirst marks link at → open_count (slice_set marks at m) + cond (mark_of marks link).is_open 1 0 ≡ open_count marks + cond m.is_open 1 0
count_set [] link at m h = absurd h
count_set (x ∷ marks) link zero m h = rw h (omega arith)
count_set (x ∷ marks) link (suc at) m h = rw h.0 (let before = count_set marks link at m h.1 in omega (arith, before))

pub count_stays : (n m : ℕ) (a b : Bool) → n + cond a 1 0 ≡ m + cond b 1 0 → b ≡ a → n ≡ m
count_stays n m a b e is = let f : n + cond a 1 0 ≡ m + cond a 1 0 = e ∙ ap (λ (x : Bool). m + cond x 1 0) is in omega (arith, f)

pub count_falls : (n m : ℕ) (a b : Bool) → n + cond a 1 0 ≡ m + cond b 1 0 → a ≡ true → b ≡ false → n + 1 ≡ m
count_falls n m a b e was is = let f : n + 1 ≡ m + 0 = sym (ap (λ (x : Bool). n + cond x 1 0) was) ∙ e ∙ ap (λ (x : Bool). m + cond x 1 0) is in omega (arith, f)

pub count_most : (marks : List Mark) → open_count marks ≤ length marks
count_most [] = omega arith
count_most (m ∷ marks) = let before = count_most marks in one m.is_open before
  where
    one : (b : Bool) → open_count marks ≤ length marks → open_count marks + cond b 1 0 ≤ suc (length marks)
    one true h = omega (arith, h)
    one false h = omega (arith, h)

pub count_wait : (marks : List Mark) → open_count (map after_wait marks) ≡ open_count marks
count_wait [] = refl
count_wait (m ∷ marks) = ap (λ (n : ℕ). n + cond m.is_open 1 0) (count_wait marks)

-- a link that didn't come has no meaning yet
pub absent_blank : (marks : List Mark) (link : ℕ) → has marks link ≡ false → mark_of marks link ≡ blank
absent_blank [] link h = refl
absent_blank (m ∷ marks) link h =
    let left : (m.link == link) ≡ false = grind (arith, h) in
    let right : has marks link ≡ false = grind (arith, h) in
    rw left (absent_blank marks link right)

push_here : (marks : List Mark) (m : Mark) → has marks m.link ≡ false → mark_of (marks ++ m ∷ []) m.link ≡ m
push_here [] m h = let is : (m.link == m.link) ≡ true = grind (arith, nat_tests) in rw is refl
push_here (x ∷ marks) m h =
    let left : (x.link == m.link) ≡ false = grind (arith, h) in
    let right : has marks m.link ≡ false = grind (arith, h) in
    rw left (push_here marks m right)

push_other : (marks : List Mark) (m : Mark) (l : ℕ) → l ≢ m.link → mark_of (marks ++ m ∷ []) l ≡ mark_of marks l
push_other [] m l ne = let is : (m.link == l) ≡ false = grind (arith, nat_tests, ne) in rw is refl
push_other (x ∷ marks) m l ne = ap (λ (r : Mark). cond (x.link == l) x r) (push_other marks m l ne)

push_came : (marks : List Mark) (m : Mark) → has (marks ++ m ∷ []) m.link ≡ true
push_came [] m = let is : (m.link == m.link) ≡ true = grind (arith, nat_tests) in rw is refl
push_came (x ∷ marks) m = rw (push_came marks m) (or_true (x.link == m.link))
  where
    or_true : (b : Bool) → (b || true) ≡ true
    or_true true = refl
    or_true false = refl

push_others_came : (marks : List Mark) (m : Mark) (l : ℕ) → l ≢ m.link → has (marks ++ m ∷ []) l ≡ has marks l
push_others_came [] m l ne = let is : (m.link == l) ≡ false = grind (arith, nat_tests, ne) in rw is refl
push_others_came (x ∷ marks) m l ne = ap (λ (b : Bool). (x.link == l) || b) (push_others_came marks m l ne)

pub added_push : (marks : List Mark) (m : Mark) → has marks m.link ≡ false → Added marks m.link m (marks ++ m ∷ [])
added_push marks m h = record {
  absent = absent_blank marks m.link h;
  here = push_here marks m h;
  came = push_came marks m;
  others = λ l ne. push_other marks m l ne;
  others_came = λ l ne. push_others_came marks m l ne;
}

pub added_from : (old marks new : List Mark) (m : Mark) → marks ≡ old → new ≡ marks ++ m ∷ [] → has old m.link ≡ false → Added old m.link m new
added_from old marks new m is grew h = subst (λ (ms : List Mark). Added old m.link m ms) (sym (grew ∙ ap (λ (ms : List Mark). ms ++ m ∷ []) is)) (added_push old m h)

or_keeps : (a b c : Bool) → (b ≡ true → c ≡ true) → (a || b) ≡ true → (a || c) ≡ true
or_keeps true b c f h = refl
or_keeps false b c f h = f h

push_keeps : (marks : List Mark) (m : Mark) (l : ℕ) → has marks l ≡ true → has (marks ++ m ∷ []) l ≡ true
push_keeps [] m l h = absurd (false≢true h)
push_keeps (x ∷ marks) m l h = or_keeps (x.link == l) (has marks l) (has (marks ++ m ∷ []) l) (push_keeps marks m l) h

-- no link is forgotten where one comes
pub come_keeps : (marks grown : List Mark) (m : Mark) → grown ≡ marks ++ m ∷ [] → (l : ℕ) → has marks l ≡ true → has grown l ≡ true
come_keeps marks grown m e l h = ap (λ (ms : List Mark). has ms l) e ∙ push_keeps marks m l h

pub mark_wait : (marks : List Mark) (link : ℕ) → mark_of (map after_wait marks) link ≡ after_wait (mark_of marks link)
mark_wait [] link = refl
mark_wait (m ∷ marks) link = choose (m.link == link) (mark_wait marks link)
  where
    choose : (b : Bool) → mark_of (map after_wait marks) link ≡ after_wait (mark_of marks link) → cond b (after_wait m) (mark_of (map after_wait marks) link) ≡ after_wait (cond b m (mark_of marks link))
    choose true rest = refl
    choose false rest = rest

pub has_wait : (marks : List Mark) (link : ℕ) → has (map after_wait marks) link ≡ has marks link
has_wait [] link = refl
has_wait (m ∷ marks) link = ap (λ (b : Bool). (m.link == link) || b) (has_wait marks link)

pub wait_keeps : (marks begun : List Mark) → begun ≡ map after_wait marks → (l : ℕ) → has marks l ≡ true → has begun l ≡ true
wait_keeps marks begun e l h = ap (λ (ms : List Mark). has ms l) e ∙ has_wait marks l ∙ h
