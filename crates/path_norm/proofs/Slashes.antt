-- Slashes in a path, and what a segment does to the path so far.
use Rattle.std.proofs.Common.{◌≡◌, ◌≢◌, ℕ, zero, suc, ◌+◌, ◌-◌, ◌<◌, ◌≤◌, ◌⊎◌, inl, inr, Bool, true, false, List, [], ◌∷◌, ◌++◌, length, get_or, take, drop, refl, sym, ap, ◌∙◌, arith, if◌then◌else◌, append_assoc, append-nil, take_at, drop_at, length-append}
use Rattle.std.proofs.lemmas.Bool.{cases_lt}
use Rattle.std.proofs.lemmas.Grind.{flat_map-append}
use Rattle.std.proofs.lemmas.List.{take_rest}
use Rattle.std.specs.List.{AllByRecursion}
use Rattle.path_norm.specs.Asked.{dots_of}
use Rattle.path_norm.specs.Dots.{path_of, is_dot, is_dot_dot, is_dots, parent, with_segment}
use Rattle.path_norm.specs.Normal.{IsSlashless}
use Rattle.path_norm.specs.declared.segments.Dots.TheVariants as Ask

slashless_at : (s : List ℕ) (k : ℕ) → IsSlashless s → k < length s → get_or s k 0 ≢ 47
slashless_at [] k h less = absurd (omega arith)
slashless_at (c ∷ s) zero h less = h.0
slashless_at (c ∷ s) (suc k) h less = slashless_at s k h.1 (omega arith)

at_slash : (before s : List ℕ) → get_or (before ++ 47 ∷ s) (length before) 0 ≡ 47
at_slash [] s = refl
at_slash (b ∷ before) s = at_slash before s

after_slash : (before s : List ℕ) (k : ℕ) → IsSlashless s → length before < k → k < length (before ++ 47 ∷ s) → get_or (before ++ 47 ∷ s) k 0 ≢ 47
after_slash [] s zero h more less = absurd (omega arith)
after_slash [] s (suc k) h more less = slashless_at s k h (omega arith)
after_slash (b ∷ before) s zero h more less = absurd (omega arith)
after_slash (b ∷ before) s (suc k) h more less = after_slash before s k h (omega arith) (omega arith)

-- the slash that is found from the back is the last one
pub last_is : (path before s : List ℕ) (n : ℕ) → IsSlashless s → path ≡ before ++ 47 ∷ s → 0 < n → n ≤ length path → get_or path (n - 1) 0 ≡ 47
    → ((k : ℕ) → n ≤ k → k < length path → get_or path k 0 ≢ 47) → n - 1 ≡ length before
last_is path before s n slashless is some within here none =
    let long : length path ≡ length before + suc (length s) = ap length is ∙ length-append before (47 ∷ s) in
    elim (cases_lt (n - 1) (length before)) [
      | inl less ↦ absurd (none (length before) (omega arith) (omega arith) (ap (λ p. get_or p (length before) 0) is ∙ at_slash before s))
      | inr more ↦ elim (cases_lt (length before) (n - 1)) [
        | inl past ↦
            let in_whole : n - 1 < length (before ++ 47 ∷ s) = omega (arith, length-append before (47 ∷ s)) in
            absurd (after_slash before s (n - 1) slashless past in_whole (ap (λ p. get_or p (n - 1) 0) (sym is) ∙ here))
        | inr same ↦ omega arith
      ]
    ]

pub never_none : (path before s : List ℕ) → path ≡ before ++ 47 ∷ s → ((k : ℕ) → k < length path → get_or path k 0 ≢ 47) → ⊥
never_none path before s is none =
    let long : length path ≡ length before + suc (length s) = ap length is ∙ length-append before (47 ∷ s) in
    none (length before) (omega arith) (ap (λ p. get_or p (length before) 0) is ∙ at_slash before s)

-- a text is slashless up to its first slash
pub slashless-take : (s : List ℕ) (n : ℕ) → ((k : ℕ) → k < n → get_or s k 0 ≢ 47) → IsSlashless (take n s)
slashless-take s zero h = tt
slashless-take [] (suc n) h = tt
slashless-take (c ∷ s) (suc n) h = (h 0 (omega arith), slashless-take s n (λ k less. h (suc k) (omega arith)))

parent-cons : (x y : List ℕ) (stack : List (List ℕ)) → x ∷ parent (y ∷ stack) ≡ parent (x ∷ y ∷ stack)
parent-cons x y stack =
    let e : length (x ∷ y ∷ stack) - 1 ≡ suc (length (y ∷ stack) - 1) = omega arith in
    rw e refl

-- the last segment of a path
pub last_segment : (stack : List (List ℕ)) → AllByRecursion IsSlashless stack
    → (stack ≡ []) ⊎ ((t : List ℕ) × IsSlashless t × (path_of stack ≡ path_of (parent stack) ++ 47 ∷ t))
last_segment [] h = inl refl
last_segment (x ∷ []) h = inr (x, h.0, ap (λ t. 47 ∷ t) (append-nil x))
last_segment (x ∷ y ∷ stack) h =
    elim (last_segment (y ∷ stack) h.1) [
      | inl none ↦ absurd (cc)
      | inr (t, slashless, is) ↦
          inr (t, slashless, ap (λ p. 47 ∷ x ++ p) is ∙ ap (λ p. 47 ∷ p) (sym (append_assoc x (path_of (parent (y ∷ stack))) (47 ∷ t))) ∙ ap (λ p. path_of p ++ 47 ∷ t) (parent-cons x y stack))
    ]

-- what a segment asks for
asked_none : (a b : Bool) → Ask.None ≡ (if a then Ask.Here else (if b then Ask.Parent else Ask.None)) → (a ≡ false) × (b ≡ false)
asked_none true b e = absurd (cc)
asked_none false true e = absurd (cc)
asked_none false false e = (refl, refl)

asked_here : (a b : Bool) → Ask.Here ≡ (if a then Ask.Here else (if b then Ask.Parent else Ask.None)) → a ≡ true
asked_here true b e = refl
asked_here false true e = absurd (cc)
asked_here false false e = absurd (cc)

asked_parent : (a b : Bool) → Ask.Parent ≡ (if a then Ask.Here else (if b then Ask.Parent else Ask.None)) → (a ≡ false) × (b ≡ true)
asked_parent true b e = absurd (cc)
asked_parent false true e = (refl, refl)
asked_parent false false e = absurd (cc)

-- the last segment, by its place
pub segment_at : (items front s : List ℕ) (start : ℕ) → items ≡ front ++ 47 ∷ s → start ≡ length front → take (length items - (start + 1)) (drop (start + 1) items) ≡ s
segment_at items front s start is at =
    let whole : items ≡ (front ++ 47 ∷ []) ++ s = is ∙ sym (append_assoc front (47 ∷ []) s) in
    let len : start + 1 ≡ length (front ++ 47 ∷ []) = omega (arith, length-append front (47 ∷ [])) in
    take_rest items (start + 1) ∙ ap (λ t. drop (start + 1) t) whole ∙ drop_at (front ++ 47 ∷ []) s (start + 1) (sym len)

pub closed_none : (stack : List (List ℕ)) (s segment items : List ℕ) → segment ≡ s → Ask.None ≡ dots_of segment → items ≡ path_of stack ++ 47 ∷ s
    → (false ≡ is_dots s) × (items ≡ path_of (with_segment stack s))
closed_none stack s segment items same asked is =
    let (no_dot, no_dot_dot) = asked_none (is_dot s) (is_dot_dot s) (asked ∙ ap dots_of same) in
    (rw (no_dot, no_dot_dot) refl, rw (no_dot, no_dot_dot) (is ∙ ap (λ t. path_of stack ++ 47 ∷ t) (sym (append-nil s)) ∙ sym (flat_map-append (λ t. 47 ∷ t) stack (s ∷ []))))

pub closed_here : (stack : List (List ℕ)) (s segment items new : List ℕ) (start : ℕ) → segment ≡ s → Ask.Here ≡ dots_of segment → items ≡ path_of stack ++ 47 ∷ s
    → start ≡ length (path_of stack) → new ≡ take start items → (true ≡ is_dots s) × (new ≡ path_of (with_segment stack s))
closed_here stack s segment items new start same asked is at cut =
    let dot = asked_here (is_dot s) (is_dot_dot s) (asked ∙ ap dots_of same) in
    (rw dot refl, rw dot (cut ∙ ap (λ t. take start t) is ∙ take_at (path_of stack) (47 ∷ s) start (sym at)))

pub closed_parent : (stack : List (List ℕ)) (s segment items front new : List ℕ) (start len : ℕ) → AllByRecursion IsSlashless stack → segment ≡ s → Ask.Parent ≡ dots_of segment
    → items ≡ path_of stack ++ 47 ∷ s → start ≡ length (path_of stack) → front ≡ take start items
    → ((before t : List ℕ) → IsSlashless t → front ≡ before ++ 47 ∷ t → len ≡ length before) → (front ≡ [] → len ≡ 0)
    → new ≡ take len items → (true ≡ is_dots s) × (new ≡ path_of (with_segment stack s))
closed_parent stack s segment items front new start len slashless same asked is at front_is last none cut =
    let (no_dot, dot_dot) = asked_parent (is_dot s) (is_dot_dot s) (asked ∙ ap dots_of same) in
    let all : front ≡ path_of stack = front_is ∙ ap (λ t. take start t) is ∙ take_at (path_of stack) (47 ∷ s) start (sym at) in
    let new_is : new ≡ path_of (parent stack) =
    elim (last_segment stack slashless) [
      | inl empty ↦
          let zero_len : len ≡ 0 = none (all ∙ ap path_of empty) in
          cut ∙ ap (λ n. take n items) zero_len ∙ ap (λ x. path_of (parent x)) (sym empty)
      | inr (t, plain, split) ↦
          let cut_len = last (path_of (parent stack)) t plain (all ∙ split) in
          let whole : items ≡ path_of (parent stack) ++ ((47 ∷ t) ++ 47 ∷ s) = is ∙ ap (λ p. p ++ 47 ∷ s) split ∙ append_assoc (path_of (parent stack)) (47 ∷ t) (47 ∷ s) in
          cut ∙ ap (λ x. take len x) whole ∙ take_at (path_of (parent stack)) ((47 ∷ t) ++ 47 ∷ s) len (sym cut_len)
    ] in
    (rw (no_dot, dot_dot) refl, rw (no_dot, dot_dot) new_is)
