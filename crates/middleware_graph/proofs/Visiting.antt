-- Members that are seen for the first time, and how many are left.
use Rattle.std.proofs.Common.{◌≡◌, ℕ, ◌+◌, ◌<◌, ◌≤◌, ◌⊎◌, ◌++◌, ◌∷◌, [], inl, inr, Bool, true, false, List, length, get_or, set, take, Contains, Option, Some, None, refl, sym, ap, ◌∙◌, subst, arith, length-append}
use Rattle.std.specs.Prelude.{sum_by}
use Rattle.std.proofs.lemmas.Bool.{cases_eq}
use Rattle.std.proofs.lemmas.List.{get_or-set_same, get_or-set_other, length-set, take_more}
use Rattle.std.proofs.lemmas.List.Sums.{sum_by-set}
use Rattle.std.proofs.lemmas.List.Elements.{Contains-push, Contains-push_cases, Contains-append_left, Contains-append_cases, Contains-append_right}
use Rattle.middleware_graph.specs.Visits.{IsSeen, unseen, unseen_count, Visited}

pub nothing_in : (m : Option ℕ) → ¬ (Contains [] m)
nothing_in m (i, l, at) = omega arith

one_of_one : (x y : Option ℕ) → Contains (x ∷ []) y → x ≡ y
one_of_one x y has = elim (Contains-push_cases [] x y has) [ inl none ↦ absurd (nothing_in y none) | inr e ↦ e ]

some_same : (x y : ℕ) → Some x ≡ Some y → x ≡ y
some_same x y e = cc

none_some : (y : ℕ) → None ≡ Some y → ⊥
none_some y e = cc

-- nothing was done
pub visited_none : (seen : List Bool) (waiting : List ℕ) → Visited [] seen waiting seen waiting
visited_none seen waiting = record {
  size = refl;
  kept = λ u h. h;
  came = λ u h. inl h;
  all = λ u has l. absurd (nothing_in (Some u) has);
  still = λ u h. h;
  new = λ u h. inl h;
  count = refl;
}

-- nothing was done for a member that isn't declared
pub visited_undeclared : (seen : List Bool) (waiting : List ℕ) → Visited (None ∷ []) seen waiting seen waiting
visited_undeclared seen waiting = record {
  size = refl;
  kept = λ u h. h;
  came = λ u h. inl h;
  all = λ u has l. absurd (none_some u (one_of_one None (Some u) has));
  still = λ u h. h;
  new = λ u h. inl h;
  count = refl;
}

-- nor for one past the end
pub visited_past : (place : ℕ) (seen : List Bool) (waiting : List ℕ) → length seen ≤ place → Visited (Some place ∷ []) seen waiting seen waiting
visited_past place seen waiting past = record {
  size = refl;
  kept = λ u h. h;
  came = λ u h. inl h;
  all = λ u has l. let e : place ≡ u = some_same place u (one_of_one (Some place) (Some u) has) in absurd (omega (arith, e, l, past));
  still = λ u h. h;
  new = λ u h. inl h;
  count = refl;
}

-- nor for one that was seen before
pub visited_again : (place : ℕ) (seen : List Bool) (waiting : List ℕ) → IsSeen seen place → Visited (Some place ∷ []) seen waiting seen waiting
visited_again place seen waiting before = record {
  size = refl;
  kept = λ u h. h;
  came = λ u h. inl h;
  all = λ u has l. subst (IsSeen seen) (some_same place u (one_of_one (Some place) (Some u) has)) before;
  still = λ u h. h;
  new = λ u h. inl h;
  count = refl;
}

seen_here : (place : ℕ) (seen : List Bool) → place < length seen → IsSeen (set seen place true) place
seen_here place seen l = get_or-set_same seen place true false l

kept_seen : (place u : ℕ) (seen : List Bool) → place < length seen → IsSeen seen u → IsSeen (set seen place true) u
kept_seen place u seen l before = elim (cases_eq u place) [
  | inl e ↦ subst (IsSeen (set seen place true)) (sym e) (seen_here place seen l)
  | inr apart ↦ get_or-set_other seen place u true false apart ∙ before
]

came_seen : (place u : ℕ) (seen : List Bool) (waiting waiting' : List ℕ) → waiting' ≡ waiting ++ place ∷ [] → IsSeen (set seen place true) u
    → IsSeen seen u ⊎ (Contains (Some place ∷ []) (Some u) × Contains waiting' u)
came_seen place u seen waiting waiting' grown now = elim (cases_eq u place) [
  | inl e ↦
      let P : ℕ → Type 0 = λ v. Contains (Some place ∷ []) (Some v) × Contains waiting' v in
      let Q : List ℕ → Type 0 = λ ws. Contains ws place in
      inr (subst P (sym e) (Contains-push [] (Some place), subst Q (sym grown) (Contains-push waiting place)))
  | inr apart ↦ inl (sym (get_or-set_other seen place u true false apart) ∙ now)
]

one_less : (place : ℕ) (seen : List Bool) → place < length seen → get_or seen place false ≡ false → unseen_count (set seen place true) + 1 ≡ unseen_count seen
one_less place seen l none =
    let e = sum_by-set unseen seen place true false l in
    let one : unseen (get_or seen place false) ≡ 1 = ap unseen none in
    let P : ℕ → Type 0 = λ n. sum_by unseen (set seen place true) + n ≡ sum_by unseen seen + 0 in
    let f : sum_by unseen (set seen place true) + 1 ≡ sum_by unseen seen + 0 = subst P one e in
    omega (arith, f)

-- a member that is seen for the first time waits
pub visited_new : (place : ℕ) (seen : List Bool) (waiting waiting' : List ℕ) → place < length seen → get_or seen place false ≡ false
    → waiting' ≡ waiting ++ place ∷ [] → Visited (Some place ∷ []) seen waiting (set seen place true) waiting'
visited_new place seen waiting waiting' l none grown =
    let P : List ℕ → Type 0 = λ ws. (u : ℕ) → Contains waiting u → Contains ws u in
    let Q : List ℕ → Type 0 = λ ws. (u : ℕ) → Contains ws u → Contains waiting u ⊎ IsSeen (set seen place true) u in
    let less = one_less place seen l none in
    let longer : length waiting' ≡ length waiting + 1 = ap length grown ∙ length-append waiting (place ∷ []) in
    record {
      size = length-set seen place true;
      kept = λ u h. kept_seen place u seen l h;
      came = λ u h. came_seen place u seen waiting waiting' grown h;
      all = λ u has _. subst (IsSeen (set seen place true)) (some_same place u (one_of_one (Some place) (Some u) has)) (seen_here place seen l);
      still = subst P (sym grown) (λ u h. Contains-append_left waiting (place ∷ []) u h);
      new = subst Q (sym grown) (λ u h. elim (Contains-push_cases waiting place u h) [
        | inl before ↦ inl before
        | inr e ↦ inr (subst (IsSeen (set seen place true)) e (seen_here place seen l))
      ]);
      count = omega (arith, less, longer);
    }

-- one more member
pub visited_then : (members : List (Option ℕ)) (i : ℕ) (s t u : List Bool) (v w x : List ℕ) (d m : Option ℕ) → i < length members
    → Visited (take i members) s v t w → Visited (m ∷ []) t w u x → get_or members i d ≡ m → Visited (take (i + 1) members) s v u x
visited_then members i s t u v w x d m l a b at =
    let P : List (Option ℕ) → Type 0 = λ ms. Visited ms s v u x in
    let grown : take (i + 1) members ≡ take i members ++ m ∷ [] = take_more members i d l ∙ ap (λ k. take i members ++ k ∷ []) at in
    subst P (sym grown) (record {
      size = b.size ∙ a.size;
      kept = λ n h. b.kept n (a.kept n h);
      came = λ n h. elim (b.came n h) [
        | inl before ↦ elim (a.came n before) [
          | inl first ↦ inl first
          | inr (has, waits) ↦ inr (Contains-append_left (take i members) (m ∷ []) (Some n) has, b.still n waits)
        ]
        | inr (has, waits) ↦ inr (Contains-append_right (take i members) (m ∷ []) (Some n) has, waits)
      ];
      all = λ n has k. elim (Contains-append_cases (take i members) (m ∷ []) (Some n) has) [
        | inl before ↦ b.kept n (a.all n before k)
        | inr last ↦ b.all n last (omega (arith, a.size, k))
      ];
      still = λ n h. b.still n (a.still n h);
      new = λ n h. elim (b.new n h) [
        | inl before ↦ elim (a.new n before) [ inl first ↦ inl first | inr now ↦ inr (b.kept n now) ]
        | inr now ↦ inr now
      ];
      count = b.count ∙ a.count;
    })
