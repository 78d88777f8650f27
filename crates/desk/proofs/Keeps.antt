-- What is kept of one number among all that was told.
use Rattle.std.proofs.Common.{◌≡◌, ◌≢◌, ℕ, ◌+◌, ◌==◌, ◌||◌, ◌&&◌, inl, inr, List, [], ◌∷◌, ◌++◌, Option, Some, None, refl, sym, ap, ◌∙◌, subst, Bool, true, false, if◌then◌else◌, arith}
use Rattle.std.specs.Prelude.{not, filter}
use Rattle.std.specs.List.{list_any}
use Rattle.std.proofs.lemmas.Bool.Decides.{eqb_tells}
use Rattle.link_world.specs.declared.note.Look.{Look}
use Rattle.link_world.specs.declared.note.NodePick.{NodePick}
use Rattle.wrr_deadlines.specs.Choice.{Draws}
use Rattle.wrr_deadlines.specs.declared.choice.Pick.{Pick}
use Rattle.wrr_deadlines.specs.declared.choice.Drawn.{Drawn}
use Rattle.wrr_deadlines.specs.declared.choice.Drawn.TheVariants as drawn
use Rattle.desk.specs.declared.told.Told.{Told}
use Rattle.desk.specs.declared.told.Told.TheVariants.{Began, Looked, Drew}
use Rattle.desk.specs.declared.told.NodeCount.{NodeCount}
use Rattle.desk.specs.Desks.{Seat, held, IsHeld, with_look, empty_seat, DrawDid, one_server}
use Rattle.desk.specs.Told.{looks_by, picks_by, looks_after, picks_after, looks_told, picks_told, last_end, is_count, last_count, AreCounted}
use Rattle.desk.specs.Kept.{seat_of, seat_in}

none_some : (s : Seat) → None ≡ Some s → ⊥
none_some s e = cc

same_key : (a n : ℕ) → a ≡ n → (a == n) ≡ true
same_key a n e = elim (eqb_tells a n) [ inl h ↦ h.0 | inr h ↦ absurd (h.1 e) ]

other_key : (a n : ℕ) → a ≢ n → (a == n) ≡ false
other_key a n d = elim (eqb_tells a n) [ inl h ↦ absurd (d h.1) | inr h ↦ h.0 ]

any_gone : (n : ℕ) (ns : List ℕ) → list_any (λ k. k == n) (filter (λ k. not (k == n)) ns) ≡ false
any_gone n [] = refl
any_gone n (k ∷ ns) = elim (eqb_tells k n) [
  | inl h ↦ rw (h.0) (any_gone n ns)
  | inr h ↦ rw (h.0) (rw (h.0) (any_gone n ns))
]

any_left : (n m : ℕ) → m ≢ n → (ns : List ℕ) → list_any (λ k. k == m) (filter (λ k. not (k == n)) ns) ≡ list_any (λ k. k == m) ns
any_left n m d [] = refl
any_left n m d (k ∷ ns) = elim (eqb_tells k n) [
  | inl h ↦ rw (h.0, other_key k m (λ e. d (sym e ∙ h.1))) (any_left n m d ns)
  | inr h ↦ rw (h.0) (ap (λ b. (k == m) || b) (any_left n m d ns))
]

any_new : (n : ℕ) (ns : List ℕ) → list_any (λ k. k == n) (ns ++ n ∷ []) ≡ true
any_new n [] = rw (same_key n n refl) refl
any_new n (k ∷ ns) = elim (eqb_tells k n) [
  | inl h ↦ rw (h.0) refl
  | inr h ↦ rw (h.0) (any_new n ns)
]

any_more : (n m : ℕ) → m ≢ n → (ns : List ℕ) → list_any (λ k. k == m) (ns ++ n ∷ []) ≡ list_any (λ k. k == m) ns
any_more n m d [] = rw (other_key n m (λ e. d (sym e))) refl
any_more n m d (k ∷ ns) = ap (λ b. (k == m) || b) (any_more n m d ns)

-- one thing more that was done
looks_more : (n : ℕ) (looks : List Look) (es : List (ℕ × Told)) (k : ℕ) (t : Told)
    → looks_after n looks (es ++ (k, t) ∷ []) ≡ looks_by (k == n) (looks_after n looks es) t
looks_more n looks [] k t = refl
looks_more n looks (e ∷ es) k t = looks_more n (looks_by (e.0 == n) looks e.1) es k t

picks_more : (n : ℕ) (picks : List NodePick) (es : List (ℕ × Told)) (k : ℕ) (t : Told)
    → picks_after n picks (es ++ (k, t) ∷ []) ≡ picks_by (k == n) (picks_after n picks es) t
picks_more n picks [] k t = refl
picks_more n picks (e ∷ es) k t = picks_more n (picks_by (e.0 == n) picks e.1) es k t

-- the same since the beginning, where it was done at the seat, and elsewhere
looks_at : (es es' : List (ℕ × Told)) (k n : ℕ) (t : Told) (b : Bool) → es' ≡ es ++ (k, t) ∷ [] → (k == n) ≡ b → looks_told es' n ≡ looks_by b (looks_told es n) t
looks_at es es' k n t b e h = ap (λ (xs : List (ℕ × Told)). looks_told xs n) e ∙ looks_more n [] es k t ∙ ap (λ (c : Bool). looks_by c (looks_told es n) t) h

pub picks_at : (es es' : List (ℕ × Told)) (k n : ℕ) (t : Told) (b : Bool) → es' ≡ es ++ (k, t) ∷ [] → (k == n) ≡ b → picks_told es' n ≡ picks_by b (picks_told es n) t
picks_at es es' k n t b e h = ap (λ (xs : List (ℕ × Told)). picks_told xs n) e ∙ picks_more n [] es k t ∙ ap (λ (c : Bool). picks_by c (picks_told es n) t) h

-- the seat by its parts
abbrev seat_by : Bool → List Look → List NodePick → Option Seat
seat_by among looks picks = if among then Some (seat_of looks picks) else None

among_of : (b : Bool) (looks : List Look) (picks : List NodePick) → IsHeld (seat_by b looks picks) → b ≡ true
among_of true looks picks h = refl
among_of false looks picks h = absurd (none_some empty_seat h)

abbrev among : List ℕ → ℕ → Bool
among ns n = list_any (λ k. k == n) ns

same_seat : (b c : Bool) (looks ls : List Look) (picks ps : List NodePick) → b ≡ c → looks ≡ ls → picks ≡ ps → seat_by b looks picks ≡ seat_by c ls ps
same_seat b c looks ls picks ps e f h = ap (λ d. seat_by d looks picks) e ∙ ap (λ d. seat_by c d picks) f ∙ ap (λ d. seat_by c ls d) h

held_by : (b : Bool) (looks : List Look) (picks : List NodePick) → b ≡ true → held (seat_by b looks picks) ≡ seat_of looks picks
held_by b looks picks e = rw (e) refl

-- what was done at another seat leaves this one
seat_away : (ns ns' : List ℕ) (es es' : List (ℕ × Told)) (k m : ℕ) (t : Told) → among ns' m ≡ among ns m → es' ≡ es ++ (k, t) ∷ [] → m ≢ k
    → seat_in ns' es' m ≡ seat_in ns es m
seat_away ns ns' es es' k m t a e d =
    let away : (k == m) ≡ false = other_key k m (λ q. d (sym q)) in
    same_seat (among ns' m) (among ns m) (looks_told es' m) (looks_told es m) (picks_told es' m) (picks_told es m) a
    (looks_at es es' k m t false e away) (picks_at es es' k m t false e away)

-- a new seat is empty
pub seat_new : (ns ns' : List ℕ) (es es' : List (ℕ × Told)) (n : ℕ) → among ns n ≡ false → ns' ≡ ns ++ n ∷ [] → es' ≡ es ++ (n, Began) ∷ []
    → seat_in ns' es' n ≡ Some (held (seat_in ns es n))
seat_new ns ns' es es' n e a b =
    same_seat (among ns' n) true (looks_told es' n) [] (picks_told es' n) [] (ap (λ xs. among xs n) a ∙ any_new n ns)
    (looks_at es es' n n Began true b (same_key n n refl)) (picks_at es es' n n Began true b (same_key n n refl))
    ∙ sym (ap (λ b. Some (held (seat_by b (looks_told es n) (picks_told es n)))) e)

pub seat_new_others : (ns ns' : List ℕ) (es es' : List (ℕ × Told)) (n : ℕ) → ns' ≡ ns ++ n ∷ [] → es' ≡ es ++ (n, Began) ∷ []
    → (m : ℕ) → m ≢ n → seat_in ns' es' m ≡ seat_in ns es m
seat_new_others ns ns' es es' n a b = λ m d. seat_away ns ns' es es' n m Began (ap (λ xs. among xs m) a ∙ any_more n m d ns) b d

pub seat_gone : (ns ns' : List ℕ) (es : List (ℕ × Told)) (n : ℕ) → ns' ≡ filter (λ k. not (k == n)) ns → seat_in ns' es n ≡ None
seat_gone ns ns' es n a = ap (λ b. seat_by b (looks_told es n) (picks_told es n)) (ap (λ xs. among xs n) a ∙ any_gone n ns)

pub seat_gone_others : (ns ns' : List ℕ) (es es' : List (ℕ × Told)) (n : ℕ) → ns' ≡ filter (λ k. not (k == n)) ns → es' ≡ es ++ (n, Began) ∷ []
    → (m : ℕ) → m ≢ n → seat_in ns' es' m ≡ seat_in ns es m
seat_gone_others ns ns' es es' n a b = λ m d. seat_away ns ns' es es' n m Began (ap (λ xs. among xs m) a ∙ any_left n m d ns) b d

-- one more look
pub seat_look : (ns : List ℕ) (es es' : List (ℕ × Told)) (n : ℕ) (look : Look) → IsHeld (seat_in ns es n) → es' ≡ es ++ (n, Looked look) ∷ []
    → seat_in ns es' n ≡ Some (with_look (held (seat_in ns es n)) look)
seat_look ns es es' n look h b =
    let e = among_of (among ns n) (looks_told es n) (picks_told es n) h in
    same_seat (among ns n) true (looks_told es' n) (looks_told es n ++ look ∷ []) (picks_told es' n) (picks_told es n) e
    (looks_at es es' n n (Looked look) true b (same_key n n refl)) (picks_at es es' n n (Looked look) true b (same_key n n refl))
    ∙ sym (ap (λ s. Some (with_look s look)) (held_by (among ns n) (looks_told es n) (picks_told es n) e))

pub seat_others : (ns : List ℕ) (es es' : List (ℕ × Told)) (n : ℕ) (t : Told) → es' ≡ es ++ (n, t) ∷ [] → (m : ℕ) → m ≢ n → seat_in ns es' m ≡ seat_in ns es m
seat_others ns es es' n t b = λ m d. seat_away ns ns es es' n m t refl b d

-- where the last pick ends, of two lists
pub last_end_append : (node count : ℕ) (xs ys : List NodePick) → last_end node count (xs ++ ys) ≡ last_end node (last_end node count xs) ys
last_end_append node count [] ys = refl
last_end_append node count (x ∷ xs) ys = last_end_append node (if x.node == node then x.pick.to else count) xs ys

-- a pick at the node, after the last one there
draw_more : (looks : List Look) (picks picks' : List NodePick) (node count mask : ℕ) (pick : Pick)
    → picks' ≡ picks ++ record { node = node; pick = pick } ∷ [] → count ≡ last_end node 0 picks → Draws one_server mask count (drawn.Pick pick)
    → DrawDid (seat_of looks picks) node mask (drawn.Pick pick) (seat_of looks picks')
draw_more looks picks picks' node count mask pick e h d =
    let p : NodePick = record { node = node; pick = pick } in
    record {
      count = count;
      rose = omega (arith, h);
      drawn = d;
      looks = refl;
      picks = e;
      counted = ap (λ (xs : List NodePick). last_end node 0 xs) e ∙ last_end_append node 0 picks (p ∷ []) ∙ here node pick.to (last_end node 0 picks);
      others = λ n away. ap (λ (xs : List NodePick). last_end n 0 xs) e ∙ last_end_append n 0 picks (p ∷ []) ∙ elsewhere node n pick.to (last_end n 0 picks) (λ q. away (sym q));
    }
  where
    here : (node to count : ℕ) → (if node == node then to else count) ≡ to
    here node to count = rw (same_key node node refl) refl

    elsewhere : (node n to count : ℕ) → node ≢ n → (if node == n then to else count) ≡ count
    elsewhere node n to count d = rw (other_key node n d) refl

pub seat_draw : (ns : List ℕ) (es es' : List (ℕ × Told)) (n node count mask : ℕ) (pick : Pick) → IsHeld (seat_in ns es n)
    → es' ≡ es ++ (n, Drew (record { node = node; pick = pick })) ∷ [] → count ≡ last_end node 0 (picks_told es n) → Draws one_server mask count (drawn.Pick pick)
    → DrawDid (held (seat_in ns es n)) node mask (drawn.Pick pick) (held (seat_in ns es' n))
seat_draw ns es es' n node count mask pick h b c d =
    let p : NodePick = record { node = node; pick = pick } in
    let e = among_of (among ns n) (looks_told es n) (picks_told es n) h in
    let before = held_by (among ns n) (looks_told es n) (picks_told es n) e in
    let after = held_by (among ns n) (looks_told es' n) (picks_told es' n) e
    ∙ ap (λ (ls : List Look). seat_of ls (picks_told es' n)) (looks_at es es' n n (Drew p) true b (same_key n n refl)) in
    let more = draw_more (looks_told es n) (picks_told es n) (picks_told es' n) node count mask pick (picks_at es es' n n (Drew p) true b (same_key n n refl)) c d in
    subst (λ (s : Seat). DrawDid s node mask (drawn.Pick pick) (held (seat_in ns es' n))) (sym before)
    (subst (λ (s : Seat). DrawDid (seat_of (looks_told es n) (picks_told es n)) node mask (drawn.Pick pick) s) (sym after) more)

-- what is drawn by the count that is kept is drawn by the seat's
pub seat_exact : (ns : List ℕ) (es : List (ℕ × Told)) (n node count mask : ℕ) (result : Drawn) → IsHeld (seat_in ns es n)
    → count ≡ last_end node 0 (picks_told es n) → Draws one_server mask count result → Draws one_server mask ((held (seat_in ns es n)).count node) result
seat_exact ns es n node count mask result h c d =
    let e = among_of (among ns n) (looks_told es n) (picks_told es n) h in
    let same : (held (seat_in ns es n)).count node ≡ last_end node 0 (picks_told es n) = ap (λ (s : Seat). s.count node) (held_by (among ns n) (looks_told es n) (picks_told es n) e) in
    subst (λ (k : ℕ). Draws one_server mask k result) (c ∙ sym same) d

-- there still is a seat
pub seat_stays : (ns : List ℕ) (es es' : List (ℕ × Told)) (n : ℕ) → IsHeld (seat_in ns es n) → IsHeld (seat_in ns es' n)
seat_stays ns es es' n h =
    let e = among_of (among ns n) (looks_told es n) (picks_told es n) h in
    by (among ns n) (looks_told es' n) (picks_told es' n) e
  where
    by : (b : Bool) (ls : List Look) (ps : List NodePick) → b ≡ true → IsHeld (seat_by b ls ps)
    by true ls ps e = refl
    by false ls ps e = absurd cc
