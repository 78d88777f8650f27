-- What a shared desk does for one connection, one step after another.
use Rattle.std.proofs.Common.{suc, zero, ◌≡◌, ◌≢◌, ◌⊎◌, ⊎_elim, ℕ, ◌+◌, ◌^◌, ◌<◌, ◌≤◌, ◌==◌, min, List, [], ◌∷◌, ◌++◌, map, length, length-append, Option, Some, refl, sym, ◌∙◌, ap, subst, inl, inr, arith, Bool}
use Rattle.std.specs.Prelude.{Result, Ok, Err, MatchResult, OnOk}
use Rattle.std.specs.List.{AllByRecursion, Contains, flat_map}
use Rattle.std.proofs.lemmas.Bool.{cases_eq}
use Rattle.std.proofs.lemmas.List.{append-nil, append_assoc, map-append}
use Rattle.std.proofs.lemmas.List.Concat.{flat_map-append}
use Rattle.std.proofs.lemmas.List.Elements.{All-contains, All-from_recursion, Contains-append_right, Contains-append_cases}
use Rattle.link_world.specs.Log.{only_if}
use Rattle.link_world.specs.declared.note.Look.{Look}
use Rattle.link_world.specs.declared.note.NodePick.{NodePick}
use Rattle.conversation.specs.Plans.{Plan}
use Rattle.conversation.specs.Steps.{Step, pinned, looked, pins, pins_by, looks_by, picks_by, spents_by}
use Rattle.desk.specs.Desks.{Desk, Seat, Grew, IsLast, Pinned as PinDid, Refused as RefuseDid, Reseated, AttendDid, LookDid, DrawDid, held, seat_at, IsAttended, pick_of, count_after, one_server}
use Rattle.wrr_deadlines.specs.Schedule.{weight_of}
use Rattle.wrr_deadlines.specs.Choice.{Draws}
use Rattle.wrr_deadlines.specs.Reduced.{period_len}
use Rattle.wrr_deadlines.specs.declared.choice.Drawn.{Drawn}
use Rattle.wrr_deadlines.specs.declared.choice.Drawn.TheVariants as drawn
use Rattle.conn_service.specs.Choices.{last_number, looks_under, picks_under, spents_under}
use Rattle.conn_service.specs.Pins.{IsBelow, counted_on, kept, refused, mark_plan, kept_by, refused_by, Accounted, DeskWent}
use Rattle.conn_service.proofs.Lists.{same_link, other_link, all_both, only_none, grew_none, grew_twice, grew_all, grew_below, last_number-append, looks-append, picks-append, spents-append, unpinned, unlooked, unpicked, unspent, no_elements}

pub accounted_none : (f : Desk) → Accounted f f []
accounted_none f = record { marks = []; all = sym (append-nil f.pins); own = refl; counted = refl }

adds : (a b c m n k : ℕ) → counted_on b 0 ≡ counted_on a m → counted_on c 0 ≡ counted_on b n → k ≡ m + n → counted_on c 0 ≡ counted_on a k
adds a b c m n k p q is = omega (arith, p, q, is)

pub accounted_then : {f g h : Desk} {ns ms : List Plan} → Accounted f g ns → Accounted g h ms → Accounted f h (ns ++ ms)
accounted_then {f} {g} {h} {ns} {ms} a b = record {
  marks = a.marks ++ b.marks;
  all = b.all ∙ ap (λ (l : List Plan). l ++ map mark_plan b.marks) a.all ∙ append_assoc f.pins (map mark_plan a.marks) (map mark_plan b.marks) ∙ ap (λ (l : List Plan). f.pins ++ l) (sym (map-append mark_plan a.marks b.marks));
  own = flat_map-append kept_by a.marks b.marks ∙ ap (λ (l : List Plan). l ++ flat_map kept_by b.marks) a.own ∙ ap (λ (l : List Plan). ns ++ l) b.own;
  counted = adds f.refused g.refused h.refused (length (flat_map refused_by a.marks)) (length (flat_map refused_by b.marks)) (length (flat_map refused_by (a.marks ++ b.marks))) a.counted b.counted
      (ap (length {A = Plan}) (flat_map-append refused_by a.marks b.marks) ∙ length-append (flat_map refused_by a.marks) (flat_map refused_by b.marks));
}

pub desk_then : {f g h : Desk} {i j k : ℕ} {a b : List Step} → DeskWent f g i j a → DeskWent g h j k b → DeskWent f h i k (a ++ b)
desk_then {f} {g} {h} {i} {j} {k} {a} {b} p q = record {
  grew = grew_twice f.generations g.generations h.generations p.grew q.grew;
  held = subst (λ (l : List Plan). AllByRecursion (Contains h.generations) l) (sym (flat_map-append pins_by a b)) (all_both (Contains h.generations) (pins a) (pins b) (grew_all g.generations h.generations (pins a) q.grew p.held) q.held);
  number = q.number ∙ ap (λ (n : ℕ). last_number n b) p.number ∙ sym (last_number-append i a b);
  below = λ x. q.below (p.below x);
  pinned = subst (λ (l : List Plan). Accounted f h l) (sym (flat_map-append pins_by a b)) (accounted_then p.pinned q.pinned);
  looks = λ n. q.looks n ∙ ap (λ (l : List Look). l ++ looks_under n j b) (p.looks n)
      ∙ append_assoc (seat_at f n).looks (looks_under n i a) (looks_under n j b)
      ∙ ap (λ (m : ℕ). (seat_at f n).looks ++ (looks_under n i a ++ looks_under n m b)) p.number
      ∙ ap (λ (l : List Look). (seat_at f n).looks ++ l) (sym (looks-append n i a b));
  picks = λ n. q.picks n ∙ ap (λ (l : List NodePick). l ++ picks_under n j b) (p.picks n)
      ∙ append_assoc (seat_at f n).picks (picks_under n i a) (picks_under n j b)
      ∙ ap (λ (m : ℕ). (seat_at f n).picks ++ (picks_under n i a ++ picks_under n m b)) p.number
      ∙ ap (λ (l : List NodePick). (seat_at f n).picks ++ l) (sym (picks-append n i a b));
  counts = λ n node. omega (arith, p.counts n node, q.counts n node);
  spent = λ n node c. ⊎_elim (λ first. let more = q.counts n node in let over = p.spent n node first in omega (arith, more, over)) (λ second. q.spent n node second)
      (Contains-append_cases (spents_under n i a) (spents_under n j b) node
      (subst (λ (l : List ℕ). Contains l node) (spents-append n i a b ∙ ap (λ (m : ℕ). spents_under n i a ++ spents_under n m b) (sym p.number)) c));
}

-- nothing was done at the desk
pub desk_none : (f : Desk) {i j : ℕ} → j ≡ i → DeskWent f f i j []
desk_none f {i} {j} is = record {
  grew = grew_none f.generations;
  held = tt;
  number = is;
  below = λ b. subst (λ (n : ℕ). IsBelow f.generations n) (sym is) b;
  pinned = accounted_none f;
  looks = λ n. sym (append-nil (seat_at f n).looks);
  picks = λ n. sym (append-nil (seat_at f n).picks);
  counts = λ n node. omega arith;
  spent = λ n node c. absurd (no_elements node c);
}

-- a step that tells nothing of the desk
pub desk_step : (f : Desk) (s : Step) {i j : ℕ} → pins_by s ≡ [] → looks_by s ≡ [] → picks_by s ≡ [] → spents_by s ≡ [] → j ≡ i → DeskWent f f i j (s ∷ [])
desk_step f s {i} {j} pin look pick spend is = record {
  grew = grew_none f.generations;
  held = subst (λ (l : List Plan). AllByRecursion (Contains f.generations) (l ++ [])) (sym pin) tt;
  number = is ∙ sym (unpinned i s pin);
  below = λ b. subst (λ (n : ℕ). IsBelow f.generations n) (sym is) b;
  pinned = subst (λ (l : List Plan). Accounted f f (l ++ [])) (sym pin) (accounted_none f);
  looks = λ n. unlooked n i s look (seat_at f n).looks;
  picks = λ n. unpicked n i s pick (seat_at f n).picks;
  counts = λ n node. omega arith;
  spent = λ n node c. absurd (no_elements node (subst (λ (l : List ℕ). Contains l node) (unspent n i s spend) c));
}

-- the seats of a desk stay as they were
pub record SameSeats (f g : Desk) : Type 0 where
  pub generations : g.generations ≡ f.generations
  pub pins : g.pins ≡ f.pins
  pub refused : g.refused ≡ f.refused
  pub seats : (n : ℕ) → seat_at g n ≡ seat_at f n

pub seats_same : {f g : Desk} → g ≡ f → SameSeats f g
seats_same {f} {g} is = subst (λ (d : Desk). SameSeats f d) (sym is) (record { generations = refl; pins = refl; refused = refl; seats = λ n. refl })

pub seats_attend : {f g : Desk} {number : ℕ} → AttendDid f number g → SameSeats f g
seats_attend {f} {g} {number} a = record {
  generations = ap (λ (d : Desk). d.generations) a.same;
  pins = ap (λ (d : Desk). d.pins) a.same;
  refused = ap (λ (d : Desk). d.refused) a.same;
  seats = λ n. seat n (cases_eq n number);
}
  where
    seat : (n : ℕ) → (n ≡ number) ⊎ (n ≢ number) → seat_at g n ≡ seat_at f n
    seat n (inl is) = subst (λ (k : ℕ). seat_at g k ≡ seat_at f k) (sym is) (ap held a.seat)
    seat n (inr ne) = ap held (a.others n ne)

pub seats_by : {f g : Desk} (number : ℕ) {T E : Type 0} (r : Result T E) → MatchResult r (λ done. AttendDid f number g) (λ error. g ≡ f) → SameSeats f g
seats_by number (Ok x) did = seats_attend did
seats_by number (Err e) same = seats_same same

pub attended_by : (f g : Desk) (number j : ℕ) {T E : Type 0} (r : Result T E) → j ≡ number → MatchResult r (λ done. AttendDid f number g) (λ error. g ≡ f) → OnOk r (IsAttended g j)
attended_by f g number j (Ok x) is did = subst (λ (n : ℕ). IsAttended g n) (sym is) (did.seat ∙ ap (λ (o : Option Seat). Some (held o)) (sym did.seat))
attended_by f g number j (Err e) is same = tt

pub last_held : {ps : List Plan} {p : Plan} → IsLast ps p → Contains ps p
last_held {ps} {p} (before, is) = subst (λ (l : List Plan). Contains l p) (sym is) (Contains-append_right before (p ∷ []) p (0, omega arith, refl))

pub below_held : (ps : List Plan) (p : Plan) → Contains ps p → IsBelow ps p.number
below_held ps p held = λ m all. All-contains (λ (q : Plan). q.number ≤ m) ps p (All-from_recursion (λ (q : Plan). q.number ≤ m) ps all) held

-- a pin, which the connection is told of
pub desk_pinned : {f g h : Desk} {p : Plan} {i j : ℕ} → PinDid f p g → SameSeats g h → j ≡ p.number → DeskWent f h i j (pinned p ∷ [])
desk_pinned {f} {g} {h} {p} {i} {j} did same is = record {
  grew = grew;
  held = (held_in, tt);
  number = is;
  below = λ b. subst (λ (n : ℕ). IsBelow h.generations n) (sym is) (below_held h.generations p held_in);
  pinned = record {
    marks = kept p ∷ [];
    all = same.pins ∙ did.pins;
    own = refl;
    counted = ap (λ (r : ℕ). counted_on r 0) (same.refused ∙ ap (λ (d : Desk). d.refused) did.same);
  };
  looks = λ n. ap (λ (s : Seat). s.looks) (seat n) ∙ sym (append-nil (seat_at f n).looks) ∙ ap (λ (l : List Look). (seat_at f n).looks ++ (l ++ [])) (sym (only_none (n == i)));
  picks = λ n. ap (λ (s : Seat). s.picks) (seat n) ∙ sym (append-nil (seat_at f n).picks) ∙ ap (λ (l : List NodePick). (seat_at f n).picks ++ (l ++ [])) (sym (only_none (n == i)));
  counts = λ n node. let same_count = ap (λ (s : Seat). s.count node) (seat n) in omega (arith, same_count);
  spent = λ n node c. absurd (no_elements node (subst (λ (l : List ℕ). Contains l node) (unspent n i (pinned p) refl) c));
}
  where
    grew : Grew f.generations h.generations
    grew = (did.grew.0, same.generations ∙ did.grew.1)

    held_in : Contains h.generations p
    held_in = subst (λ (l : List Plan). Contains l p) (sym same.generations) (last_held did.last)

    seat : (n : ℕ) → seat_at h n ≡ seat_at f n
    seat n = same.seats n ∙ ap (λ (d : Desk). seat_at d n) did.same

counts : (a b m : ℕ) → b ≡ counted_on a m → counted_on b 0 ≡ counted_on a m
counts a b m is = omega (arith, is)

-- a pin that was refused
pub desk_refused : {f g : Desk} {i j : ℕ} → RefuseDid f g → j ≡ i → DeskWent f g i j []
desk_refused {f} {g} {i} {j} did is = record {
  grew = did.grew;
  held = tt;
  number = is;
  below = λ b. grew_below f.generations g.generations j did.grew (subst (λ (n : ℕ). IsBelow f.generations n) (sym is) b);
  pinned = accounted did.counted;
  looks = λ n. ap (λ (d : Desk). (seat_at d n).looks) did.same ∙ sym (append-nil (seat_at f n).looks);
  picks = λ n. ap (λ (d : Desk). (seat_at d n).picks) did.same ∙ sym (append-nil (seat_at f n).picks);
  counts = λ n node. let same_count = ap (λ (d : Desk). (seat_at d n).count node) did.same in omega (arith, same_count);
  spent = λ n node c. absurd (no_elements node c);
}
  where
    accounted : ((g.pins ≡ f.pins) × (g.refused ≡ f.refused)) ⊎ ((p : Plan) × (g.pins ≡ f.pins ++ p ∷ []) × (g.refused ≡ min (f.refused + 1) 18446744073709551615)) → Accounted f g []
    accounted (inl same) = record { marks = []; all = same.0 ∙ sym (append-nil f.pins); own = refl; counted = ap (λ (r : ℕ). counted_on r 0) same.1 }
    accounted (inr more) = record { marks = refused more.0 ∷ []; all = more.1; own = refl; counted = counts f.refused g.refused 1 more.2 }

-- the seat of the number has these looks and picks more
pub desk_seated : {f g : Desk} {i j : ℕ} (s : Step) → g ≡ record f { attended = g.attended } → pins_by s ≡ [] → j ≡ i
    → (seat_at g i).looks ≡ (seat_at f i).looks ++ looks_by s → (seat_at g i).picks ≡ (seat_at f i).picks ++ picks_by s
    → ((node : ℕ) → (seat_at f i).count node ≤ (seat_at g i).count node) → ((node : ℕ) → Contains (spents_by s) node → 2 ^ 62 < (seat_at g i).count node + period_len one_server)
    → ((n : ℕ) → n ≢ i → g.attended n ≡ f.attended n) → DeskWent f g i j (s ∷ [])
desk_seated {f} {g} {i} {j} s same pin is looks picks counts spent others = record {
  grew = ([], ap (λ (d : Desk). d.generations) same ∙ sym (append-nil f.generations));
  held = subst (λ (l : List Plan). AllByRecursion (Contains g.generations) (l ++ [])) (sym pin) tt;
  number = is ∙ sym (unpinned i s pin);
  below = λ b. subst (λ (n : ℕ). IsBelow g.generations n) (sym is) (subst (λ (l : List Plan). IsBelow l i) (sym (ap (λ (d : Desk). d.generations) same)) b);
  pinned = subst (λ (l : List Plan). Accounted f g (l ++ [])) (sym pin) (record { marks = []; all = ap (λ (d : Desk). d.pins) same ∙ sym (append-nil f.pins); own = refl; counted = ap (λ (d : Desk). counted_on d.refused 0) same });
  looks = λ n. look n (cases_eq n i);
  picks = λ n. pick n (cases_eq n i);
  counts = λ n node. count n node (cases_eq n i);
  spent = λ n node. spend n node (cases_eq n i);
}
  where
    look : (n : ℕ) → (n ≡ i) ⊎ (n ≢ i) → (seat_at g n).looks ≡ (seat_at f n).looks ++ looks_under n i (s ∷ [])
    look n (inl at) = subst (λ (k : ℕ). (seat_at g k).looks ≡ (seat_at f k).looks ++ looks_under k i (s ∷ [])) (sym at)
        (looks ∙ ap (λ (l : List Look). (seat_at f i).looks ++ l) (sym (append-nil (looks_by s))) ∙ ap (λ (b : Bool). (seat_at f i).looks ++ (only_if b (looks_by s) ++ [])) (sym (same_link i)))
    look n (inr ne) = ap (λ (o : Option Seat). (held o).looks) (others n ne) ∙ sym (append-nil (seat_at f n).looks) ∙ ap (λ (b : Bool). (seat_at f n).looks ++ (only_if b (looks_by s) ++ [])) (sym (other_link n i ne))

    pick : (n : ℕ) → (n ≡ i) ⊎ (n ≢ i) → (seat_at g n).picks ≡ (seat_at f n).picks ++ picks_under n i (s ∷ [])
    pick n (inl at) = subst (λ (k : ℕ). (seat_at g k).picks ≡ (seat_at f k).picks ++ picks_under k i (s ∷ [])) (sym at)
        (picks ∙ ap (λ (l : List NodePick). (seat_at f i).picks ++ l) (sym (append-nil (picks_by s))) ∙ ap (λ (b : Bool). (seat_at f i).picks ++ (only_if b (picks_by s) ++ [])) (sym (same_link i)))
    pick n (inr ne) = ap (λ (o : Option Seat). (held o).picks) (others n ne) ∙ sym (append-nil (seat_at f n).picks) ∙ ap (λ (b : Bool). (seat_at f n).picks ++ (only_if b (picks_by s) ++ [])) (sym (other_link n i ne))

    count : (n node : ℕ) → (n ≡ i) ⊎ (n ≢ i) → (seat_at f n).count node ≤ (seat_at g n).count node
    count n node (inl at) = subst (λ (k : ℕ). (seat_at f k).count node ≤ (seat_at g k).count node) (sym at) (counts node)
    count n node (inr ne) = let same_count = ap (λ (o : Option Seat). (held o).count node) (others n ne) in omega (arith, same_count)

    spend : (n node : ℕ) → (n ≡ i) ⊎ (n ≢ i) → Contains (spents_under n i (s ∷ [])) node → 2 ^ 62 < (seat_at g n).count node + period_len one_server
    spend n node (inl at) = subst (λ (k : ℕ). Contains (spents_under k i (s ∷ [])) node → 2 ^ 62 < (seat_at g k).count node + period_len one_server) (sym at)
        (λ c. spent node (subst (λ (l : List ℕ). Contains l node) (ap (λ (b : Bool). only_if b (spents_by s) ++ []) (same_link i) ∙ append-nil (spents_by s)) c))
    spend n node (inr ne) = λ c. absurd (no_elements node (subst (λ (l : List ℕ). Contains l node) (ap (λ (b : Bool). only_if b (spents_by s) ++ []) (other_link n i ne)) c))

-- a look
pub desk_looked : {f g : Desk} {i j node mask : ℕ} → LookDid f i node mask g → j ≡ i → DeskWent f g i j (looked (record { node = node; mask = mask }) ∷ [])
desk_looked {f} {g} {i} {j} {node} {mask} did is = desk_seated (looked (record { node = node; mask = mask })) did.same refl is
    (ap (λ (o : Option Seat). (held o).looks) did.seat)
    (ap (λ (o : Option Seat). (held o).picks) did.seat ∙ sym (append-nil (seat_at f i).picks))
    (λ k. let same_count = ap (λ (o : Option Seat). (held o).count k) did.seat in omega (arith, same_count)) (λ k c. absurd (no_elements k c))
    did.others

pub look_attended : {f g : Desk} {i j : ℕ} (node mask : ℕ) → LookDid f i node mask g → j ≡ i → IsAttended g j
look_attended {f} {g} {i} {j} node mask did is = subst (λ (n : ℕ). IsAttended g n) (sym is) (is_held did.seat)
  where
    is_held : {s : Seat} → g.attended i ≡ Some s → IsAttended g i
    is_held {s} at = at ∙ ap (λ (o : Option Seat). Some (held o)) (sym at)

-- a draw takes pops, or none
after_more : (count mask : ℕ) (result : Drawn) → Draws one_server mask count result → count ≤ count_after count result
after_more count mask (drawn.Pick pick) d = let begins = d.1.begins in let onward = d.1.lawful.onward in omega (arith, begins, onward)
after_more count mask drawn.NoneUp d = omega arith
after_more count mask drawn.Spent d = omega arith

drawn_counts : {old new : Seat} {node mask : ℕ} {result : Drawn} → DrawDid old node mask result new → (k : ℕ) → old.count k ≤ new.count k
drawn_counts {old} {new} {node} {mask} {result} did k = by (cases_eq k node)
  where
    by : (k ≡ node) ⊎ (k ≢ node) → old.count k ≤ new.count k
    by (inl at) = subst (λ (n : ℕ). old.count n ≤ new.count n) (sym at)
        (let rose = did.rose in let counted = did.counted in let more = after_more did.count mask result did.drawn in omega (arith, rose, counted, more))
    by (inr ne) = let same_count = did.others k ne in omega (arith, same_count)

-- a draw is refused where a period more would pass 2^62 pops
pub spent_here : {old new : Seat} {node mask : ℕ} → DrawDid old node mask drawn.Spent new → (k : ℕ) → Contains (node ∷ []) k → 2 ^ 62 < new.count k + period_len one_server
spent_here {old} {new} {node} {mask} did k c = by (All-contains (λ (n : ℕ). n ≡ node) (node ∷ []) k (All-from_recursion (λ (n : ℕ). n ≡ node) (node ∷ []) (refl, tt)) c)
  where
    by : k ≡ node → 2 ^ 62 < new.count k + period_len one_server
    by at = subst (λ (n : ℕ). 2 ^ 62 < new.count n + period_len one_server) (sym at)
        (subst (λ (n : ℕ). 2 ^ 62 < n + period_len one_server) (sym did.counted) did.drawn.1)

-- a pick
pub desk_drew : {f g : Desk} {i j node mask : ℕ} {result : Drawn} (s : Step) → Reseated f i (Some (seat_at g i)) g → DrawDid (seat_at f i) node mask result (seat_at g i)
    → pins_by s ≡ [] → looks_by s ≡ [] → picks_by s ≡ pick_of node result
    → ((k : ℕ) → Contains (spents_by s) k → 2 ^ 62 < (seat_at g i).count k + period_len one_server) → j ≡ i → DeskWent f g i j (s ∷ [])
desk_drew {f} {g} {i} {j} {node} {mask} {result} s seat did pin look pick spent is = desk_seated s seat.same pin is
    (did.looks ∙ sym (append-nil (seat_at f i).looks) ∙ ap (λ (l : List Look). (seat_at f i).looks ++ l) (sym look))
    (did.picks ∙ ap (λ (l : List NodePick). (seat_at f i).picks ++ l) (sym pick))
    (drawn_counts did) spent
    seat.others

-- a draw that found none
pub desk_undrawn : {f g : Desk} {i j node mask : ℕ} {result : Drawn} → Reseated f i (Some (seat_at g i)) g → DrawDid (seat_at f i) node mask result (seat_at g i)
    → pick_of node result ≡ [] → j ≡ i → DeskWent f g i j []
desk_undrawn {f} {g} {i} {j} {node} {mask} {result} seat did none is = record {
  grew = ([], ap (λ (d : Desk). d.generations) seat.same ∙ sym (append-nil f.generations));
  held = tt;
  number = is;
  below = λ b. subst (λ (n : ℕ). IsBelow g.generations n) (sym is) (subst (λ (l : List Plan). IsBelow l i) (sym (ap (λ (d : Desk). d.generations) seat.same)) b);
  pinned = record { marks = []; all = ap (λ (d : Desk). d.pins) seat.same ∙ sym (append-nil f.pins); own = refl; counted = ap (λ (d : Desk). counted_on d.refused 0) seat.same };
  looks = λ n. look n (cases_eq n i);
  picks = λ n. pick n (cases_eq n i);
  counts = λ n node. count n node (cases_eq n i);
  spent = λ n node c. absurd (no_elements node c);
}
  where
    look : (n : ℕ) → (n ≡ i) ⊎ (n ≢ i) → (seat_at g n).looks ≡ (seat_at f n).looks ++ []
    look n (inl at) = subst (λ (k : ℕ). (seat_at g k).looks ≡ (seat_at f k).looks ++ []) (sym at) (did.looks ∙ sym (append-nil (seat_at f i).looks))
    look n (inr ne) = ap (λ (o : Option Seat). (held o).looks) (seat.others n ne) ∙ sym (append-nil (seat_at f n).looks)

    pick : (n : ℕ) → (n ≡ i) ⊎ (n ≢ i) → (seat_at g n).picks ≡ (seat_at f n).picks ++ []
    pick n (inl at) = subst (λ (k : ℕ). (seat_at g k).picks ≡ (seat_at f k).picks ++ []) (sym at) (did.picks ∙ ap (λ (l : List NodePick). (seat_at f i).picks ++ l) none)
    pick n (inr ne) = ap (λ (o : Option Seat). (held o).picks) (seat.others n ne) ∙ sym (append-nil (seat_at f n).picks)

    count : (n node : ℕ) → (n ≡ i) ⊎ (n ≢ i) → (seat_at f n).count node ≤ (seat_at g n).count node
    count n node (inl at) = subst (λ (k : ℕ). (seat_at f k).count node ≤ (seat_at g k).count node) (sym at) (drawn_counts did node)
    count n node (inr ne) = let same_count = ap (λ (o : Option Seat). (held o).count node) (seat.others n ne) in omega (arith, same_count)

-- a balancer of one server has no other child
pub first_child : {child : ℕ} → 0 < weight_of one_server child → child ≡ 0
first_child {child} weighs = by child weighs
  where
    by : (n : ℕ) → 0 < weight_of one_server n → n ≡ 0
    by zero h = refl
    by (suc n) h = absurd (omega (arith, h))
