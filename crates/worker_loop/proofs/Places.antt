-- A connection that was written in its place, and how many stand from a key on.
use Rattle.std.proofs.Common.{◌≡◌, ℕ, ◌+◌, ◌<◌, ◌≤◌, zero, suc, List, [], ◌∷◌, Option, Some, None, is_some, get_or, length, drop, refl, sym, ◌∙◌, ap, arith, Bool, true, false, if◌then◌else◌}
use Rattle.std.specs.Prelude.{count_by}
use Rattle.std.proofs.lemmas.List.{get_or-set_same, get_or-set_other}
use Rattle.std.proofs.lemmas.List.Sums.{sum_by-cons, sum_by-set}
use Rattle.slab.specs.Slab.{Slab, get, slab_len, with_value}
use Rattle.conn_machine.specs.declared.conn.Conn.{Conn}
use Rattle.worker_loop.proofs.Servings.{Others}

abbrev one_of : {X : Type 0} → Option X → ℕ
one_of o = if is_some o then 1 else 0

within : {X : Type 0} (xs : List (Option X)) (k : ℕ) (x : X) → get_or xs k None ≡ Some x → k < length xs
within [] k x at = absurd (let f : ⊥ = cc in f)
within (y ∷ ys) zero x at = omega arith
within (y ∷ ys) (suc k) x at = let lt = within ys k x at in omega (arith, lt)

-- where a key has a connection, it has the one that is written there
pub placed : (conns : Slab Conn) (key : ℕ) (c d : Conn) → get conns key ≡ Some c → get (with_value conns key d) key ≡ Some d
placed conns key c d at = get_or-set_same conns.slots key (Some d) None (within conns.slots key c at)

-- and the other keys have what they had
pub placed_others : (conns : Slab Conn) (key : ℕ) (d : Conn) → Others conns (with_value conns key d) key
placed_others conns key d k ne = get_or-set_other conns.slots key k (Some d) None ne

-- as many stand as before
pub placed_len : (conns : Slab Conn) (key : ℕ) (c d : Conn) → get conns key ≡ Some c → slab_len (with_value conns key d) ≡ slab_len conns
placed_len conns key c d at =
    let all : slab_len (with_value conns key d) + one_of (get conns key) ≡ slab_len conns + 1 = sum_by-set (λ (o : Option Conn). one_of o) conns.slots key (Some d) None (within conns.slots key c at) in
    let here : one_of (get conns key) ≡ 1 = ap (λ (o : Option Conn). one_of o) at in
    omega (arith, all, here)

-- one change after another at a key
pub others_then : (a b d : Slab Conn) (key : ℕ) → Others a b key → Others b d key → Others a d key
others_then a b d key first next k ne = next k ne ∙ first k ne

-- how many connections stand from a key on
abbrev pub held_from : Slab Conn → ℕ → ℕ
held_from conns key = count_by is_some (drop key conns.slots)

abbrev empty : {X : Type 0} → List X
empty = []

drop_none : {X : Type 0} (k : ℕ) → drop k (empty {X = X}) ≡ []
drop_none zero = refl
drop_none (suc k) = refl

count_next : {X : Type 0} (xs : List (Option X)) (k : ℕ) → count_by is_some (drop k xs) ≡ one_of (get_or xs k None) + count_by is_some (drop (k + 1) xs)
count_next {X} [] k =
    let here : count_by is_some (drop k (empty {X = Option X})) ≡ 0 = ap (count_by is_some) (drop_none k) in
    let after : count_by is_some (drop (k + 1) (empty {X = Option X})) ≡ 0 = ap (count_by is_some) (drop_none (k + 1)) in
    omega (arith, here, after)
count_next {X} (x ∷ xs) zero = sum_by-cons (λ (o : Option X). one_of o) x xs
count_next {X} (x ∷ xs) (suc k) =
    let next : suc (k + 1) ≡ suc k + 1 = omega arith in
    count_next xs k ∙ ap (λ (n : ℕ). one_of (get_or xs k None) + count_by is_some (drop n (x ∷ xs))) next

held_next : (conns later : Slab Conn) (key : ℕ) (found : Bool) → get later key ≡ get conns key → found ≡ is_some (get later key) → held_from conns key ≡ (if found then 1 else 0) + held_from conns (key + 1)
held_next conns later key found same is =
    count_next conns.slots key ∙ ap (λ (n : ℕ). n + held_from conns (key + 1)) (ap (λ (o : Option Conn). one_of o) (sym same) ∙ ap (λ (b : Bool). if b then 1 else 0) (sym is))

-- where the key has a connection, one less stands after it, and else as many
pub held_found : (conns later : Slab Conn) (key : ℕ) (found : Bool) → get later key ≡ get conns key → found ≡ is_some (get later key) → found ≡ true → held_from conns key ≡ 1 + held_from conns (key + 1)
held_found conns later key found same is yes_ = held_next conns later key found same is ∙ ap (λ (b : Bool). (if b then 1 else 0) + held_from conns (key + 1)) yes_

pub held_vacant : (conns later : Slab Conn) (key : ℕ) (found : Bool) → get later key ≡ get conns key → found ≡ is_some (get later key) → found ≡ false → held_from conns key ≡ 0 + held_from conns (key + 1)
held_vacant conns later key found same is no_ = held_next conns later key found same is ∙ ap (λ (b : Bool). (if b then 1 else 0) + held_from conns (key + 1)) no_

none_left : {X : Type 0} (xs : List (Option X)) (key k : ℕ) → count_by is_some (drop key xs) ≡ 0 → key ≤ k → get_or xs k None ≡ None
none_left [] key k none le = refl
none_left (None ∷ xs) zero zero none le = refl
none_left {X} (None ∷ xs) zero (suc k) none le =
    let all : count_by is_some (None ∷ xs) ≡ 0 + count_by is_some xs = sum_by-cons (λ (o : Option X). one_of o) None xs in
    let was : count_by is_some (None ∷ xs) ≡ 0 = none in
    let left : count_by is_some xs ≡ 0 = omega (arith, was, all) in
    none_left xs zero k left (omega arith)
none_left {X} (Some x ∷ xs) zero k none le =
    let all : count_by is_some (Some x ∷ xs) ≡ 1 + count_by is_some xs = sum_by-cons (λ (o : Option X). one_of o) (Some x) xs in
    let was : count_by is_some (Some x ∷ xs) ≡ 0 = none in
    absurd (omega (arith, was, all))
none_left (x ∷ xs) (suc key) zero none le = absurd (omega (arith, le))
none_left (x ∷ xs) (suc key) (suc k) none le = none_left xs key k none (omega (arith, le))

-- where none stand from a key on, no key from there on has one
pub none_from : (conns later : Slab Conn) (key : ℕ) → held_from conns key ≡ 0 → ((k : ℕ) → key ≤ k → get later k ≡ get conns k) → (k : ℕ) → key ≤ k → get later k ≡ None
none_from conns later key none above k le = above k le ∙ none_left conns.slots key k none le
