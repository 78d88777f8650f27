-- What the members of a chain stand for, as far as they were read.
use Rattle.std.proofs.Common.{◌≡◌, ℕ, suc, ◌+◌, ◌<◌, ◌≤◌, ◌++◌, ◌∷◌, [], List, length, get_or, drop, Option, Some, None, Bool, true, false, slice_get, inl, inr, refl, sym, ap, ◌∙◌, subst, arith, append_assoc, add-one, cond, nat_le, option_map, option_and_then, length-append, drop-cons}
use Rattle.std.proofs.lemmas.Bool.{cases_lt, le-leb, leb-true}
use Rattle.std.proofs.lemmas.List.{append-nil, drop_all}
use Rattle.std.proofs.Math.ListN.{get_or-append}
use Rattle.std.proofs.Math.Seq.{get_or-append_seam}
use Rattle.std.proofs.lemmas.Option.{slice_get_past, slice_get-get_or}
use Rattle.middleware_graph.specs.declared.node.Node.{Node}
use Rattle.middleware_graph.specs.declared.node.Node.TheVariants as node
use Rattle.middleware_graph.specs.Graph.{flat, flat_next, flat_of, joined, if_few, max_depth}
use Rattle.middleware_graph.specs.Tables.{IsTable, found_in, told}

-- these stand before what the others stand for
abbrev pub before : List ℕ → Option (List ℕ) → Option (List ℕ)
before front o = option_map (λ back. front ++ back) o

before_nil : (o : Option (List ℕ)) → o ≡ before [] o
before_nil None = refl
before_nil (Some back) = refl

before_more : (a b : List ℕ) (o : Option (List ℕ)) → before a (before b o) ≡ before (a ++ b) o
before_more a b None = refl
before_more a b (Some back) = ap Some (sym (append_assoc a b back))

pub joined_first : (each : Option ℕ → Option (List ℕ)) (members : List (Option ℕ)) → joined each members ≡ before [] (joined each (drop 0 members))
joined_first each members = before_nil (joined each members)

step : (each : Option ℕ → Option (List ℕ)) (members : List (Option ℕ)) (i : ℕ) (m : Option ℕ) → i < length members → get_or members i m ≡ m
    → joined each (drop i members) ≡ option_and_then (λ front. before front (joined each (drop (i + 1) members))) (each m)
step each members i m l at =
    let cut : drop i members ≡ m ∷ drop (i + 1) members = drop-cons members i m l ∙ ap (λ k. k ∷ drop (suc i) members) at ∙ ap (λ n. m ∷ drop n members) (sym (add-one i)) in
    ap (joined each) cut

told_next : (each : Option ℕ → Option (List ℕ)) (members : List (Option ℕ)) (i : ℕ) (m : Option ℕ) (places more : List ℕ) → i < length members → get_or members i m ≡ m
    → each m ≡ Some more → joined each members ≡ before places (joined each (drop i members))
    → joined each members ≡ before (places ++ more) (joined each (drop (i + 1) members))
told_next each members i m places more l at is told =
    told ∙ ap (before places) (step each members i m l at ∙ ap (option_and_then (λ front. before front (joined each (drop (i + 1) members)))) is)
    ∙ before_more places more (joined each (drop (i + 1) members))

-- one member more
pub joined_next : (each : Option ℕ → Option (List ℕ)) (members : List (Option ℕ)) (i : ℕ) (m : Option ℕ) (places more grown : List ℕ) → i < length members → get_or members i m ≡ m
    → each m ≡ Some more → grown ≡ places ++ more → joined each members ≡ before places (joined each (drop i members))
    → joined each members ≡ before grown (joined each (drop (i + 1) members))
joined_next each members i m places more grown l at is e told =
    told_next each members i m places more l at is told ∙ ap (λ front. before front (joined each (drop (i + 1) members))) (sym e)

few_by : (b : Bool) (places : List ℕ) → 64 < length places → nat_le (length places) 64 ≡ b → cond b (Some places) None ≡ None
few_by true places over is = absurd (omega (arith, over, leb-true (length places) 64 is))
few_by false places over is = refl

few_not : (places : List ℕ) → 64 < length places → if_few (Some places) ≡ None
few_not places over = few_by (nat_le (length places) 64) places over refl

few_yes : (places : List ℕ) → length places ≤ 64 → if_few (Some places) ≡ Some places
few_yes places fits = ap (λ b. cond b (Some places) None) (le-leb (length places) 64 fits)

too_many : (front : List ℕ) (o : Option (List ℕ)) → 64 < length front → if_few (before front o) ≡ None
too_many front None over = refl
too_many front (Some back) over = few_not (front ++ back) (omega (arith, over, length-append front back))

-- more than 64 in all
pub joined_over : (each : Option ℕ → Option (List ℕ)) (members : List (Option ℕ)) (i : ℕ) (m : Option ℕ) (places more : List ℕ) → i < length members → get_or members i m ≡ m
    → each m ≡ Some more → 64 < length places + length more → joined each members ≡ before places (joined each (drop i members))
    → if_few (joined each members) ≡ None
joined_over each members i m places more l at is over told =
    ap if_few (told_next each members i m places more l at is told)
    ∙ too_many (places ++ more) (joined each (drop (i + 1) members)) (omega (arith, over, length-append places more))

-- one that stands for nothing
pub joined_none : (each : Option ℕ → Option (List ℕ)) (members : List (Option ℕ)) (i : ℕ) (m : Option ℕ) (places : List ℕ) → i < length members → get_or members i m ≡ m
    → each m ≡ None → joined each members ≡ before places (joined each (drop i members)) → if_few (joined each members) ≡ None
joined_none each members i m places l at is told =
    ap if_few (told ∙ ap (before places) (step each members i m l at ∙ ap (option_and_then (λ front. before front (joined each (drop (i + 1) members)))) is))

-- all of them
pub joined_done : (each : Option ℕ → Option (List ℕ)) (members : List (Option ℕ)) (i : ℕ) (places : List ℕ) → length members ≤ i → length places ≤ 64
    → joined each members ≡ before places (joined each (drop i members)) → if_few (joined each members) ≡ Some places
joined_done each members i places past fits told =
    let read : joined each members ≡ Some places = told ∙ ap (λ ms. before places (joined each ms)) (drop_all i members past) ∙ ap Some (append-nil places) in
    ap if_few read ∙ few_yes places fits

joined_alike : (f g : Option ℕ → Option (List ℕ)) → ((m : Option ℕ) → f m ≡ g m) → (members : List (Option ℕ)) → joined f members ≡ joined g members
joined_alike f g same [] = refl
joined_alike f g same (m ∷ ms) =
    ap (option_and_then (λ front. before front (joined f ms))) (same m)
    ∙ ap (λ o. option_and_then (λ front. before front o) (g m)) (joined_alike f g same ms)

flat_of_alike : (f g : Option ℕ → Option (List ℕ)) → ((m : Option ℕ) → f m ≡ g m) → (x : ℕ) (o : Option Node) → flat_of f x o ≡ flat_of g x o
flat_of_alike f g same x None = refl
flat_of_alike f g same x (Some node.Stage) = refl
flat_of_alike f g same x (Some (node.Faulty fault)) = refl
flat_of_alike f g same x (Some (node.Chain members)) = ap if_few (joined_alike f g same members)

pub pushed_old : {X : Type 0} (xs : List X) (y : X) (k : ℕ) → k < length xs → slice_get (xs ++ y ∷ []) k ≡ slice_get xs k
pushed_old xs y k l =
    let m : k < length (xs ++ y ∷ []) = omega (arith, l, length-append xs (y ∷ [])) in
    slice_get-get_or (xs ++ y ∷ []) k y m ∙ ap Some (get_or-append xs (y ∷ []) y k l) ∙ sym (slice_get-get_or xs k y l)

pub pushed_new : {X : Type 0} (xs : List X) (y : X) → slice_get (xs ++ y ∷ []) (length xs) ≡ Some y
pushed_new xs y =
    let m : length xs < length (xs ++ y ∷ []) = omega (arith, length-append xs (y ∷ [])) in
    slice_get-get_or (xs ++ y ∷ []) (length xs) y m ∙ ap Some (get_or-append_seam xs y [] y)

-- what the middlewares below n stand for, one level deeper than a table says
pub record AreDeeper (nodes : List Node) (table next : List (Option (List ℕ))) (n : ℕ) : Type 0 where
  pub size : length next ≡ n
  pub each : (x : ℕ) → x < n → found_in next (Some x) ≡ flat_next nodes (found_in table) (Some x)

pub deeper_first : (nodes : List Node) (table : List (Option (List ℕ))) → AreDeeper nodes table [] 0
deeper_first nodes table = record { size = refl; each = λ x l. absurd (omega (arith, l)) }

pub deeper_next : (nodes : List Node) (table next grown : List (Option (List ℕ))) (n : ℕ) (own : Node) (is : Option (List ℕ)) → n < length nodes → own ≡ get_or nodes n own
    → is ≡ flat_of (found_in table) n (Some own) → grown ≡ next ++ is ∷ [] → AreDeeper nodes table next n → AreDeeper nodes table grown (n + 1)
deeper_next nodes table next grown n own is l at read e d =
    let here : slice_get nodes n ≡ Some own = slice_get-get_or nodes n own l ∙ ap Some (sym at) in
    let P : List (Option (List ℕ)) → Type 0 = λ ts. AreDeeper nodes table ts (n + 1) in
    subst P (sym e) (record {
      size = length-append next (is ∷ []) ∙ ap (λ k. k + 1) d.size;
      each = λ x m. elim (cases_lt x n) [
        | inl below ↦ ap told (pushed_old next is x (omega (arith, below, d.size))) ∙ d.each x below
        | inr not_below ↦
            let same : x ≡ length next = omega (arith, m, not_below, d.size) in
            let same_n : n ≡ x = omega (arith, m, not_below) in
            ap (λ k. found_in (next ++ is ∷ []) (Some k)) same ∙ ap told (pushed_new next is) ∙ read
            ∙ ap (flat_of (found_in table) n) (sym here) ∙ ap (λ k. flat_of (found_in table) k (slice_get nodes k)) same_n
      ];
    })

deeper_at : (nodes : List Node) (table next : List (Option (List ℕ))) (n : ℕ) → length nodes ≤ n → AreDeeper nodes table next n
    → (depth : ℕ) → IsTable nodes depth table → (m : Option ℕ) → found_in next m ≡ flat nodes (suc depth) m
deeper_at nodes table next n past d depth t None = refl
deeper_at nodes table next n past d depth t (Some x) = elim (cases_lt x n) [
  | inl below ↦ d.each x below ∙ flat_of_alike (found_in table) (flat nodes depth) t.flats x (slice_get nodes x)
  | inr not_below ↦
      ap told (slice_get_past next x (omega (arith, d.size, not_below)))
      ∙ sym (ap (flat_of (flat nodes depth) x) (slice_get_past nodes x (omega (arith, past, not_below))))
]

empty_at : (m : Option ℕ) → found_in [] m ≡ None
empty_at None = refl
empty_at (Some x) = ap told (slice_get_past [] x (omega arith))

-- one level more is told of all
pub deeper_done : (nodes : List Node) (table next : List (Option (List ℕ))) (n : ℕ) → length nodes ≤ n → AreDeeper nodes table next n
    → (depth : ℕ) → IsTable nodes depth table → IsTable nodes (depth + 1) next
deeper_done nodes table next n past d depth t =
    subst (λ k. IsTable nodes k next) (sym (add-one depth)) (record { flats = deeper_at nodes table next n past d depth t })

pub table_none : (nodes : List Node) → IsTable nodes 0 []
table_none nodes = record { flats = λ m. empty_at m }

pub table_next : (nodes : List Node) (table slice next : List (Option (List ℕ))) (depth : ℕ) → slice ≡ table
    → ((d : ℕ) → IsTable nodes d slice → IsTable nodes (d + 1) next) → IsTable nodes depth table → IsTable nodes (depth + 1) next
table_next nodes table slice next depth e more t = more depth (subst (IsTable nodes depth) (sym e) t)

pub table_full : (nodes : List Node) (table : List (Option (List ℕ))) (depth : ℕ) → depth ≡ 8 → IsTable nodes depth table → IsTable nodes max_depth table
unfolding max_depth
table_full nodes table depth e t = subst (λ k. IsTable nodes k table) e t
