-- A timeline that grows, and what is pinned of it.
use Rattle.std.proofs.Common.{◌≡◌, ℕ, ◌+◌, inl, inr, List, [], ◌∷◌, ◌++◌, map, Option, Some, refl, sym, ap, ◌∙◌, subst, append-nil, append_assoc}
use Rattle.std.specs.Prelude.{replicate, Result, Ok, Err, IfOk, OnOk, OnErr, MatchResult}
use Rattle.std.specs.List.{Contains, flat_map}
use Rattle.std.proofs.lemmas.Grind.{flat_map-append, replicate_next}
use Rattle.std.proofs.lemmas.List.{map-append}
use Rattle.std.proofs.lemmas.List.Elements.{Contains-push, Contains-push_cases}
use Rattle.std.specs.declared.sync.Arc.{Arc}
use Rattle.std.specs.declared.alloc.Global.{Global}
use Rattle.std.specs.declared.alloc.AllocError.{AllocError}
use Rattle.std.specs.Arc.{arc_value}
use Rattle.conversation.specs.Plans.{Plan}
use Rattle.generation.specs.Meaning.{plan_of}
use Rattle.generation.specs.declared.generation.Generation.{Generation}
use Rattle.desk.specs.Desks.{Desk, Seat, IsNumbered, IsLast, IsGreatest, Pinned, Refused, IsHeld, IsAttended, held}
use Rattle.desk.specs.Issues.{published_plan, published_in, generations_of, pins_by, pins_of}
use Rattle.desk.specs.declared.timeline.Published.{Published}
use Rattle.desk.proofs.Numbers.{numbered_more, greatest_last}

-- a history grew by the last one
pub told_more : (told told' : List (Published × ℕ)) (last : Published) (n : ℕ) → told' ≡ told ++ (last, n) ∷ [] → published_in told' ≡ published_in told ++ last ∷ []
told_more told told' last n e = ap published_in e ∙ map-append (λ (x : Published × ℕ). x.0) told ((last, n) ∷ [])

pub timeline_more : (earlier earlier' : List Published) (newest newest' before next : Published)
    → earlier' ≡ earlier ++ before ∷ [] → before ≡ newest → newest' ≡ next → (published_plan next).number ≡ (published_plan newest).number + 1
    → IsNumbered (generations_of earlier newest) → IsNumbered (generations_of earlier' newest')
timeline_more earlier earlier' newest newest' before next e b i n h =
    subst (λ (x : Published). IsNumbered (generations_of earlier' x)) (sym i)
    (subst (λ (ps : List Plan). IsNumbered (ps ++ published_plan next ∷ []))
    (sym (ap (map published_plan) e ∙ map-append published_plan earlier (before ∷ []) ∙ ap (λ (x : Published). map published_plan earlier ++ published_plan x ∷ []) b))
    (numbered_more (map published_plan earlier) (published_plan newest) (published_plan next) n h))

-- the next generation has no pin
pub pins_stay : (earlier earlier' : List Published) (newest newest' before : Published)
    → earlier' ≡ earlier ++ before ∷ [] → before ≡ newest → newest'.pins ≡ 0 → pins_of earlier' newest' ≡ pins_of earlier newest
pins_stay earlier earlier' newest newest' before e b z =
    ap (λ (n : ℕ). flat_map pins_by earlier' ++ replicate n (published_plan newest')) z
    ∙ append-nil (flat_map pins_by earlier')
    ∙ ap (flat_map pins_by) (e ∙ ap (λ (x : Published). earlier ++ x ∷ []) b)
    ∙ flat_map-append pins_by earlier (newest ∷ [])
    ∙ ap (λ (ps : List Plan). flat_map pins_by earlier ++ ps) (append-nil (pins_by newest))

pub pins_told : (told told' : List (Published × ℕ)) (newest next : Published) (n : ℕ) → told' ≡ told ++ (newest, n) ∷ [] → next.pins ≡ 0
    → pins_of (published_in told') next ≡ pins_of (published_in told) newest
pins_told told told' newest next n e z = pins_stay (published_in told) (published_in told') newest next newest (told_more told told' newest n e) refl z

pub generations_told : (told told' : List (Published × ℕ)) (newest next : Published) (n : ℕ) → told' ≡ told ++ (newest, n) ∷ []
    → generations_of (published_in told') next ≡ generations_of (published_in told) newest ++ published_plan next ∷ []
generations_told told told' newest next n e =
    ap (λ (ps : List Plan). ps ++ published_plan next ∷ [])
    (ap (map published_plan) (told_more told told' newest n e) ∙ map-append published_plan (published_in told) (newest ∷ []))

-- one more pin of the newest
pub pins_more : (earlier : List Published) (newest : Published)
    → pins_of earlier (record newest { pins = newest.pins + 1 }) ≡ pins_of earlier newest ++ published_plan newest ∷ []
pins_more earlier newest =
    ap (λ (ps : List Plan). flat_map pins_by earlier ++ ps) (replicate_next newest.pins (published_plan newest))
    ∙ sym (append_assoc (flat_map pins_by earlier) (pins_by newest) (published_plan newest ∷ []))

pinned_by : (earlier earlier' : List Published) (newest newest' : Published) (issue : Arc Generation Global) (attended : ℕ → Option Seat)
    → arc_value issue ≡ arc_value newest'.issue → generations_of earlier' newest' ≡ generations_of earlier newest
    → pins_of earlier' newest' ≡ pins_of earlier newest ++ published_plan newest' ∷ [] → IsNumbered (generations_of earlier' newest')
    → Pinned (record { generations = generations_of earlier newest; pins = pins_of earlier newest; refused = 0; attended = attended }) (plan_of (arc_value issue))
    (record { generations = generations_of earlier' newest'; pins = pins_of earlier' newest'; refused = 0; attended = attended })
pinned_by earlier earlier' newest newest' issue attended i g e h = record {
  same = refl;
  grew = ([], g ∙ sym (append-nil (generations_of earlier newest)));
  last = (map published_plan earlier', ap (λ (x : Generation). map published_plan earlier' ++ plan_of x ∷ []) (sym i));
  greatest = subst (λ (x : Generation). IsGreatest (generations_of earlier' newest') (plan_of x)) (sym i) (greatest_last (map published_plan earlier') (published_plan newest') h);
  pins = e ∙ ap (λ (x : Generation). pins_of earlier newest ++ plan_of x ∷ []) (sym i);
}

-- a pin, and a refused one, which adds none
pub pinned_or : (earlier earlier' : List Published) (newest newest' : Published) (attended : ℕ → Option Seat) (result : Result (Arc Generation Global) AllocError)
    → IfOk result (λ issue. arc_value issue ≡ arc_value newest'.issue) → generations_of earlier' newest' ≡ generations_of earlier newest
    → OnOk result (pins_of earlier' newest' ≡ pins_of earlier newest ++ published_plan newest' ∷ []) → OnErr result (pins_of earlier' newest' ≡ pins_of earlier newest)
    → IsNumbered (generations_of earlier' newest')
    → MatchResult result
    (λ issue. Pinned (record { generations = generations_of earlier newest; pins = pins_of earlier newest; refused = 0; attended = attended }) (plan_of (arc_value issue))
    (record { generations = generations_of earlier' newest'; pins = pins_of earlier' newest'; refused = 0; attended = attended }))
    (λ error. Refused (record { generations = generations_of earlier newest; pins = pins_of earlier newest; refused = 0; attended = attended })
    (record { generations = generations_of earlier' newest'; pins = pins_of earlier' newest'; refused = 0; attended = attended }))
pinned_or earlier earlier' newest newest' attended (Ok issue) i g p e h = pinned_by earlier earlier' newest newest' issue attended i g p h
pinned_or earlier earlier' newest newest' attended (Err error) i g p e h = record {
  same = refl;
  grew = ([], g ∙ sym (append-nil (generations_of earlier newest)));
  counted = inl (e, refl);
}

-- where each pin had this number, and the newest has it, each pin has it
pub pinned_numbers : (earlier earlier' : List Published) (newest newest' : Published) (number : ℕ) (result : Result (Arc Generation Global) AllocError)
    → OnOk result (pins_of earlier' newest' ≡ pins_of earlier newest ++ published_plan newest' ∷ []) → OnErr result (pins_of earlier' newest' ≡ pins_of earlier newest)
    → (published_plan newest').number ≡ number → ((p : Plan) → Contains (pins_of earlier newest) p → p.number ≡ number)
    → (p : Plan) → Contains (pins_of earlier' newest') p → p.number ≡ number
pinned_numbers earlier earlier' newest newest' number (Ok issue) ok err is all p has =
    elim (Contains-push_cases (pins_of earlier newest) (published_plan newest') p (subst (λ (ps : List Plan). Contains ps p) ok has)) [
      | inl before ↦ all p before
      | inr same ↦ subst (λ (q : Plan). q.number ≡ number) same is
    ]
pinned_numbers earlier earlier' newest newest' number (Err error) ok err is all p has = all p (subst (λ (ps : List Plan). Contains ps p) err has)

pub last_among : (ps : List Plan) (p : Plan) → IsLast ps p → Contains ps p
last_among ps p l = subst (λ (xs : List Plan). Contains xs p) (sym l.1) (Contains-push l.0 p)

-- what was given is a seat
pub held_some : (o : Option Seat) (s : Seat) → o ≡ Some s → IsHeld o
held_some o s e = e ∙ sym (ap (λ (x : Option Seat). Some (held x)) e)

pub attended_by : (d : Desk) (n k : ℕ) (s : Seat) → n ≡ k → d.attended k ≡ Some s → IsAttended d n
attended_by d n k s e h = subst (λ (m : ℕ). IsAttended d m) (sym e) (held_some (d.attended k) s h)
