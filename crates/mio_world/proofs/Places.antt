-- A change at one place, and what it means of each link.
use Rattle.std.proofs.Common.{◌≡◌, ◌≢◌, ℕ, ◌+◌, ◌-◌, ◌%◌, ◌^◌, ◌<◌, ◌≤◌, List, length, get_or, refl, sym, ap, ◌∙◌, Bool, true, false, cond, subst, inl, inr, arith}
use Rattle.std.specs.Prelude.{◌==◌, ◌||◌, ◌&&◌, nat_lt, slice_set}
use Rattle.std.specs.List.{All}
use Rattle.std.proofs.lemmas.Bool.{cases_eq, cases_lt, false≢true}
use Rattle.std.proofs.lemmas.List.{get_or_past, get_or_default}
use Rattle.std.proofs.lemmas.Bool.Decides.{nat_tests}
use Rattle.std.proofs.lemmas.Grind.{common_steps}
use Rattle.std.proofs.lemmas.List.Elements.{All-get_or}
use Rattle.mio_world.specs.declared.slot.Slot.{Slot}
use Rattle.mio_world.specs.declared.slot.Asked.{Asked}
use Rattle.mio_world.specs.Slots.{Meaning, meaning, meaning_at, slot_at, no_slot, come_at, open_at, asked_at, untouched, never_come, new_meaning, shut_meaning, after_read, after_write, faults_after, read_failed, write_failed, slot_read, slot_written, Put}
use Rattle.link_world.specs.declared.world.LinkRead.{LinkRead}
use Rattle.link_world.specs.declared.world.LinkWrite.{LinkWrite}
use Rattle.mio_world.specs.Tables.{IsOpenAt, IsOpenMeaning, Given, AreWithin, table_of, read_meaning, write_meaning, began}

abbrev mean : Bool → Bool → ℕ → Asked → Meaning
mean come is_open faults asked = record { come = come; is_open = is_open; faults = faults; asked = asked }

-- what is meant of a link that isn't the slot's own, while it is open
meaning_past : ℕ → Slot → ℕ → Meaning
meaning_past waits s link = record { come = nat_lt link s.link; is_open = false; faults = cond (nat_lt link s.link) (2 ^ 64 - 1) 0; asked = untouched waits }

not_own : (waits : ℕ) (s : Slot) (link : ℕ) → (s.link == link) ≡ false → meaning_at waits s link ≡ meaning_past waits s link
unfolding meaning_past
not_own waits s link other = rw other (tidy s.is_open s.given (nat_lt link s.link))
  where
    tidy : (is_open given before : Bool) →
        ◌≡◌ {A = Meaning} (record { come = before || (given && false); is_open = is_open && (given && false); faults = cond (is_open && (given && false)) s.faults (cond (before || (given && false)) (2 ^ 64 - 1) 0); asked = cond (is_open && (given && false)) (asked_at waits s.asked) (untouched waits) })
        (record { come = before; is_open = false; faults = cond before (2 ^ 64 - 1) 0; asked = untouched waits })
    tidy true true true = refl
    tidy true true false = refl
    tidy true false true = refl
    tidy true false false = refl
    tidy false true true = refl
    tidy false true false = refl
    tidy false false true = refl
    tidy false false false = refl

-- another slot with the same number means the same of the other links
others_at : (waits : ℕ) (s o : Slot) (link l : ℕ) → s.link ≡ link → o.link ≡ link → l ≢ link → meaning_at waits s l ≡ meaning_at waits o l
unfolding meaning_past
others_at waits s o link l is_s is_o ne =
    let a : (s.link == l) ≡ false = grind (arith, nat_tests, is_s, ne) in
    let b : (o.link == l) ≡ false = grind (arith, nat_tests, is_o, ne) in
    not_own waits s l a ∙ ap (λ (k : ℕ). mean (nat_lt l k) (false) (cond (nat_lt l k) (2 ^ 64 - 1) 0) (untouched waits)) (is_s ∙ sym is_o) ∙ sym (not_own waits o l b)

set_here : (slots : List Slot) (at link : ℕ) (s : Slot) → at ≡ link % 16384 → at < length slots → slot_at (slice_set slots at s) link ≡ s
set_here slots at link s is within = subst (λ (k : ℕ). get_or (slice_set slots at s) k no_slot ≡ s) is (grind (arith, common_steps, within))

set_other : (slots : List Slot) (at link : ℕ) (s : Slot) → link % 16384 ≢ at → slot_at (slice_set slots at s) link ≡ slot_at slots link
set_other slots at link s ne = grind (arith, common_steps, ne)

-- the open link at a place is otherwise now
pub put_own : (slots : List Slot) (waits at link : ℕ) (s : Slot) (m : Meaning) → at ≡ link % 16384 → at < length slots → s.link ≡ link → (slot_at slots link).link ≡ link → meaning_at waits s link ≡ m →
    Put (record { slots = slots; waits = waits }) link m (record { slots = slice_set slots at s; waits = waits })
put_own slots waits at link s m is within own was means = record {
  waits = refl;
  here = ap (λ (k : Slot). meaning_at waits k link) (set_here slots at link s is within) ∙ means;
  others = λ l ne. other l ne;
}
  where
    other : (l : ℕ) → l ≢ link → meaning (record { slots = slice_set slots at s; waits = waits }) l ≡ meaning (record { slots = slots; waits = waits }) l
    other l ne = elim (cases_eq (l % 16384) at) [
      | inl same ↦ ap (λ (k : Slot). meaning_at waits k l) (set_here slots at l s (sym same) within)
          ∙ others_at waits s (slot_at slots link) link l own was ne
          ∙ ap (λ (k : ℕ). meaning_at waits (get_or slots k no_slot) l) (sym is ∙ sym same)
      | inr apart ↦ ap (λ (k : Slot). meaning_at waits k l) (set_other slots at l s apart)
    ]

-- numbers of one place lie 16,384 apart
step : (l k : ℕ) → l % 16384 ≡ k % 16384 → k < l → k + 16384 ≤ l
step l k same lt = omega (arith, same, lt)

come_next : (l k : ℕ) → l % 16384 ≡ k % 16384 → nat_lt l (k + 16384) ≡ (nat_lt l k || (k == l))
come_next l k same = elim (cases_lt l k) [
  | inl before ↦ let a : nat_lt l (k + 16384) ≡ true = grind (arith, nat_tests, before) in let b : nat_lt l k ≡ true = grind (arith, nat_tests, before) in rw a (rw b refl)
  | inr from ↦ elim (cases_eq l k) [
    | inl here ↦ let a : nat_lt l (k + 16384) ≡ true = grind (arith, nat_tests, here) in let b : (k == l) ≡ true = grind (arith, nat_tests, here) in let c : nat_lt l k ≡ false = grind (arith, nat_tests, here) in rw a (rw c (rw b refl))
    | inr ne ↦ let far = step l k same (omega (arith, from, ne)) in let a : nat_lt l (k + 16384) ≡ false = grind (arith, nat_tests, far) in let b : (k == l) ≡ false = grind (arith, nat_tests, ne) in let c : nat_lt l k ≡ false = grind (arith, nat_tests, from) in rw a (rw c (rw b refl))
  ]
]

-- what was asked before a wait, told from the wait on
pub asked_next : (waits : ℕ) (a : Asked) → a.wait ≤ waits → asked_at (waits + 1) a ≡ (began (waits + 1) (record { come = true; is_open = true; faults = 0; asked = asked_at waits a })).asked
asked_next waits a within = elim (cases_eq a.wait waits) [
  | inl same ↦ let x : (a.wait == waits + 1) ≡ false = grind (arith, nat_tests, same) in let y : (a.wait + 1 == waits + 1) ≡ true = grind (arith, nat_tests, same) in let z : (a.wait == waits) ≡ true = grind (arith, nat_tests, same) in rw x (rw y (rw z refl))
  | inr ne ↦ let x : (a.wait == waits + 1) ≡ false = grind (arith, nat_tests, within) in let y : (a.wait + 1 == waits + 1) ≡ false = grind (arith, nat_tests, ne) in let z : (a.wait == waits) ≡ false = grind (arith, nat_tests, ne) in rw x (rw y (rw z (last (a.wait + 1 == waits))))
]
  where
    last : (b : Bool) → untouched (waits + 1) ≡ record {
      wait = waits + 1;
      reads = 0;
      read_quiet = false;
      write_quiet = false;
      read_was_quiet = (cond b (record { wait = waits; reads = 0; read_quiet = false; write_quiet = false; read_was_quiet = a.read_quiet; write_was_quiet = a.write_quiet }) (untouched waits)).read_quiet;
      write_was_quiet = (cond b (record { wait = waits; reads = 0; read_quiet = false; write_quiet = false; read_was_quiet = a.read_quiet; write_was_quiet = a.write_quiet }) (untouched waits)).write_quiet;
    }
    last true = refl
    last false = refl

-- what is meant by a slot that isn't open
shut_at : ℕ → Bool → Meaning
shut_at waits came = record { come = came; is_open = false; faults = cond came (2 ^ 64 - 1) 0; asked = untouched waits }

shut_means : (waits : ℕ) (o : Slot) (l : ℕ) (came : Bool) → o.is_open ≡ false → come_at o l ≡ came → meaning_at waits o l ≡ shut_at waits came
unfolding shut_at
shut_means waits o l came shut is = rw shut (rw is refl)

or_false : (b : Bool) → (b || false) ≡ b
or_false true = refl
or_false false = refl

-- the next number of a slot never came, and after it the others came as before
number_new : (o : Slot) (given : Bool) (link : ℕ) → o.given ≡ given → link ≡ cond given (o.link + 16384) o.link → come_at o link ≡ false
number_new o true link is number =
    let a : nat_lt link o.link ≡ false = grind (arith, nat_tests, number) in
    let b : (o.link == link) ≡ false = grind (arith, nat_tests, number) in
    rw is (rw a (rw b refl))
number_new o false link is number =
    let a : nat_lt link o.link ≡ false = grind (arith, nat_tests, number) in
    rw is (rw a refl)

numbers_before : (o : Slot) (given : Bool) (link l : ℕ) → o.given ≡ given → link ≡ cond given (o.link + 16384) o.link → l % 16384 ≡ o.link % 16384 → come_at o l ≡ nat_lt l link
numbers_before o true link l is number same = rw is (rw number (sym (come_next l o.link same)))
numbers_before o false link l is number same = rw is (rw number (or_false (nat_lt l o.link)))

home_of : (given : Bool) (k link at : ℕ) → k % 16384 ≡ at → link ≡ cond given (k + 16384) k → link % 16384 ≡ at
home_of true k link at home e = omega (arith, home, e)
home_of false k link at home e = omega (arith, home, e)

own_means : (waits link : ℕ) (s : Slot) → s.link ≡ link → s.given ≡ true → s.is_open ≡ true → s.faults ≡ 0 → s.asked ≡ untouched waits → meaning_at waits s link ≡ new_meaning waits
own_means waits link s own given is_open faults asked =
    let a : (s.link == link) ≡ true = grind (arith, nat_tests, own) in
    let b : nat_lt link s.link ≡ false = grind (arith, nat_tests, own) in
    let c : (waits == waits) ≡ true = grind (arith, nat_tests) in
    rw a (rw b (rw is_open (rw given (rw faults (rw asked (rw c refl))))))

-- a link that never came is given
pub given_from : (slots : List Slot) (waits at link : ℕ) (o s : Slot) → at < length slots → o ≡ get_or slots at o → o.is_open ≡ false → o.link % 16384 ≡ at →
    link ≡ cond o.given (o.link + 16384) o.link → s.link ≡ link → s.given ≡ true → s.is_open ≡ true → s.faults ≡ 0 → s.asked ≡ untouched waits →
    Given waits slots link (slice_set slots at s)
unfolding meaning_past shut_at
given_from slots waits at link o s within read shut home number own given is_open faults asked =
    let place : link % 16384 ≡ at = home_of o.given o.link link at home number in record {
      never = ap (λ (k : Slot). meaning_at waits k link) (ap (λ (k : ℕ). get_or slots k no_slot) place ∙ sym is) ∙ blank place;
      put = record {
        waits = refl;
        here = ap (λ (k : Slot). meaning_at waits k link) (set_here slots at link s (sym place) within) ∙ own_means waits link s own given is_open faults asked;
        others = λ l ne. other l ne;
      };
    }
  where
    is : o ≡ get_or slots at no_slot
    is = read ∙ get_or_default slots at o no_slot within

    blank : link % 16384 ≡ at → meaning_at waits o link ≡ never_come waits
    blank place = shut_means waits o link false shut (number_new o o.given link refl number)

    other : (l : ℕ) → l ≢ link → meaning (record { slots = slice_set slots at s; waits = waits }) l ≡ meaning (record { slots = slots; waits = waits }) l
    other l ne = elim (cases_eq (l % 16384) at) [
      | inl same ↦
          let apart : (s.link == l) ≡ false = grind (arith, nat_tests, own, ne) in
          ap (λ (k : Slot). meaning_at waits k l) (set_here slots at l s (sym same) within)
          ∙ not_own waits s l apart
          ∙ ap (λ (k : ℕ). shut_at waits (nat_lt l k)) own
          ∙ sym (shut_means waits o l (nat_lt l link) shut (numbers_before o o.given link l refl number (same ∙ sym home)))
          ∙ ap (λ (k : Slot). meaning_at waits k l) (is ∙ ap (λ (k : ℕ). get_or slots k no_slot) (sym same))
      | inr far ↦ ap (λ (k : Slot). meaning_at waits k l) (set_other slots at l s far)
    ]

-- an open link's place is within the table
pub open_within : (slots : List Slot) (link : ℕ) → (slot_at slots link).is_open ≡ true → link % 16384 < length slots
open_within slots link is_open = elim (cases_lt (link % 16384) (length slots)) [
  | inl within ↦ within
  | inr past ↦ let none : slot_at slots link ≡ no_slot = get_or_past slots (link % 16384) no_slot past in absurd (false≢true (ap (λ (k : Slot). k.is_open) (sym none) ∙ is_open))
]

wait_within : (slots : List Slot) (waits link : ℕ) → All (λ (s : Slot). s.asked.wait ≤ waits) slots → (slot_at slots link).asked.wait ≤ waits
wait_within slots waits link all = elim (cases_lt (link % 16384) (length slots)) [
  | inl within ↦ All-get_or (λ (s : Slot). s.asked.wait ≤ waits) slots (link % 16384) no_slot within all
  | inr past ↦ let none : slot_at slots link ≡ no_slot = get_or_past slots (link % 16384) no_slot past in rw none (omega arith)
]

-- each link after a wait
pub began_all : (slots : List Slot) (waits link : ℕ) → All (λ (s : Slot). s.asked.wait ≤ waits) slots → meaning (record { slots = slots; waits = waits + 1 }) link ≡ began (waits + 1) (meaning (record { slots = slots; waits = waits }) link)
began_all slots waits link all = choose (open_at (slot_at slots link) link) (asked_next waits (slot_at slots link).asked (wait_within slots waits link all))
  where
    choose : (b : Bool) → asked_at (waits + 1) (slot_at slots link).asked ≡ (began (waits + 1) (record { come = true; is_open = true; faults = 0; asked = asked_at waits (slot_at slots link).asked })).asked →
        ◌≡◌ {A = Meaning} (record { come = come_at (slot_at slots link) link; is_open = b; faults = cond b (slot_at slots link).faults (cond (come_at (slot_at slots link) link) (2 ^ 64 - 1) 0); asked = cond b (asked_at (waits + 1) (slot_at slots link).asked) (untouched (waits + 1)) })
        (began (waits + 1) (record { come = come_at (slot_at slots link) link; is_open = b; faults = cond b (slot_at slots link).faults (cond (come_at (slot_at slots link) link) (2 ^ 64 - 1) 0); asked = cond b (asked_at waits (slot_at slots link).asked) (untouched waits) }))
    choose true e = ap (λ (a : Asked). mean (come_at (slot_at slots link) link) (true) ((slot_at slots link).faults) (a)) e
    choose false e = refl

asked_wait : (waits : ℕ) (a : Asked) → (asked_at waits a).wait ≡ waits
asked_wait waits a = elim (cases_eq a.wait waits) [
  | inl same ↦ let z : (a.wait == waits) ≡ true = grind (arith, nat_tests, same) in rw z same
  | inr ne ↦ let z : (a.wait == waits) ≡ false = grind (arith, nat_tests, ne) in rw z (last (a.wait + 1 == waits))
]
  where
    last : (b : Bool) → (cond b (record { wait = waits; reads = 0; read_quiet = false; write_quiet = false; read_was_quiet = a.read_quiet; write_was_quiet = a.write_quiet }) (untouched waits)).wait ≡ waits
    last true = refl
    last false = refl

asked_again : (waits : ℕ) (a : Asked) → a.wait ≡ waits → asked_at waits a ≡ a
asked_again waits a same = let z : (a.wait == waits) ≡ true = grind (arith, nat_tests, same) in rw z refl

pub read_means : (waits link : ℕ) (o : Slot) (answer : LinkRead) → o.is_open ≡ true → o.given ≡ true → o.link ≡ link →
    meaning_at waits (slot_read waits o answer) link ≡ read_meaning (meaning_at waits o link) answer
read_means waits link o answer is_open given own =
    let e : (o.link == link) ≡ true = grind (arith, nat_tests, own) in
    let again : asked_at waits (after_read (asked_at waits o.asked) answer) ≡ after_read (asked_at waits o.asked) answer = asked_again waits (after_read (asked_at waits o.asked) answer) (asked_wait waits o.asked) in
    rw is_open (rw e (rw given (ap (λ (a : Asked). mean (nat_lt link o.link || true) (true) (faults_after o.faults (read_failed answer)) (a)) again)))

pub write_means : (waits link : ℕ) (o : Slot) (answer : LinkWrite) → o.is_open ≡ true → o.given ≡ true → o.link ≡ link →
    meaning_at waits (slot_written waits o answer) link ≡ write_meaning (meaning_at waits o link) answer
write_means waits link o answer is_open given own =
    let e : (o.link == link) ≡ true = grind (arith, nat_tests, own) in
    let again : asked_at waits (after_write (asked_at waits o.asked) answer) ≡ after_write (asked_at waits o.asked) answer = asked_again waits (after_write (asked_at waits o.asked) answer) (asked_wait waits o.asked) in
    rw is_open (rw e (rw given (ap (λ (a : Asked). mean (nat_lt link o.link || true) (true) (faults_after o.faults (write_failed answer)) (a)) again)))

-- an open link that is given may be closed
pub shut_own : (waits link : ℕ) (o : Slot) → o.given ≡ true → o.link ≡ link → meaning_at waits (record o { is_open = false }) link ≡ shut_meaning waits
shut_own waits link o given own =
    let a : (o.link == link) ≡ true = grind (arith, nat_tests, own) in
    rw a (rw given (came (nat_lt link o.link)))
  where
    came : (b : Bool) → ◌≡◌ {A = Meaning} (record { come = b || true; is_open = false; faults = cond (b || true) (2 ^ 64 - 1) 0; asked = untouched waits }) (shut_meaning waits)
    came true = refl
    came false = refl

both : (a b : Bool) → (a && b) ≡ true → (a ≡ true) × (b ≡ true)
both true b is = (refl, is)
both false b is = absurd (false≢true is)

pub at_within : (slots : List Slot) (waits at link : ℕ) → (meaning (table_of waits slots) link).is_open ≡ true → at ≡ link % 16384 → at < length slots
at_within slots waits at link is_open is = let within = open_within slots link (both (slot_at slots link).is_open ((slot_at slots link).given && ((slot_at slots link).link == link)) is_open).0 in omega (arith, within, is)

-- what stands at the place of an open link is the link's
pub open_here : (slots : List Slot) (waits at link : ℕ) (o : Slot) → (meaning (table_of waits slots) link).is_open ≡ true → at ≡ link % 16384 → o ≡ get_or slots at o → IsOpenAt (table_of waits slots) link o
open_here slots waits at link o is_open is read = record {
  slot = here;
  is_open = ap (λ (k : Slot). k.is_open) here ∙ (both (slot_at slots link).is_open ((slot_at slots link).given && ((slot_at slots link).link == link)) is_open).0;
  given = ap (λ (k : Slot). k.given) here ∙ parts.0;
  own = ap (λ (k : Slot). k.link) here ∙ (let same = parts.1 in grind (arith, nat_tests, same));
}
  where
    here : o ≡ slot_at slots link
    here = read ∙ get_or_default slots at o no_slot (at_within slots waits at link is_open is) ∙ ap (λ (k : ℕ). get_or slots k no_slot) is

    parts : ((slot_at slots link).given ≡ true) × (((slot_at slots link).link == link) ≡ true)
    parts = both (slot_at slots link).given ((slot_at slots link).link == link) (both (slot_at slots link).is_open ((slot_at slots link).given && ((slot_at slots link).link == link)) is_open).1

-- it is otherwise now
pub put_here : (slots : List Slot) (waits at link : ℕ) (o s : Slot) (m : Meaning) → IsOpenAt (table_of waits slots) link o → at ≡ link % 16384 → at < length slots → s.link ≡ link → meaning_at waits s link ≡ m →
    Put (table_of waits slots) link m (table_of waits (slice_set slots at s))
put_here slots waits at link o s m h is within own means = put_own slots waits at link s m is within own (ap (λ (k : Slot). k.link) (sym h.slot) ∙ h.own) means

pub read_put : (slots : List Slot) (waits at link : ℕ) (o s : Slot) (answer : LinkRead) → IsOpenAt (table_of waits slots) link o → at ≡ link % 16384 → at < length slots → s ≡ slot_read waits o answer →
    Put (table_of waits slots) link (read_meaning (meaning (table_of waits slots) link) answer) (table_of waits (slice_set slots at s))
read_put slots waits at link o s answer h is within did =
    put_here slots waits at link o s (read_meaning (meaning (table_of waits slots) link) answer) h is within (ap (λ (k : Slot). k.link) did ∙ h.own)
    (ap (λ (k : Slot). meaning_at waits k link) did
    ∙ read_means waits link o answer h.is_open h.given h.own
    ∙ ap (λ (k : Slot). read_meaning (meaning_at waits k link) answer) h.slot)

pub write_put : (slots : List Slot) (waits at link : ℕ) (o s : Slot) (answer : LinkWrite) → IsOpenAt (table_of waits slots) link o → at ≡ link % 16384 → at < length slots → s ≡ slot_written waits o answer →
    Put (table_of waits slots) link (write_meaning (meaning (table_of waits slots) link) answer) (table_of waits (slice_set slots at s))
write_put slots waits at link o s answer h is within did =
    put_here slots waits at link o s (write_meaning (meaning (table_of waits slots) link) answer) h is within (ap (λ (k : Slot). k.link) did ∙ h.own)
    (ap (λ (k : Slot). meaning_at waits k link) did
    ∙ write_means waits link o answer h.is_open h.given h.own
    ∙ ap (λ (k : Slot). write_meaning (meaning_at waits k link) answer) h.slot)

pub close_put : (slots : List Slot) (waits at link : ℕ) (o : Slot) → IsOpenAt (table_of waits slots) link o → at ≡ link % 16384 → at < length slots →
    Put (table_of waits slots) link (shut_meaning waits) (table_of waits (slice_set slots at (record o { is_open = false })))
close_put slots waits at link o h is within =
    put_here slots waits at link o (record o { is_open = false }) (shut_meaning waits) h is within h.own (shut_own waits link o h.given h.own)

-- how often the link was read is told by its place
pub reads_here : (slots : List Slot) (waits at link : ℕ) (o s : Slot) (answer : LinkRead) → IsOpenAt (table_of waits slots) link o → at ≡ link % 16384 → at < length slots → s ≡ slot_read waits o answer →
    s.asked.reads ≡ (meaning (table_of waits (slice_set slots at s)) link).asked.reads
reads_here slots waits at link o s answer h is within did =
    let is_open : s.is_open ≡ true = ap (λ (k : Slot). k.is_open) did ∙ h.is_open in
    let given : s.given ≡ true = ap (λ (k : Slot). k.given) did ∙ h.given in
    let own : s.link ≡ link = ap (λ (k : Slot). k.link) did ∙ h.own in
    let same : (s.link == link) ≡ true = grind (arith, nat_tests, own) in
    let wait : s.asked.wait ≡ waits = ap (λ (k : Slot). k.asked.wait) did ∙ asked_wait waits o.asked in
    let told : (meaning_at waits s link).asked ≡ s.asked = rw is_open (rw given (rw same (asked_again waits s.asked wait))) in
    sym (ap (λ (k : Slot). (meaning_at waits k link).asked.reads) (set_here slots at link s is within) ∙ ap (λ (a : Asked). a.reads) told)

pub read_within : (waits : ℕ) (o s : Slot) (answer : LinkRead) → s ≡ slot_read waits o answer → s.asked.wait ≤ waits
read_within waits o s answer did = let e = ap (λ (k : Slot). k.asked.wait) did ∙ asked_wait waits o.asked in omega (arith, e)

pub write_within : (waits : ℕ) (o s : Slot) (answer : LinkWrite) → s ≡ slot_written waits o answer → s.asked.wait ≤ waits
write_within waits o s answer did = let e = ap (λ (k : Slot). k.asked.wait) did ∙ asked_wait waits o.asked in omega (arith, e)

pub close_within : (slots : List Slot) (waits link : ℕ) (o : Slot) → IsOpenAt (table_of waits slots) link o → AreWithin waits slots → o.asked.wait ≤ waits
close_within slots waits link o h all = let e = ap (λ (k : Slot). k.asked.wait) h.slot in let w = wait_within slots waits link all in omega (arith, e, w)

or_true : (b : Bool) → (b || true) ≡ true
or_true true = refl
or_true false = refl

pub open_means : (waits link : ℕ) (o : Slot) → o.is_open ≡ true → o.given ≡ true → o.link ≡ link → o.faults < 2 ^ 64 → IsOpenMeaning (meaning_at waits o link)
open_means waits link o is_open given own small =
    let e : (o.link == link) ≡ true = grind (arith, nat_tests, own) in record {
      come = rw e (rw given (or_true (nat_lt link o.link)));
      is_open = rw e (rw given (rw is_open refl));
      small = rw e (rw given (rw is_open small));
    }

pub open_means_at : (slots : List Slot) (waits link : ℕ) (o : Slot) → IsOpenAt (table_of waits slots) link o → o.faults < 2 ^ 64 → IsOpenMeaning (meaning (table_of waits slots) link)
open_means_at slots waits link o h small = subst (λ (k : Slot). IsOpenMeaning (meaning_at waits k link)) h.slot (open_means waits link o h.is_open h.given h.own small)
