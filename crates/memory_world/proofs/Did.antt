-- What a change of one link means.
use Rattle.std.proofs.Common.{◌≡◌, ℕ, List, [], ◌∷◌, ◌++◌, map, refl, sym, ap, ◌∙◌, Bool, true, false, Option, Some, subst}
use Rattle.std.proofs.Math.Path.{fun_ext}
use Rattle.std.proofs.lemmas.Bool.{false≢true}
use Rattle.px_base.specs.Bytes.{one_more}
use Rattle.link_world.specs.Log.{Event, waited}
use Rattle.link_world.specs.Seen.{Seen, with_event, CloseDid}
use Rattle.link_world.specs.Lately.{Began}
use Rattle.memory_world.specs.declared.mark.Mark.{Mark}
use Rattle.memory_world.specs.declared.record.Record.{Record}
use Rattle.memory_world.specs.Marks.{has, mark_of, after_wait, lately_of}
use Rattle.memory_world.specs.Records.{event_of}
use Rattle.memory_world.specs.Told.{seen_of}
use Rattle.memory_world.proofs.Fresh.{told_more}
use Rattle.memory_world.proofs.MarkLemmas.{mark_wait, has_wait, absent_blank}

-- another log, another list of links with the same meanings
remade : (now waits failed stops : ℕ) (marks : List Mark) (records : List Record) (faults : ℕ → ℕ) (come is_open : ℕ → Bool) (log : Option (List Event)) →
    ◌≡◌ {A = ℕ → ℕ} (λ l. (mark_of marks l).faults) faults → ◌≡◌ {A = ℕ → Bool} (λ l. has marks l) come → ◌≡◌ {A = ℕ → Bool} (λ l. (mark_of marks l).is_open) is_open → Some (map event_of records) ≡ log →
    seen_of now waits failed stops marks records ≡ record { now = now; waits = waits; waits_failed = failed; stops = stops; faults = faults; come = come; is_open = is_open; log = log }
remade now waits failed stops marks records faults come is_open log a b c d =
    ap (λ (f : ℕ → ℕ). seen f (λ l. has marks l) (λ l. (mark_of marks l).is_open) (Some (map event_of records))) a
    ∙ ap (λ (f : ℕ → Bool). seen faults f (λ l. (mark_of marks l).is_open) (Some (map event_of records))) b
    ∙ ap (λ (f : ℕ → Bool). seen faults come f (Some (map event_of records))) c
    ∙ ap (λ (f : Option (List Event)). seen faults come is_open f) d
  where
    seen : (ℕ → ℕ) → (ℕ → Bool) → (ℕ → Bool) → Option (List Event) → Seen
    seen f g h log = record { now = now; waits = waits; waits_failed = failed; stops = stops; faults = f; come = g; is_open = h; log = log }

more : (old new : List Record) (r : Record) → new ≡ old ++ r ∷ [] → Some (map event_of new) ≡ Some (map event_of old ++ event_of r ∷ [])
more old new r grew = ap (λ (rs : List Record). Some (map event_of rs)) grew ∙ ap (λ (es : List Event). Some es) (told_more old r)

-- what a wait begins anew
pub began_all : (a b c d : Bool) (old : List Mark) (link : ℕ) → Began (lately_of a b old) link (lately_of c d (map after_wait old))
began_all a b c d old link = let e = mark_wait old link in record {
  reads = ap (λ (k : Mark). k.reads) e;
  read_quiet = ap (λ (k : Mark). k.read_quiet) e;
  write_quiet = ap (λ (k : Mark). k.write_quiet) e;
  read_was_quiet = ap (λ (k : Mark). k.read_was_quiet) e;
  write_was_quiet = ap (λ (k : Mark). k.write_was_quiet) e;
}

-- a wait that was made
pub seen_waited : (now waits failed stops until : ℕ) (old new : List Mark) (records told : List Record) (r : Record) → event_of r ≡ waited until → new ≡ map after_wait old → told ≡ records ++ r ∷ [] →
    seen_of now (one_more waits) failed stops new told ≡ record (with_event (seen_of now waits failed stops old records) (waited until)) { waits = one_more waits }
seen_waited now waits failed stops until old new records told r is shifted grew =
    subst (λ (ms : List Mark). seen_of now (one_more waits) failed stops ms told ≡ record (with_event (seen_of now waits failed stops old records) (waited until)) { waits = one_more waits }) (sym shifted)
    (remade now (one_more waits) failed stops (map after_wait old) told _ _ _ _
    (fun_ext (λ l. ap (λ (k : Mark). k.faults) (mark_wait old l))) (fun_ext (λ l. has_wait old l)) (fun_ext (λ l. ap (λ (k : Mark). k.is_open) (mark_wait old l)))
    (more records told r grew ∙ ap (λ (e : Event). Some (map event_of records ++ e ∷ [])) is))

pub open_has : (marks : List Mark) (link : ℕ) → has marks link ≡ false → (mark_of marks link).is_open ≡ true → ⊥
open_has marks link none is_open = let shut : (mark_of marks link).is_open ≡ false = ap (λ (k : Mark). k.is_open) (absent_blank marks link none) in absurd (false≢true (sym shut ∙ is_open))

-- closing what isn't open does nothing
pub close_nothing : (s : Seen) (link : ℕ) → s.is_open link ≡ false → CloseDid s link s
close_nothing s link shut = (λ is_open. absurd (false≢true (sym shut ∙ is_open)), λ _. refl)

pub close_absent : (now waits failed stops : ℕ) (marks : List Mark) (records : List Record) (link : ℕ) → has marks link ≡ false → CloseDid (seen_of now waits failed stops marks records) link (seen_of now waits failed stops marks records)
close_absent now waits failed stops marks records link none = close_nothing (seen_of now waits failed stops marks records) link (ap (λ (k : Mark). k.is_open) (absent_blank marks link none))
