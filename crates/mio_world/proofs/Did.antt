-- What a change of one link means.
use Rattle.std.proofs.Common.{◌≡◌, ℕ, ◌+◌, ◌<◌, ◌^◌, ◌-◌, List, length, refl, sym, ap, ◌∙◌, Bool, true, false, None, inl, inr, arith}
use Rattle.std.proofs.Math.Path.{fun_ext}
use Rattle.std.proofs.lemmas.Bool.{cases_eq, false≢true}
use Rattle.px_base.specs.Bytes.{one_more}
use Rattle.link_world.specs.declared.world.LinkRead.{LinkRead}
use Rattle.link_world.specs.declared.world.LinkRead.TheVariants as read
use Rattle.link_world.specs.declared.world.LinkWrite.{LinkWrite}
use Rattle.link_world.specs.declared.world.LinkWrite.TheVariants as write
use Rattle.link_world.specs.Log.{LinkEvent, waited}
use Rattle.link_world.specs.Seen.{Seen, with_event, Came, Faulted, ReadDid, WriteDid, CloseDid}
use Rattle.link_world.specs.Lately.{Lately, ReadLately, WriteLately, OnlyAt, SameAt, IsUntouched, Began}
use Rattle.mio_world.specs.declared.slot.Asked.{Asked}
use Rattle.mio_world.specs.Slots.{TableView, Meaning, meaning, Put, never_come, new_meaning, shut_meaning, seen_of, lately_of}
use Rattle.mio_world.specs.Tables.{read_meaning, write_meaning, began}
use Rattle.mio_world.specs.Fits.{FitsRead, FitsWrite}

-- a property that a change of one link keeps is kept for all
kept : {A : Type 0} (f : Meaning → A) (old new : TableView) (link : ℕ) (m : Meaning) → Put old link m new → f m ≡ f (meaning old link) → ◌≡◌ {A = ℕ → A} (λ l. f (meaning new l)) (λ l. f (meaning old l))
kept f old new link m put same = fun_ext (λ l. elim (cases_eq l link) [
  | inl here ↦ ap (λ (k : ℕ). f (meaning new k)) here ∙ ap f put.here ∙ same ∙ ap (λ (k : ℕ). f (meaning old k)) (sym here)
  | inr ne ↦ ap f (put.others l ne)
])

abbrev seen : ℕ → ℕ → ℕ → ℕ → (ℕ → ℕ) → (ℕ → Bool) → (ℕ → Bool) → Seen
seen now waits failed stops faults come is_open = record { now = now; waits = waits; waits_failed = failed; stops = stops; faults = faults; come = come; is_open = is_open; log = None }

remade : (now failed stops waits : ℕ) (table : TableView) (faults : ℕ → ℕ) (come is_open : ℕ → Bool) → table.waits ≡ waits →
    ◌≡◌ {A = ℕ → ℕ} (λ l. (meaning table l).faults) faults → ◌≡◌ {A = ℕ → Bool} (λ l. (meaning table l).come) come → ◌≡◌ {A = ℕ → Bool} (λ l. (meaning table l).is_open) is_open →
    seen_of now failed stops table ≡ seen now waits failed stops faults come is_open
remade now failed stops waits table faults come is_open w a b c =
    ap (λ (n : ℕ). seen now n failed stops (λ l. (meaning table l).faults) (λ l. (meaning table l).come) (λ l. (meaning table l).is_open)) w
    ∙ ap (λ (f : ℕ → ℕ). seen now waits failed stops f (λ l. (meaning table l).come) (λ l. (meaning table l).is_open)) a
    ∙ ap (λ (f : ℕ → Bool). seen now waits failed stops faults f (λ l. (meaning table l).is_open)) b
    ∙ ap (λ (f : ℕ → Bool). seen now waits failed stops faults come f) c

module _ (now failed stops : ℕ) (old new : TableView) (link : ℕ) where
  same_seen : (m : Meaning) → Put old link m new → m.faults ≡ (meaning old link).faults → m.come ≡ (meaning old link).come → m.is_open ≡ (meaning old link).is_open → seen_of now failed stops new ≡ seen_of now failed stops old
  same_seen m put faults come is_open = remade now failed stops old.waits new _ _ _ put.waits
      (kept (λ (k : Meaning). k.faults) old new link m put faults) (kept (λ (k : Meaning). k.come) old new link m put come) (kept (λ (k : Meaning). k.is_open) old new link m put is_open)

  faulted : (m : Meaning) → Put old link m new → m.faults ≡ one_more (meaning old link).faults → m.come ≡ (meaning old link).come → m.is_open ≡ (meaning old link).is_open → (meaning old link).faults < 2 ^ 64 → Faulted (seen_of now failed stops old) link (seen_of now failed stops new)
  faulted m put faults come is_open fits = record {
    same = remade now failed stops old.waits new _ _ _ put.waits refl (kept (λ (k : Meaning). k.come) old new link m put come) (kept (λ (k : Meaning). k.is_open) old new link m put is_open);
    rose = let e = ap (λ (k : Meaning). k.faults) put.here ∙ faults in (omega (arith, e, fits), omega (arith, e));
    others = λ l ne. ap (λ (k : Meaning). k.faults) (put.others l ne);
  }

  pub read_did : (answer : LinkRead) (room : List ℕ) → Put old link (read_meaning (meaning old link) answer) new → FitsRead answer (length room) → (meaning old link).faults < 2 ^ 64 → ReadDid (seen_of now failed stops old) link answer room (seen_of now failed stops new)
  read_did (read.Got n) room put fits small = (fits.0, fits.1, same_seen (read_meaning (meaning old link) (read.Got n)) put refl refl refl)
  read_did read.NotYet room put fits small = same_seen (read_meaning (meaning old link) read.NotYet) put refl refl refl
  read_did read.End room put fits small = same_seen (read_meaning (meaning old link) read.End) put refl refl refl
  read_did read.Failed room put fits small = faulted (read_meaning (meaning old link) read.Failed) put refl refl refl small

  pub write_did : (answer : LinkWrite) (piece : List ℕ) → Put old link (write_meaning (meaning old link) answer) new → FitsWrite answer (length piece) → (meaning old link).faults < 2 ^ 64 → WriteDid (seen_of now failed stops old) link piece answer (seen_of now failed stops new)
  write_did (write.Took n) piece put fits small = (fits.0, fits.1, same_seen (write_meaning (meaning old link) (write.Took n)) put refl refl refl)
  write_did write.NotYet piece put fits small = same_seen (write_meaning (meaning old link) write.NotYet) put refl refl refl
  write_did write.Failed piece put fits small = faulted (write_meaning (meaning old link) write.Failed) put refl refl refl small

  same_at : (clocked no_more : Bool) (l : ℕ) → meaning new l ≡ meaning old l → SameAt l (lately_of clocked no_more old) (lately_of clocked no_more new)
  same_at clocked no_more l e = record { reads = ap (λ (k : Meaning). k.asked.reads) e; read_quiet = ap (λ (k : Meaning). k.asked.read_quiet) e; write_quiet = ap (λ (k : Meaning). k.asked.write_quiet) e; read_was_quiet = ap (λ (k : Meaning). k.asked.read_was_quiet) e; write_was_quiet = ap (λ (k : Meaning). k.asked.write_was_quiet) e }

  pub only_at : (clocked no_more : Bool) (m : Meaning) → Put old link m new → OnlyAt link (lately_of clocked no_more old) (lately_of clocked no_more new)
  only_at clocked no_more m put = record { clocked = refl; no_more = refl; others = λ l ne. same_at clocked no_more l (put.others l ne) }

  pub read_lately : (clocked no_more : Bool) (answer : LinkRead) → Put old link (read_meaning (meaning old link) answer) new → ReadLately (lately_of clocked no_more old) link answer (lately_of clocked no_more new)
  read_lately clocked no_more answer put = record {
    only = only_at clocked no_more (read_meaning (meaning old link) answer) put;
    reads = ap (λ (k : Meaning). k.asked.reads) put.here;
    read_quiet = ap (λ (k : Meaning). k.asked.read_quiet) put.here;
    write_quiet = ap (λ (k : Meaning). k.asked.write_quiet) put.here;
    read_was_quiet = ap (λ (k : Meaning). k.asked.read_was_quiet) put.here;
    write_was_quiet = ap (λ (k : Meaning). k.asked.write_was_quiet) put.here;
  }

  pub write_lately : (clocked no_more : Bool) (answer : LinkWrite) → Put old link (write_meaning (meaning old link) answer) new → WriteLately (lately_of clocked no_more old) link answer (lately_of clocked no_more new)
  write_lately clocked no_more answer put = record {
    only = only_at clocked no_more (write_meaning (meaning old link) answer) put;
    reads = ap (λ (k : Meaning). k.asked.reads) put.here;
    read_quiet = ap (λ (k : Meaning). k.asked.read_quiet) put.here;
    write_quiet = ap (λ (k : Meaning). k.asked.write_quiet) put.here;
    read_was_quiet = ap (λ (k : Meaning). k.asked.read_was_quiet) put.here;
    write_was_quiet = ap (λ (k : Meaning). k.asked.write_was_quiet) put.here;
  }

  pub close_did : (meaning old link).is_open ≡ true → (meaning old link).come ≡ true → (meaning old link).faults < 2 ^ 64 → Put old link (shut_meaning old.waits) new → CloseDid (seen_of now failed stops old) link (seen_of now failed stops new)
  close_did is_open come fits put = (
    λ _. record {
      same = remade now failed stops old.waits new _ _ _ put.waits refl (kept (λ (k : Meaning). k.come) old new link (shut_meaning old.waits) put (sym come)) refl;
      not_open = ap (λ (k : Meaning). k.is_open) put.here;
      others_open = λ l ne. ap (λ (k : Meaning). k.is_open) (put.others l ne);
      later = let e = ap (λ (k : Meaning). k.faults) put.here in omega (arith, e, fits);
      kept = tt;
      others = λ l ne. ap (λ (k : Meaning). k.faults) (put.others l ne);
    },
    λ shut. absurd (false≢true (sym shut ∙ is_open)),
  )

  pub came_did : (e : LinkEvent) → meaning old link ≡ never_come old.waits → Put old link (new_meaning old.waits) new → Came (seen_of now failed stops old) link e (seen_of now failed stops new)
  came_did e never put = record {
    same = remade now failed stops old.waits new _ _ _ put.waits (kept (λ (k : Meaning). k.faults) old new link (new_meaning old.waits) put (ap (λ (k : Meaning). k.faults) (sym never))) refl refl;
    fresh = tt;
    unfailed = ap (λ (k : Meaning). k.faults) never;
    not_come = ap (λ (k : Meaning). k.come) never;
    not_open = ap (λ (k : Meaning). k.is_open) never;
    come = ap (λ (k : Meaning). k.come) put.here;
    is_open = ap (λ (k : Meaning). k.is_open) put.here;
    others_come = λ l ne. ap (λ (k : Meaning). k.come) (put.others l ne);
    others_open = λ l ne. ap (λ (k : Meaning). k.is_open) (put.others l ne);
  }

  abbrev lately : Bool → Bool → (ℕ → Asked) → Lately
  lately clocked no_more asked = record { clocked = clocked; no_more = no_more; reads = λ l. (asked l).reads; read_quiet = λ l. (asked l).read_quiet; write_quiet = λ l. (asked l).write_quiet; read_was_quiet = λ l. (asked l).read_was_quiet; write_was_quiet = λ l. (asked l).write_was_quiet }

  pub came_lately : (clocked no_more : Bool) → meaning old link ≡ never_come old.waits → Put old link (new_meaning old.waits) new → (lately_of clocked no_more new ≡ lately_of clocked no_more old) × IsUntouched (lately_of clocked no_more new) link
  came_lately clocked no_more never put = (
    ap (λ (f : ℕ → Asked). lately clocked no_more f) (kept (λ (k : Meaning). k.asked) old new link (new_meaning old.waits) put (ap (λ (k : Meaning). k.asked) (sym never))),
    record { reads = ap (λ (k : Meaning). k.asked.reads) put.here; read_quiet = ap (λ (k : Meaning). k.asked.read_quiet) put.here; write_quiet = ap (λ (k : Meaning). k.asked.write_quiet) put.here; read_was_quiet = ap (λ (k : Meaning). k.asked.read_was_quiet) put.here; write_was_quiet = ap (λ (k : Meaning). k.asked.write_was_quiet) put.here },
  )

-- a wait that was made
pub waited_did : (now failed stops until : ℕ) (old new : TableView) → old.waits < 2 ^ 64 - 1 → new.waits ≡ old.waits + 1 → ((l : ℕ) → meaning new l ≡ began (old.waits + 1) (meaning old l)) → seen_of now failed stops new ≡ record (with_event (seen_of now failed stops old) (waited until)) { waits = one_more old.waits }
waited_did now failed stops until old new fits waits all = remade now failed stops (one_more old.waits) new _ _ _ (omega (arith, waits, fits))
    (fun_ext (λ l. ap (λ (k : Meaning). k.faults) (all l))) (fun_ext (λ l. ap (λ (k : Meaning). k.come) (all l))) (fun_ext (λ l. ap (λ (k : Meaning). k.is_open) (all l)))

pub waited_lately : (a b c d : Bool) (old new : TableView) (waits : ℕ) (l : ℕ) → meaning new l ≡ began waits (meaning old l) → Began (lately_of a b old) l (lately_of c d new)
waited_lately a b c d old new waits l e = record {
  reads = ap (λ (k : Meaning). k.asked.reads) e;
  read_quiet = ap (λ (k : Meaning). k.asked.read_quiet) e;
  write_quiet = ap (λ (k : Meaning). k.asked.write_quiet) e;
  read_was_quiet = ap (λ (k : Meaning). k.asked.read_was_quiet) e;
  write_was_quiet = ap (λ (k : Meaning). k.asked.write_was_quiet) e;
}

pub close_nothing : (now failed stops : ℕ) (table : TableView) (link : ℕ) → (meaning table link).is_open ≡ false → CloseDid (seen_of now failed stops table) link (seen_of now failed stops table)
close_nothing now failed stops table link shut = (λ is_open. absurd (false≢true (sym shut ∙ is_open)), λ _. refl)
