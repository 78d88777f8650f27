-- The records that are kept of what was done.
use Rattle.std.proofs.Common.{◌≡◌, ℕ, List, [], ◌∷◌, ◌++◌, map, ◌≤◌, length, take, refl, sym, ap, ◌∙◌, Bool, true, false, subst, inl, inr, arith}
use Rattle.std.specs.List.{flat_map}
use Rattle.std.proofs.lemmas.Bool.{cases_eq, false≢true}
use Rattle.std.proofs.lemmas.Bool.Decides.{nat_tests}
use Rattle.std.proofs.lemmas.List.{map-append, take_all}
use Rattle.link_world.specs.Log.{LinkEvent, is_of, IsFresh, happening, history_of, taken, notes}
use Rattle.link_world.specs.NoteText.{note_line}
use Rattle.memory_world.specs.declared.mark.Mark.{Mark}
use Rattle.memory_world.specs.declared.record.Record.{Record}
use Rattle.memory_world.specs.declared.record.Record.TheVariants as kept
use Rattle.memory_world.specs.Marks.{has}
use Rattle.memory_world.specs.Records.{event_of}
use Rattle.memory_world.specs.Books.{BookView, log_in, is_spare, AreRecords}
use Rattle.memory_world.proofs.Lines.{taken_all, lines_all}

-- a history grew by a record
pub log_more : (log : List Record) (told grown : List (Record × ℕ)) (r : Record) (n : ℕ) → log_in told ≡ log → grown ≡ told ++ (r, n) ∷ [] → log_in grown ≡ log ++ r ∷ []
log_more log told grown r n is e = ap log_in e ∙ map-append (λ (x : Record × ℕ). x.0) told ((r, n) ∷ []) ∙ ap (λ (rs : List Record). rs ++ r ∷ []) is

pub view_more : (old : BookView) (told grown : List (Record × ℕ)) (marks : List Mark) (lost : Bool) (r : Record) (n : ℕ)
    → ◌≡◌ {A = BookView} (record { log = log_in told; marks = marks; lost = lost }) old → grown ≡ told ++ (r, n) ∷ []
    → ◌≡◌ {A = BookView} (record { log = log_in grown; marks = marks; lost = lost }) (record old { log = old.log ++ r ∷ [] })
view_more old told grown marks lost r n is e =
    ap (λ (rs : List Record). make rs) (log_more (log_in told) told grown r n refl e) ∙ ap (λ (v : BookView). more v) is
  where
    make : List Record → BookView
    make rs = record { log = rs; marks = marks; lost = lost }

    more : BookView → BookView
    more v = record v { log = v.log ++ r ∷ [] }

pub none_yet : (marks : List Mark) (told : List (Record × ℕ)) (records : List Record) → told ≡ [] → records ≡ [] → AreRecords marks (log_in told) records
none_yet marks told records e f = subst (λ (es : List (Record × ℕ)). AreRecords marks (log_in es) records) (sym e) f

pub new_view : (told : List (Record × ℕ)) (marks : List Mark) → told ≡ [] → marks ≡ [] → ◌≡◌ {A = BookView} (record { log = log_in told; marks = marks; lost = false }) (record { log = []; marks = []; lost = false })
new_view told marks e f = ap (λ (es : List (Record × ℕ)). make (log_in es) marks) e ∙ ap (λ (ms : List Mark). make [] ms) f
  where
    make : List Record → List Mark → BookView
    make log ms = record { log = log; marks = ms; lost = false }

keep_one : (marks : List Mark) (log records : List Record) (r : Record) → AreRecords marks log records → AreRecords marks (log ++ r ∷ []) (records ++ r ∷ [])
keep_one marks [] records r h = inl ([], ap (λ (rs : List Record). rs ++ r ∷ []) h, refl)
keep_one marks (x ∷ log) records r (inl w) = inl (w.0 ++ r ∷ [], ap (λ (rs : List Record). rs ++ r ∷ []) w.1, keep_one marks log w.0 r w.2)
keep_one marks (x ∷ log) records r (inr w) = inr (w.0, keep_one marks log records r w.1)

leave_one : (marks : List Mark) (log records : List Record) (r : Record) → is_spare marks r ≡ true → AreRecords marks log records → AreRecords marks (log ++ r ∷ []) records
leave_one marks [] records r s h = inr (s, h)
leave_one marks (x ∷ log) records r s (inl w) = inl (w.0, w.1, leave_one marks log w.0 r s w.2)
leave_one marks (x ∷ log) records r s (inr w) = inr (w.0, leave_one marks log records r s w.1)

spare_still : (old new : List Mark) → ((l : ℕ) → has old l ≡ true → has new l ≡ true) → (r : Record) → is_spare old r ≡ true → is_spare new r ≡ true
spare_still old new still (kept.Waited until) s = s
spare_still old new still (kept.WaitFailed until) s = s
spare_still old new still (kept.Clock now) s = s
spare_still old new still (kept.Came link stamp entry peer) s = s
spare_still old new still (kept.Dialled link stamp host port) s = s
spare_still old new still (kept.Gave link stamp bytes) s = s
spare_still old new still (kept.GaveEnd link stamp) s = s
spare_still old new still (kept.Took link stamp bytes) s = s
spare_still old new still (kept.Failed link stamp) s = still link s
spare_still old new still (kept.Noted note stamp) s = s
spare_still old new still (kept.Closed link stamp) s = s
spare_still old new still (kept.Asked answer) s = s

-- more links came
still_records : (old new : List Mark) → ((l : ℕ) → has old l ≡ true → has new l ≡ true) → (log records : List Record) → AreRecords old log records → AreRecords new log records
still_records old new still [] records h = h
still_records old new still (x ∷ log) records (inl w) = inl (w.0, w.1, still_records old new still log w.0 w.2)
still_records old new still (x ∷ log) records (inr w) = inr (spare_still old new still x w.0, still_records old new still log records w.1)

-- after one more record, which was kept
pub keeps : (old new : List Mark) (told grown : List (Record × ℕ)) (records more : List Record) (r : Record) (n : ℕ) (lost : Bool)
    → ((l : ℕ) → has old l ≡ true → has new l ≡ true) → grown ≡ told ++ (r, n) ∷ [] → more ≡ records ++ r ∷ []
    → AreRecords old (log_in told) records → (lost ≡ false → records ≡ log_in told)
    → AreRecords new (log_in grown) more × (lost ≡ false → more ≡ log_in grown)
keeps old new told grown records more r n lost still e f h all = (
  subst (λ (rs : List Record). AreRecords new (log_in grown) rs) (sym f)
      (subst (λ (es : List Record). AreRecords new es (records ++ r ∷ [])) (sym (log_more (log_in told) told grown r n refl e))
      (keep_one new (log_in told) records r (still_records old new still (log_in told) records h))),
  λ not. f ∙ ap (λ (rs : List Record). rs ++ r ∷ []) (all not) ∙ sym (log_more (log_in told) told grown r n refl e),
)

-- after one more record, which was left out
pub loses : (marks : List Mark) (told grown : List (Record × ℕ)) (records same : List Record) (r : Record) (n : ℕ)
    → is_spare marks r ≡ true → grown ≡ told ++ (r, n) ∷ [] → same ≡ records → AreRecords marks (log_in told) records
    → AreRecords marks (log_in grown) same × (true ≡ false → same ≡ log_in grown)
loses marks told grown records same r n s e f h = (
  subst (λ (rs : List Record). AreRecords marks (log_in grown) rs) (sym f)
      (subst (λ (es : List Record). AreRecords marks es records) (sym (log_more (log_in told) told grown r n refl e)) (leave_one marks (log_in told) records r s h)),
  λ not. absurd (false≢true (sym not)),
)

-- other meanings of the same links
pub kept_still : (old new : List Mark) (log records : List Record) → ((l : ℕ) → has new l ≡ has old l) → AreRecords old log records → AreRecords new log records
kept_still old new log records same h = still_records old new (λ l is. same l ∙ is) log records h

spare_fresh : (marks : List Mark) (link : ℕ) (r : Record) → is_spare marks r ≡ true → has marks link ≡ false → is_of link (event_of r) ≡ false
spare_fresh marks link (kept.Waited until) s none = absurd (false≢true s)
spare_fresh marks link (kept.WaitFailed until) s none = refl
spare_fresh marks link (kept.Clock now) s none = absurd (false≢true s)
spare_fresh marks link (kept.Came l stamp entry peer) s none = absurd (false≢true s)
spare_fresh marks link (kept.Dialled l stamp host port) s none = absurd (false≢true s)
spare_fresh marks link (kept.Gave l stamp bytes) s none = absurd (false≢true s)
spare_fresh marks link (kept.GaveEnd l stamp) s none = absurd (false≢true s)
spare_fresh marks link (kept.Took l stamp bytes) s none = absurd (false≢true s)
spare_fresh marks link (kept.Failed l stamp) s none = elim (cases_eq link l) [
  | inl here ↦ absurd (false≢true (sym none ∙ ap (λ (k : ℕ). has marks k) here ∙ s))
  | inr ne ↦ grind (arith, nat_tests, ne)
]
spare_fresh marks link (kept.Noted note stamp) s none = absurd (false≢true s)
spare_fresh marks link (kept.Closed l stamp) s none = absurd (false≢true s)
spare_fresh marks link (kept.Asked answer) s none = refl

-- no record that was left out is of a link that never came
pub fresh_all : (marks : List Mark) (link : ℕ) (log records : List Record) → AreRecords marks log records → has marks link ≡ false → IsFresh link (map event_of records) → IsFresh link (map event_of log)
fresh_all marks link [] records h none fresh = tt
fresh_all marks link (r ∷ log) records (inl w) none fresh =
    let here : IsFresh link (map event_of (r ∷ w.0)) = subst (λ (rs : List Record). IsFresh link (map event_of rs)) w.1 fresh in
    (here.0, fresh_all marks link log w.0 w.2 none here.1)
fresh_all marks link (r ∷ log) records (inr w) none fresh = (spare_fresh marks link r w.0 none, fresh_all marks link log records w.1 none fresh)

spare_quiet : (marks : List Mark) (link : ℕ) (r : Record) → is_spare marks r ≡ true → happening link (event_of r) ≡ []
spare_quiet marks link (kept.Waited until) s = absurd (false≢true s)
spare_quiet marks link (kept.WaitFailed until) s = refl
spare_quiet marks link (kept.Clock now) s = absurd (false≢true s)
spare_quiet marks link (kept.Came l stamp entry peer) s = absurd (false≢true s)
spare_quiet marks link (kept.Dialled l stamp host port) s = absurd (false≢true s)
spare_quiet marks link (kept.Gave l stamp bytes) s = absurd (false≢true s)
spare_quiet marks link (kept.GaveEnd l stamp) s = absurd (false≢true s)
spare_quiet marks link (kept.Took l stamp bytes) s = absurd (false≢true s)
spare_quiet marks link (kept.Failed l stamp) s = refl
spare_quiet marks link (kept.Noted note stamp) s = absurd (false≢true s)
spare_quiet marks link (kept.Closed l stamp) s = absurd (false≢true s)
spare_quiet marks link (kept.Asked answer) s = refl

-- what no spare record adds to is the same of the records and of all that was done
told_same : (f : Record → List ℕ) (marks : List Mark) → ((r : Record) → is_spare marks r ≡ true → f r ≡ []) → (log records : List Record) → AreRecords marks log records → flat_map f records ≡ flat_map f log
told_same f marks none [] records h = ap (flat_map f) h
told_same f marks none (r ∷ log) records (inl w) = ap (flat_map f) w.1 ∙ ap (λ (xs : List ℕ). f r ++ xs) (told_same f marks none log w.0 w.2)
told_same f marks none (r ∷ log) records (inr w) = told_same f marks none log records w.1 ∙ sym (ap (λ (xs : List ℕ). xs ++ flat_map f log) (none r w.0))

pub taken_end : (link : ℕ) (marks : List Mark) (log records : List Record) (i : ℕ) (bytes : List ℕ) → AreRecords marks log records → length records ≤ i
    → bytes ≡ flat_map (λ (r : Record). taken (happening link (event_of r))) (take i records) → bytes ≡ taken (history_of link (map event_of log))
taken_end link marks log records i bytes h past is =
    is ∙ ap (λ (rs : List Record). flat_map (λ (r : Record). taken (happening link (event_of r))) rs) (take_all i records past)
    ∙ told_same (λ (r : Record). taken (happening link (event_of r))) marks (λ r s. ap (λ (es : List LinkEvent). taken es) (spare_quiet marks link r s)) log records h
    ∙ taken_all link log

pub lines_end : (link : ℕ) (marks : List Mark) (log records : List Record) (i : ℕ) (text : List ℕ) → AreRecords marks log records → length records ≤ i
    → text ≡ flat_map (λ (r : Record). flat_map note_line (notes (happening link (event_of r)))) (take i records) → text ≡ flat_map note_line (notes (history_of link (map event_of log)))
lines_end link marks log records i text h past is =
    is ∙ ap (λ (rs : List Record). flat_map (λ (r : Record). flat_map note_line (notes (happening link (event_of r)))) rs) (take_all i records past)
    ∙ told_same (λ (r : Record). flat_map note_line (notes (happening link (event_of r)))) marks (λ r s. ap (λ (es : List LinkEvent). flat_map note_line (notes es)) (spare_quiet marks link r s)) log records h
    ∙ lines_all link log
