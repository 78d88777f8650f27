-- Which links a connection leaves open.
use Rattle.std.proofs.Common.{◌≡◌, ◌≢◌, ◌⊎◌, ℕ, List, [], Option, Some, None, refl, sym, ◌∙◌, ap, subst, inl, inr, Bool, true, false}
use Rattle.std.specs.Prelude.{Result, Ok, Err, OnOk, OnErr}
use Rattle.std.specs.declared.alloc.AllocError.{AllocError}
use Rattle.link_world.specs.Log.{Event, LinkEvent}
use Rattle.link_world.specs.Seen.{Seen, Faulted, Came, CloseDid, ReadDid, NoteDid}
use Rattle.link_world.specs.declared.world.LinkRead.{LinkRead}
use Rattle.link_world.specs.declared.world.LinkRead.TheVariants as read
use Rattle.link_world.specs.declared.note.Note.{Note}
use Rattle.link_world.specs.Lately.{Lately}
use Rattle.desk.specs.Desks.{Desk}
use Rattle.conn_machine.specs.Reached.{IsOpen, IsEnding, IsFinished, IsTold, Waits}
use Rattle.conn_machine.specs.declared.parts.Client.{Client}
use Rattle.conn_machine.specs.declared.parts.Current.{Current}
use Rattle.conn_machine.specs.declared.parts.Stage.{Stage}
use Rattle.conn_machine.specs.declared.parts.Stage.TheVariants as stage
use Rattle.conn_machine.specs.declared.conn.Conn.{Conn}
use Rattle.conn_service.specs.Moments.{Moment, IsExchanging, Linked, Given, Owns, Uses}
use Rattle.conn_service.specs.Went.{Went, Lost}
use Rattle.conn_service.specs.Released.{Released, IsServer, OnlyCloses, LeavesOpen, LeavesClosed}
use Rattle.conn_service.proofs.Lists.{not_false}
use Rattle.std.proofs.lemmas.Bool.{cases_eq}
use Rattle.conn_service.proofs.Wents.{not_open}

pub closes_same : {s t : Seen} → t ≡ s → OnlyCloses s t
closes_same {s} {t} is = record { come = ap (λ (u : Seen). u.come) is; shut = λ l opened. sym (ap (λ (u : Seen). u.is_open l) is) ∙ opened }

pub closes_then : {s t u : Seen} → OnlyCloses s t → OnlyCloses t u → OnlyCloses s u
closes_then {s} {t} {u} p q = record { come = q.come ∙ p.come; shut = λ l opened. p.shut l (q.shut l opened) }

pub closes_event : {s t : Seen} {log : Option (List Event)} → t ≡ record s { log = log } → OnlyCloses s t
closes_event {s} {t} {log} is = record { come = ap (λ (u : Seen). u.come) is; shut = λ l opened. sym (ap (λ (u : Seen). u.is_open l) is) ∙ opened }

pub closes_fault : {s t : Seen} {link : ℕ} → Faulted s link t → OnlyCloses s t
closes_fault {s} {t} {link} did = record { come = ap (λ (u : Seen). u.come) did.same; shut = λ l opened. sym (ap (λ (u : Seen). u.is_open l) did.same) ∙ opened }

pub closes_read : (s t : Seen) (link : ℕ) (r : LinkRead) (room : List ℕ) → ReadDid s link r room t → OnlyCloses s t
closes_read s t link (read.Got n) room did = closes_event did.2
closes_read s t link read.NotYet room did = closes_same did
closes_read s t link read.End room did = closes_event did
closes_read s t link read.Failed room did = closes_fault did

pub closes_close : (s t : Seen) (link : ℕ) → CloseDid s link t → OnlyCloses s t
closes_close s t link did = by (s.is_open link) refl
  where
    by : (b : Bool) → s.is_open link ≡ b → OnlyCloses s t
    by false is = closes_same (did.1 is)
    by true is = record { come = ap (λ (u : Seen). u.come) (did.0 is).same; shut = λ l opened. shut l opened (s.is_open l) refl }
      where
        -- a link that was closed stays it
        shut : (l : ℕ) → t.is_open l ≡ true → (b : Bool) → s.is_open l ≡ b → s.is_open l ≡ true
        shut l opened true was = was
        shut l opened false was = absurd (not_false opened ((did.0 is).others_open l (λ same. not_false (subst (λ (n : ℕ). s.is_open n ≡ true) (sym same) is) was) ∙ was))

-- a link that was closed isn't open
pub close_shut : (s t : Seen) (link : ℕ) → CloseDid s link t → t.is_open link ≡ false
close_shut s t link did = by (s.is_open link) refl
  where
    by : (b : Bool) → s.is_open link ≡ b → t.is_open link ≡ false
    by true is = (did.0 is).not_open
    by false is = ap (λ (u : Seen). u.is_open link) (did.1 is) ∙ is

pub closes_released : (d : Conn) (s t : Seen) (link : ℕ) → Released d link s t → OnlyCloses s t
closes_released d s t link (inl (ex, same)) = closes_same same
closes_released d s t link (inr (idle, did)) = closes_close s t link did

pub closes_refused : {s t : Seen} {n : ℕ} → t ≡ record s { waits_failed = n } → OnlyCloses s t
closes_refused {s} {t} {n} is = record { come = ap (λ (u : Seen). u.come) is; shut = λ l opened. sym (ap (λ (u : Seen). u.is_open l) is) ∙ opened }

pub shut_still : {s t : Seen} (link : ℕ) → OnlyCloses s t → s.is_open link ≡ false → t.is_open link ≡ false
shut_still {s} {t} link closes was = by (t.is_open link) refl
  where
    by : (b : Bool) → t.is_open link ≡ b → t.is_open link ≡ false
    by true is = absurd (not_false (closes.shut link is) was)
    by false is = is

pub none_given : {s t : Seen} (link : ℕ) → OnlyCloses s t → Given s t link → ⊥
none_given {s} {t} link closes g = not_false g.after (ap (λ (f : ℕ → Bool). f link) closes.come ∙ g.before)

none_new : {s : Seen} (link : ℕ) → Given s s link → ⊥
none_new link g = not_false g.after g.before

pub idle_waits : {at : Stage} {c : Conn} → Waits at c → (at ≡ stage.Exchange → ⊥) → IsExchanging c → ⊥
idle_waits waits other ex = other (sym waits.stage ∙ ex.stage)

-- nothing changed
pub leaves_same : (s : Seen) (c : Conn) (link : ℕ) → Owns s s c link → s.is_open link ≡ true → Uses c link
leaves_same s c link (inl is) opened = inl is
leaves_same s c link (inr (inl server)) opened = inr server
leaves_same s c link (inr (inr g)) opened = absurd (none_new link g)

-- no exchange went on, and no link was given
pub leaves_idle : {s t : Seen} (c d : Conn) → (IsExchanging c → ⊥) → d.client ≡ c.client → OnlyCloses s t → (link : ℕ) → Owns s t c link → t.is_open link ≡ true → Uses d link
leaves_idle c d idle client closes link (inl is) opened = inl (is ∙ ap (λ (k : Client). k.link) (sym client))
leaves_idle c d idle client closes link (inr (inl server)) opened = absurd (idle server.0)
leaves_idle c d idle client closes link (inr (inr g)) opened = absurd (none_given link closes g)

-- what was the server's link was let go
pub leaves_released : {s t u : Seen} (c d : Conn) (link : ℕ) → IsServer c (Some link) → d.client ≡ c.client
    → (IsExchanging d → (IsExchanging c × (d.current.link ≡ c.current.link)) ⊎ Given s t d.current.link) → OnlyCloses s t → Released d link t u
    → (l : ℕ) → Owns s u c l → u.is_open l ≡ true → Uses d l
leaves_released {s} {t} {u} c d link server client kept closes released l (inl is) opened = inl (is ∙ ap (λ (k : Client). k.link) (sym client))
leaves_released {s} {t} {u} c d link server client kept closes released l (inr (inr g)) opened = absurd (none_given l (closes_then closes (closes_released d t u link released)) g)
leaves_released {s} {t} {u} c d link server client kept closes released l (inr (inl (was, is))) opened = by released
  where
    exchanging : IsExchanging d → (IsExchanging c × (d.current.link ≡ c.current.link)) ⊎ Given s t d.current.link → Uses d l
    exchanging ex (inl same) = inr (ex, is ∙ sym same.1)
    exchanging ex (inr g) = absurd (none_given d.current.link closes g)

    by : Released d link t u → Uses d l
    by (inl (ex, same)) = exchanging ex (kept ex)
    by (inr (idle, did)) = absurd (not_false opened (subst (λ (n : ℕ). u.is_open n ≡ false) (server.1 ∙ sym is) (close_shut t u link did)))

-- a link was dialled, and let go where no exchange began on it
pub leaves_dial : {s t u : Seen} {e : LinkEvent} (c d : Conn) (link : ℕ) → (IsExchanging c → ⊥) → d.client ≡ c.client → Came s link e t → (IsExchanging d → d.current.link ≡ link) → Released d link t u
    → (l : ℕ) → Owns s u c l → u.is_open l ≡ true → Uses d l
leaves_dial {s} {t} {u} {e} c d link idle client came server released l (inl is) opened = inl (is ∙ ap (λ (k : Client). k.link) (sym client))
leaves_dial {s} {t} {u} {e} c d link idle client came server released l (inr (inl was)) opened = absurd (idle was.0)
leaves_dial {s} {t} {u} {e} c d link idle client came server released l (inr (inr g)) opened = by (cases_eq l link) released
  where
    by : (l ≡ link) ⊎ (l ≢ link) → Released d link t u → Uses d l
    by (inl is) (inl (ex, same)) = inr (ex, is ∙ sym (server ex))
    by (inl is) (inr (none, did)) = absurd (not_false opened (subst (λ (n : ℕ). u.is_open n ≡ false) (sym is) (close_shut t u link did)))
    by (inr ne) r = absurd (not_false g.after (ap (λ (f : ℕ → Bool). f l) (closes_released d t u link r).come ∙ came.others_come l ne ∙ g.before))

-- one after another
pub leaves_then : {S T : Type 0} {x y z : Moment} → Linked x.seen x.conn → Went S x y → Went T y z → ((l : ℕ) → Owns x.seen y.seen x.conn l → y.seen.is_open l ≡ true → Uses y.conn l)
    → ((l : ℕ) → Owns y.seen z.seen y.conn l → z.seen.is_open l ≡ true → Uses z.conn l) → (l : ℕ) → Owns x.seen z.seen x.conn l → z.seen.is_open l ≡ true → Uses z.conn l
leaves_then {S} {T} {x} {y} {z} linked a b first second l owns opened = by (y.seen.come l) refl owns
  where
    -- it was the connection's then
    given_first : y.seen.come l ≡ true → Owns x.seen y.seen x.conn l → Uses z.conn l
    given_first come own = second l (owned (first l own (b.world.shut l come opened))) opened
      where
        owned : Uses y.conn l → Owns y.seen z.seen y.conn l
        owned (inl is) = inl is
        owned (inr server) = inr (inl server)

    by : (b : Bool) → y.seen.come l ≡ b → Owns x.seen z.seen x.conn l → Uses z.conn l
    by true come (inl is) = given_first come (inl is)
    by true come (inr (inl server)) = given_first come (inr (inl server))
    by true come (inr (inr g)) = given_first come (inr (inr (record { before = g.before; after = come })))
    by false none (inl is) = absurd (not_false (a.world.come l (subst (λ (n : ℕ). x.seen.come n ≡ true) (sym is) linked.come)) none)
    by false none (inr (inl (ex, is))) = absurd (not_false (a.world.come l (subst (λ (n : ℕ). x.seen.come n ≡ true) (sym is) (linked.server ex).come)) none)
    by false none (inr (inr g)) = second l (inr (inr (record { before = none; after = g.after }))) opened

-- its notes were told
pub leaves_told : {s t : Seen} (c d : Conn) → IsOpen c ⊎ IsEnding c.phase → (IsOpen c → d ≡ record c { notes = d.notes }) → d.client ≡ c.client → OnlyCloses s t
    → (link : ℕ) → Owns s t c link → t.is_open link ≡ true → Uses d link
leaves_told {s} {t} c d (inr end) same client closes = leaves_idle c d (λ ex. not_open c.phase end ex.phase) client closes
leaves_told {s} {t} c d (inl opened) same client closes = by
  where
    by : (link : ℕ) → Owns s t c link → t.is_open link ≡ true → Uses d link
    by link (inl is) yet = inl (is ∙ ap (λ (k : Client). k.link) (sym client))
    by link (inr (inl (ex, is))) yet = let e = same opened in
        inr (record { phase = ap (λ (x : Conn). x.phase) e ∙ ex.phase; stage = ap (λ (x : Conn). x.stage) e ∙ ex.stage }, is ∙ ap (λ (m : Current). m.link) (sym (ap (λ (x : Conn). x.current) e)))
    by link (inr (inr g)) yet = absurd (none_given link closes g)

pub open_unfinished : (c : Conn) → IsOpen c → IsFinished c → ⊥
open_unfinished c opened finished = subst IsTold opened finished.1

-- one that is finished ended before its notes were told
pub ended_before : (c d : Conn) → IsOpen c ⊎ IsEnding c.phase → (IsOpen c → d ≡ record c { notes = d.notes }) → IsFinished d → IsEnding c.phase
ended_before c d (inr end) same finished = end
ended_before c d (inl opened) same finished = absurd (open_unfinished d (ap (λ (x : Conn). x.phase) (same opened) ∙ opened) finished)

-- an ended connection's links were closed
pub closed_ended : {s t u : Seen} (c d : Conn) → ((l : ℕ) → Owns s t c l → t.is_open l ≡ true → Uses d l) → IsEnding d.phase → OnlyCloses t u → u.is_open d.client.link ≡ false
    → (link : ℕ) → Owns s u c link → u.is_open link ≡ false
closed_ended {s} {t} {u} c d leaves end closes client link owns = by (u.is_open link) refl
  where
    before : Owns s u c link → Owns s t c link
    before (inl is) = inl is
    before (inr (inl server)) = inr (inl server)
    before (inr (inr g)) = inr (inr (record { before = g.before; after = sym (ap (λ (f : ℕ → Bool). f link) closes.come) ∙ g.after }))

    used : u.is_open link ≡ true → Uses d link → u.is_open link ≡ false
    used is (inl same) = subst (λ (n : ℕ). u.is_open n ≡ false) (sym same) client
    used is (inr (ex, same)) = absurd (not_open d.phase end ex.phase)

    by : (b : Bool) → u.is_open link ≡ b → u.is_open link ≡ false
    by false is = is
    by true is = used is (leaves link (before owns) (closes.shut link is))

pub on_both : {T E A B C : Type 0} (r : Result T E) → (A → B → C) → OnOk r A → OnOk r B → OnOk r C
on_both (Ok x) f a b = f a b
on_both (Err e) f a b = tt

pub either_way : {T E : Type 0} (P : Type 0) (r : Result T E) → OnOk r P → OnErr r P → P
either_way P (Ok x) ok err = ok
either_way P (Err e) ok err = err
