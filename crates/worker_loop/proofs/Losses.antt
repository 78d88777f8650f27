-- A connection whose end isn't noted.
use Rattle.std.proofs.Common.{◌≡◌, ◌≢◌, ℕ, ◌+◌, ◌<◌, List, [], ◌∷◌, ◌++◌, Option, Some, None, sym, ◌∙◌, ap, subst, inl, inr, true, arith}
use Rattle.std.specs.Prelude.{Result, Ok, Err, IsErr, OnErr}
use Rattle.std.specs.List.{Contains}
use Rattle.std.specs.declared.alloc.AllocError.{AllocError}
use Rattle.std.proofs.lemmas.List.Concat.{flat_map-append}
use Rattle.std.proofs.lemmas.List.Elements.{Contains-append_cases}
use Rattle.slab.specs.Slab.{Slab, get}
use Rattle.link_world.specs.declared.note.Note.{Note}
use Rattle.link_world.specs.Log.{Event, asked, history_of, notes, note_by}
use Rattle.link_world.specs.Seen.{Seen, StopDid}
use Rattle.conversation.specs.Plans.{Plan}
use Rattle.conversation.specs.Steps.{Step, history}
use Rattle.conversation.specs.Served.{end_note}
use Rattle.conn_machine.specs.declared.conn.Conn.{Conn}
use Rattle.conn_service.specs.Went.{extended}
use Rattle.worker_loop.specs.Owned.{Tracks}
use Rattle.worker_loop.specs.Runs.{AttendsBy}
use Rattle.worker_loop.specs.Settled.{EndsOnly, IsUnnoted, IsOneLost}
use Rattle.worker_loop.proofs.Lists.{contains_none, extended_twice, extended_none, history-append}
use Rattle.worker_loop.proofs.Servings.{Moved, Strayed, Others}
use Rattle.worker_loop.proofs.Accountings.{links_apart}
use Rattle.worker_loop.proofs.Stops.{told_late, no_end}

pub unnoted_none : (now : Seen) (link : ℕ) → IsUnnoted now now link
unnoted_none now link = record { ran = []; log = extended_none now.log; none = λ cause has. contains_none (end_note link cause) has }

pub unnoted_then : (a b d : Seen) (link : ℕ) → IsUnnoted a b link → IsUnnoted b d link → IsUnnoted a d link
unnoted_then a b d link p q = record {
  ran = p.ran ++ q.ran;
  log = q.log ∙ ap (λ (o : Option (List Event)). extended o q.ran) p.log ∙ extended_twice a.log p.ran q.ran;
  none = λ cause has. elim (Contains-append_cases (notes (history_of link p.ran)) (notes (history_of link q.ran)) (end_note link cause) (subst (λ (ns : List Note). Contains ns (end_note link cause)) parts has)) [
    | inl early ↦ p.none cause early
    | inr late ↦ q.none cause late
  ];
}
  where
    parts : notes (history_of link (p.ran ++ q.ran)) ≡ notes (history_of link p.ran) ++ notes (history_of link q.ran)
    parts = ap notes (history-append link p.ran q.ran) ∙ flat_map-append note_by (history_of link p.ran) (history_of link q.ran)

-- a connection that was lost
pub unnoted_lost : {S : Type 0} {now new : Seen} {f g gs : List Plan} {c : Conn} {steps : List Step} → Tracks now gs steps c → Strayed S now new f g c → IsUnnoted now new c.client.link
unnoted_lost {c = c} {steps = steps} t (d, w, un) = record {
  ran = w.ran;
  log = w.log;
  none = λ cause has. no_end (notes (history d.client.link (steps ++ w.did))) d.client.link cause (un (steps ++ w.did) (w.stands steps t.stands).reached) (told_late t w c.client.link cause has);
}

-- while another one was served
pub unnoted_alone : {S : Type 0} {now new : Seen} {f g gs : List Plan} {c d : Conn} {steps : ℕ → List Step} (conns : Slab Conn) (key k : ℕ) (x : Conn) → AttendsBy now gs steps conns → get conns key ≡ Some c → k ≢ key → get conns k ≡ Some x → Moved S now new f g c d → IsUnnoted now new x.client.link
unnoted_alone {c = c} conns key k x at gc ne gx w = record {
  ran = w.ran;
  log = w.log;
  none = λ cause has. contains_none (end_note x.client.link cause)
      (subst (λ (ns : List Note). Contains ns (end_note x.client.link cause)) (ap notes (sym (w.shows x.client.link)) ∙ w.noted x.client.link (links_apart key k c x at gc gx (λ e. ne (sym e)))) has);
}

pub alone_lost : {S : Type 0} {now new : Seen} {f g gs : List Plan} {c : Conn} {steps : ℕ → List Step} (conns : Slab Conn) (key k : ℕ) (x : Conn) → AttendsBy now gs steps conns → get conns key ≡ Some c → k ≢ key → get conns k ≡ Some x → Strayed S now new f g c → IsUnnoted now new x.client.link
alone_lost conns key k x at gc ne gx (d, w, un) = unnoted_alone conns key k x at gc ne gx w

-- those of the first connections that aren't ended yet have no end noted
abbrev pub AreUnnoted : Seen → Seen → Slab Conn → Type 0
AreUnnoted old new conns = (k : ℕ) (c : Conn) → get conns k ≡ Some c → IsUnnoted old new c.client.link

-- one of the first connections under the keys before this one was lost
abbrev pub IsLostBefore : Seen → Seen → Slab Conn → ℕ → Type 0
IsLostBefore old new conns key = (k : ℕ) × (c : Conn) × (k < key) × (get conns k ≡ Some c) × IsUnnoted old new c.client.link

pub unnoted_next : (a b d : Seen) (conns conns' : Slab Conn) (key : ℕ) → AreUnnoted a b conns → ((k : ℕ) (x : Conn) → k ≢ key → get conns k ≡ Some x → IsUnnoted b d x.client.link) → get conns' key ≡ None → Others conns conns' key → AreUnnoted a d conns'
unnoted_next a b d conns conns' key was alone gone others k x gx =
    let ne : k ≢ key = λ same. let here : get conns' key ≡ Some x = ap (get conns') (sym same) ∙ gx in let f : ⊥ = cc in f in
    let before : get conns k ≡ Some x = sym (others k ne) ∙ gx in
    unnoted_then a b d x.client.link (was k x before) (alone k x ne before)

on_err : {P : Type 0} (r : Result (Unit {0}) AllocError) → IsErr r → OnErr r P → P
on_err (Ok x) is h = absurd (let f : ⊥ = cc in f)
on_err (Err e) is h = h

-- the connection under this key is lost now
pub lost_now : (a b d : Seen) (first conns : Slab Conn) (key : ℕ) (r : Result (Unit {0}) AllocError) → IsErr r → OnErr r ((c : Conn) × (get conns key ≡ Some c) × IsUnnoted b d c.client.link)
    → get conns key ≡ get first key → AreUnnoted a b conns → IsLostBefore a d first (key + 1)
lost_now a b d first conns key r is lost same was =
    let one = on_err r is lost in
    (key, one.0, omega arith, sym same ∙ one.1, unnoted_then a b d one.0.client.link (was key one.0 one.1) one.2)

-- one that was lost before stays so
pub lost_still : {gs : List Plan} {now : Seen} {steps : ℕ → List Step} (a b d : Seen) (first conns : Slab Conn) (key : ℕ) → AttendsBy now gs steps first → EndsOnly b d conns
    → ((k : ℕ) → k < key → get conns k ≡ None) → ((k : ℕ) (x : Conn) → get conns k ≡ Some x → get first k ≡ Some x) → IsLostBefore a b first key → IsLostBefore a d first (key + 1)
lost_still {gs} {now} {steps} a b d first conns key at ends gone within (k, c, lt, gc, un) = (
  k,
  c,
  omega (arith, lt),
  gc,
  unnoted_then a b d c.client.link un (record {
    ran = ends.ran;
    log = ends.log;
    none = λ cause has. elim (ends.notes_on c.client.link) [
      | inl (j, x, gx, same) ↦
          let ne : j ≢ k = λ e. let none : get conns j ≡ None = gone j (subst (λ (n : ℕ). n < key) (sym e) lt) in let f : ⊥ = cc in f in
          links_apart k j c x at gc (within j x gx) (λ e. ne (sym e)) same
      | inr none ↦ contains_none (end_note c.client.link cause) (subst (λ (ns : List Note). Contains ns (end_note c.client.link cause)) none has)
    ];
  }),
)

pub one_lost : (a d : Seen) (first : Slab Conn) (key : ℕ) → IsLostBefore a d first key → IsOneLost a d first
one_lost a d first key (k, c, lt, gc, un) = (k, c, gc, un)

-- the question for a stop notes nothing
pub lost_asked : (a b d : Seen) (conns : Slab Conn) → StopDid a true b → IsOneLost b d conns → IsOneLost a d conns
lost_asked a b d conns did (k, c, gc, un) = (k, c, gc, unnoted_then a b d c.client.link quiet un)
  where
    quiet : IsUnnoted a b c.client.link
    quiet = record { ran = asked true ∷ []; log = ap (λ (s : Seen). s.log) did.2; none = λ cause has. contains_none (end_note c.client.link cause) has }
