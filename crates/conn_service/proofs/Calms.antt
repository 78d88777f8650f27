-- When a connection rests, and what keeps it at rest.
use Rattle.std.proofs.Common.{◌≡◌, ◌≢◌, ◌⊎◌, ℕ, ◌≤◌, List, [], length, refl, sym, ◌∙◌, ap, subst, inl, inr, arith, true}
use Rattle.link_world.specs.Lately.{Lately, OnlyAt, SameAt}
use Rattle.conn_machine.specs.Prompt.{IsPrompt}
use Rattle.std.specs.Prelude.{Result, Ok, Err, OnOk, Vec}
use Rattle.std.specs.declared.alloc.Global.{Global}
use Rattle.link_world.specs.Seen.{Seen}
use Rattle.link_world.specs.declared.note.Note.{Note}
use Rattle.conversation.specs.Plans.{Plan}
use Rattle.conn_machine.specs.Reached.{IsOpen, IsEnding, IsFinished, IsTold, pending_of, pending_to, back_pending_of}
use Rattle.conn_machine.specs.declared.parts.Client.{Client}
use Rattle.conn_machine.specs.declared.parts.Current.{Current}
use Rattle.conn_machine.specs.declared.parts.Stage.TheVariants as stage
use Rattle.conn_machine.specs.declared.conn.Conn.{Conn}
use Rattle.conn_service.specs.Moments.{IsExchanging, IsReady, Linked}
use Rattle.conn_service.specs.Pins.{IsBelow}
use Rattle.conn_service.specs.Calm.{IsRead, ReadDone, IsStanding, Rests, Calm}
use Rattle.conn_service.specs.Counts.{Counted, Stays}
use Rattle.conn_service.specs.declared.turn.Reads.{Reads}

pub read_stays : {l m : Lately} {c d : Conn} {link : ℕ} → Stays l m c d → IsRead l link → IsRead m link
read_stays {l} {m} {c} {d} {link} s (inl quiet) = inl (s.read_quiet link quiet)
read_stays {l} {m} {c} {d} {link} s (inr many) = inr (s.reads link 64 (omega arith) many)

pub done_stays : {l m : Lately} {c d : Conn} → Stays l m c d → ReadDone l c → ReadDone m d
done_stays {l} {m} {c} {d} s (inl over) = inl (s.same.over ∙ over)
done_stays {l} {m} {c} {d} s (inr (inl full)) = inr (inl (subst (λ (x : List ℕ). 32768 ≤ length x) (sym s.same.input) full))
done_stays {l} {m} {c} {d} s (inr (inr is)) = inr (inr (subst (λ (k : Client). IsRead m k.link) (sym s.same.client) (read_stays s is)))

-- it rests where nothing moved
pub rests_from : {l m n o p : Lately} {b c d e f : Conn} → IsStanding b.stage → Stays l m b c → ReadDone m c → Stays m n c d → (IsExchanging d → back_pending_of d ≢ [] → n.write_quiet d.current.link ≡ true)
    → Stays n o d e → (IsExchanging e → IsRead o e.current.link) → Stays o p e f → (pending_of f ≢ [] → p.write_quiet f.client.link ≡ true) → IsPrompt f → IsOpen f → Rests p f
rests_from {l} {m} {n} {o} {p} {b} {c} {d} {e} {f} standing s read t asked u heard v answered prompt opened = record {
  standing = subst IsStanding (sym (v.same.stage ∙ u.same.stage ∙ t.same.stage ∙ s.same.stage)) standing;
  prompt = prompt;
  read = done_stays v (done_stays u (done_stays t read));
  written = answered;
  server = λ at. record {
    read = subst (λ (k : Current). IsRead p k.link) (sym v.same.current) (read_stays v (heard (in_e at)));
    written = λ some. subst (λ (k : Current). p.write_quiet k.link ≡ true) (sym (v.same.current ∙ u.same.current))
        (v.write_quiet d.current.link (u.write_quiet d.current.link (asked (in_d at) (λ none. some (ap (λ (k : Current). pending_to k.back) (v.same.current ∙ u.same.current) ∙ none)))));
  };
}
  where
    in_e : f.stage ≡ stage.Exchange → IsExchanging e
    in_e at = record { phase = sym v.same.phase ∙ opened; stage = sym v.same.stage ∙ at }

    in_d : f.stage ≡ stage.Exchange → IsExchanging d
    in_d at = let w = in_e at in record { phase = sym u.same.phase ∙ w.phase; stage = sym u.same.stage ∙ w.stage }

read_same : {l m : Lately} {link : ℕ} → SameAt link l m → IsRead l link → IsRead m link
read_same {l} {m} {link} same (inl quiet) = inl (same.read_quiet ∙ quiet)
read_same {l} {m} {link} same (inr many) = inr (omega (arith, same.reads, many))

-- it stays calm where its links stay as they were
pub calm_kept : {l m : Lately} {c : Conn} → Calm l c → SameAt c.client.link l m → (IsExchanging c → SameAt c.current.link l m) → Calm m c
calm_kept {l} {m} {c} calm client server = λ opened. let r = calm opened in record {
  standing = r.standing;
  prompt = r.prompt;
  read = read_on r.read;
  written = λ some. client.write_quiet ∙ r.written some;
  server = λ at. let s = server (record { phase = opened; stage = at }) in let done = r.server at in record {
    read = read_same s done.read;
    written = λ some. s.write_quiet ∙ done.written some;
  };
}
  where
    read_on : ReadDone l c → ReadDone m c
    read_on (inl over) = inl over
    read_on (inr (inl full)) = inr (inl full)
    read_on (inr (inr is)) = inr (inr (read_same client is))

same_here : (link : ℕ) (l : Lately) → SameAt link l l
same_here link l = record { reads = refl; read_quiet = refl; write_quiet = refl; read_was_quiet = refl; write_was_quiet = refl }

-- what was the server's link is let go
pub calm_released : {l m : Lately} {c : Conn} {link : ℕ} → OnlyAt link l m → link ≢ c.client.link → (IsExchanging c → m ≡ l) → Calm l c → Calm m c
calm_released {l} {m} {c} {link} only apart still calm =
    calm_kept calm (only.others c.client.link (λ same. apart (sym same))) (λ ex. subst (λ (x : Lately). SameAt c.current.link l x) (sym (still ex)) (same_here c.current.link l))

pub counted_released : {r : Reads} {l m : Lately} {c : Conn} {link : ℕ} → OnlyAt link l m → link ≢ c.client.link → (IsExchanging c → m ≡ l) → Counted r l c → Counted r m c
counted_released {r} {l} {m} {c} {link} only apart still h = record {
  client = omega (arith, (only.others c.client.link (λ same. apart (sym same))).reads, h.client);
  client_most = h.client_most;
  server = λ ex. subst (λ (x : Lately). r.server ≤ x.reads c.current.link) (sym (still ex)) (h.server ex);
  server_most = h.server_most;
}

-- a new exchange has read nothing yet
pub counted_reset : {r : Reads} {l m : Lately} {c d : Conn} → m.reads d.client.link ≡ l.reads c.client.link → Counted r l c → Counted (record r { server = 0 }) m d
counted_reset {r} {l} {m} {c} {d} same h = record {
  client = omega (arith, same, h.client);
  client_most = h.client_most;
  server = λ ex. omega arith;
  server_most = omega arith;
}

-- one that doesn't wait isn't calm only while it is open
pub calm_closed : {l : Lately} {c : Conn} → (IsOpen c → ⊥) → Calm l c
calm_closed no_ = λ opened. absurd (no_ opened)

prompt_notes : (c : Conn) (n : Vec Note Global) → IsPrompt c → IsPrompt (record c { notes = n })
prompt_notes c n p = record {
  goes_on = λ w. p.goes_on (record { phase = w.phase; stage = w.stage });
  part = λ w. p.part (record { phase = w.phase; stage = w.stage });
  exchange = λ w. p.exchange (record { phase = w.phase; stage = w.stage });
  reply = λ w. p.reply (record { phase = w.phase; stage = w.stage });
}

calm_notes : (l : Lately) (c : Conn) (n : Vec Note Global) → Calm l c → Calm l (record c { notes = n })
calm_notes l c n calm = λ opened. let r = calm opened in record {
  standing = r.standing;
  prompt = prompt_notes c n r.prompt;
  read = r.read;
  written = r.written;
  server = λ at. let s = r.server at in record { read = s.read; written = s.written };
}

finished_closed : (d : Conn) → IsFinished d → IsOpen d → ⊥
finished_closed d done opened = subst IsTold opened done.1

-- calm after its notes were told
pub calm_told : {T E : Type 0} (r : Result T E) {l m : Lately} (b d : Conn) → IsOpen b ⊎ IsEnding b.phase → Calm l b → (IsOpen b → m ≡ l)
    → OnOk r (IsOpen b → d ≡ record b { notes = d.notes }) → OnOk r (IsEnding b.phase → IsFinished d) → OnOk r (Calm m d)
calm_told (Err e) b d kept calm stays same done = tt
calm_told (Ok x) {l} {m} b d (inl opened) calm stays same done =
    subst (λ (y : Conn). Calm m y) (sym (same opened)) (subst (λ (y : Lately). Calm y (record b { notes = d.notes })) (sym (stays opened)) (calm_notes l b d.notes calm))
calm_told (Ok x) {l} {m} b d (inr end) calm stays same done = calm_closed (finished_closed d (done end))

-- ready after its notes were told
pub ready_told : {T E : Type 0} (r : Result T E) (s : Seen) {l : Lately} (generations : List Plan) (b d : Conn) → IsOpen b ⊎ IsEnding b.phase → Calm l b
    → OnOk r (Linked s d × IsBelow generations d.current.number) → OnOk r (IsOpen b → d ≡ record b { notes = d.notes }) → OnOk r (IsEnding b.phase → IsFinished d) → OnOk r (IsFinished d ⊎ IsReady s generations d)
ready_told (Err e) s generations b d kept calm went same done = tt
ready_told (Ok x) s generations b d (inl opened) calm went same done = inr (record {
  is_open = ap (λ (y : Conn). y.phase) (same opened) ∙ opened;
  prompt = subst (λ (y : Conn). IsPrompt y) (sym (same opened)) (prompt_notes b d.notes (calm opened).prompt);
  linked = went.0;
  below = went.1;
})
ready_told (Ok x) s generations b d (inr end) calm went same done = inl (done end)
