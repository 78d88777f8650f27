-- What a machine waits for hasn't come.
use Rattle.std.proofs.Common.{◌≡◌, ◌≢◌, ℕ, ◌+◌, ◌-◌, ◌<◌, List, [], ◌∷◌, ◌++◌, length, take, drop, Option, refl, sym, ◌∙◌, ap, subst, inl, arith, nat_eq, Bool, true, false, lit<}
use Rattle.std.proofs.lemmas.List.{length-append, length-drop, nil_from_length}
use Rattle.std.proofs.lemmas.Bool.Decides.{nat_tests}
use Rattle.httparse.specs.Grammar.{RequestHead, print_request, print_blank, MayBecomeRequest}
use Rattle.httparse.specs.Pieces.{Completes, BlankLines}
use Rattle.httparse.proofs.GrammarLemmas.{print_request-append}
use Rattle.httparse.proofs.OpenLemmas.{line_blank, request_may_from_line}
use Rattle.ip_net.specs.declared.ip.Ip.{Ip}
use Rattle.link_world.specs.declared.note.EndCause.{EndCause}
use Rattle.back_machine.specs.Exchanges.{BackView}
use Rattle.conn_machine.specs.Parts.{IsPart, IsFound}
use Rattle.conn_machine.specs.Relays.{IsOpenBack}
use Rattle.conn_machine.specs.Prompt.{IsPrompt}
use Rattle.conn_machine.specs.Reached.{Waits, IsEnding, KeepsServer, pending_of}
use Rattle.conn_machine.specs.declared.parts.Current.{Current}
use Rattle.conn_machine.specs.declared.parts.Stage.{Stage}
use Rattle.conn_machine.specs.declared.parts.Stage.TheVariants.{Head, Exchange, Reply}
use Rattle.conn_machine.specs.declared.parts.Phase.{Phase}
use Rattle.conn_machine.specs.declared.parts.Phase.TheVariants.{Open, Over}
use Rattle.conn_machine.specs.declared.heads.Found.TheVariants as found
use Rattle.conn_machine.specs.declared.conn.Conn.{Conn}
use Rattle.conn_machine.proofs.Starts.{short_take}

-- no event may come
pub prompt_shut : {d : Conn} → d.phase ≢ Open → IsPrompt d
prompt_shut shut = record {
  goes_on = λ w. absurd (shut w.phase);
  part = λ w. absurd (shut w.phase);
  exchange = λ w. absurd (shut w.phase);
  reply = λ w. absurd (shut w.phase);
}

pub prompt_over : {d : Conn} (cause : EndCause) → d.phase ≡ Over cause → IsPrompt d
prompt_over {d} cause is = prompt_shut {d = d} (λ e. let f : Over cause ≡ Open = sym is ∙ e in cc)

pub prompt_ending : {d : Conn} → IsEnding d.phase → IsPrompt d
prompt_ending {d} ending = prompt_shut {d = d} (λ e. let f : IsEnding Open = subst IsEnding e ending in f)

-- it waits for no request, no server and no client
abbrev pub IsElsewhere : Stage → Type 0
IsElsewhere Head = ⊥
IsElsewhere Exchange = ⊥
IsElsewhere Reply = ⊥
IsElsewhere _ = Unit {0}

pub prompt_at : {d : Conn} (at : Stage) → d.stage ≡ at → IsElsewhere at → IsPrompt d
prompt_at at is e = record {
  goes_on = λ w. absurd (let f : IsElsewhere Head = subst IsElsewhere (sym is ∙ w.stage) e in f);
  part = λ w. absurd (let f : IsElsewhere Head = subst IsElsewhere (sym is ∙ w.stage) e in f);
  exchange = λ w. absurd (let f : IsElsewhere Exchange = subst IsElsewhere (sym is ∙ w.stage) e in f);
  reply = λ w. absurd (let f : IsElsewhere Reply = subst IsElsewhere (sym is ∙ w.stage) e in f);
}

same_wait : {c d : Conn} {at : Stage} → d.phase ≡ c.phase → d.stage ≡ c.stage → Waits at d → Waits at c
same_wait p s w = record { phase = sym p ∙ w.phase; stage = sym s ∙ w.stage }

-- nothing came of what it waits for
pub prompt_same : {c d : Conn} → d.phase ≡ c.phase → d.stage ≡ c.stage → d.over ≡ c.over → d.input.items ≡ c.input.items → d.current.back ≡ c.current.back → pending_of d ≡ pending_of c
    → IsPrompt c → IsPrompt d
prompt_same {c} {d} p s o i b n h = record {
  goes_on = λ w. o ∙ h.goes_on (same_wait {c = c} {d = d} p s w);
  part = λ w. subst IsPart (sym i) (h.part (same_wait {c = c} {d = d} p s w));
  exchange = λ w. subst IsOpenBack (sym b) (h.exchange (same_wait {c = c} {d = d} p s w));
  reply = λ w e. h.reply (same_wait {c = c} {d = d} p s w) (sym n ∙ e);
}

-- its client gave something, and it waits for no request
pub prompt_else : {c d : Conn} → d.phase ≡ c.phase → d.stage ≡ c.stage → d.stage ≢ Head → d.current.back ≡ c.current.back → pending_of d ≡ pending_of c → IsPrompt c → IsPrompt d
prompt_else {c} {d} p s other b n h = record {
  goes_on = λ w. absurd (other w.stage);
  part = λ w. absurd (other w.stage);
  exchange = λ w. subst IsOpenBack (sym b) (h.exchange (same_wait {c = c} {d = d} p s w));
  reply = λ w e. h.reply (same_wait {c = c} {d = d} p s w) (sym n ∙ e);
}

-- its client took something, and it doesn't wait for that
pub prompt_took : {c d : Conn} → d.phase ≡ c.phase → d.stage ≡ c.stage → d.stage ≢ Reply → d.over ≡ c.over → d.input.items ≡ c.input.items → d.current.back ≡ c.current.back → IsPrompt c → IsPrompt d
prompt_took {c} {d} p s other o i b h = record {
  goes_on = λ w. o ∙ h.goes_on (same_wait {c = c} {d = d} p s w);
  part = λ w. subst IsPart (sym i) (h.part (same_wait {c = c} {d = d} p s w));
  exchange = λ w. subst IsOpenBack (sym b) (h.exchange (same_wait {c = c} {d = d} p s w));
  reply = λ w. absurd (other w.stage);
}

-- it waits for a server whose exchange goes on
pub prompt_exchange : {d : Conn} → d.stage ≡ Exchange → IsOpenBack d.current.back → IsPrompt d
prompt_exchange is goes = record {
  goes_on = λ w. absurd (let f : Head ≡ Exchange = sym w.stage ∙ is in cc);
  part = λ w. absurd (let f : Head ≡ Exchange = sym w.stage ∙ is in cc);
  exchange = λ w. goes;
  reply = λ w. absurd (let f : Reply ≡ Exchange = sym w.stage ∙ is in cc);
}

-- it waits for a request of which a part has come
pub prompt_head : {d : Conn} → d.stage ≡ Head → d.over ≡ false → IsPart d.input.items → IsPrompt d
prompt_head is over part = record {
  goes_on = λ w. over;
  part = λ w. part;
  exchange = λ w. absurd (let f : Exchange ≡ Head = sym w.stage ∙ is in cc);
  reply = λ w. absurd (let f : Reply ≡ Head = sym w.stage ∙ is in cc);
}

-- it waits for the client to take a reply
pub prompt_reply : {d : Conn} → d.stage ≡ Reply → pending_of d ≢ [] → IsPrompt d
prompt_reply is some = record {
  goes_on = λ w. absurd (let f : Head ≡ Reply = sym w.stage ∙ is in cc);
  part = λ w. absurd (let f : Head ≡ Reply = sym w.stage ∙ is in cc);
  exchange = λ w. absurd (let f : Exchange ≡ Reply = sym w.stage ∙ is in cc);
  reply = λ w. some;
}

-- no exchange goes on at another stage
pub away_at : {d : Conn} (at : Stage) → d.stage ≡ at → at ≢ Exchange → ¬ (Waits Exchange d)
away_at at is other w = other (sym is ∙ w.stage)

pub away_shut : {d : Conn} → d.phase ≢ Open → ¬ (Waits Exchange d)
away_shut shut w = shut w.phase

-- it stands where it stood
pub keeps_same : {c d : Conn} → d.phase ≡ c.phase → d.stage ≡ c.stage → d.current.link ≡ c.current.link → KeepsServer c d
keeps_same {c} {d} p s l w = (same_wait {c = c} {d = d} p s w, l)

-- the same exchange, by way of a machine whose request and stage are the same
pub keeps_through : {c d e : Conn} → c.phase ≡ Open → d.stage ≡ c.stage → d.current ≡ c.current → KeepsServer d e → KeepsServer c e
keeps_through {c} {d} is at m keeps w = (record { phase = is; stage = sym at ∙ (keeps w).0.stage }, (keeps w).1 ∙ ap (λ (x : Current). x.link) m)

pub keeps_away : {c d : Conn} → ¬ (Waits Exchange d) → KeepsServer c d
keeps_away away w = absurd (away w)

-- what is found of a part
pub part_of : (peer : Ip) (input : List ℕ) → IsFound peer (take 16384 input) found.Part → IsPart input
part_of peer input h = subst IsPart (short_take input h.room) h

nil_not : (xs ys zs : List ℕ) (b : ℕ) → [] ≡ xs ++ (ys ++ b ∷ zs) → ⊥
nil_not xs ys zs b e =
    let l : length {A = ℕ} [] ≡ length (xs ++ (ys ++ b ∷ zs)) = ap (length {A = ℕ}) e in
    let x : length (xs ++ (ys ++ b ∷ zs)) ≡ length xs + length (ys ++ b ∷ zs) = length-append xs (ys ++ b ∷ zs) in
    let y : length (ys ++ b ∷ zs) ≡ length ys + length (b ∷ zs) = length-append ys (b ∷ zs) in
    omega arith

no_head_in_nil : (h : RequestHead) (rest : List ℕ) → [] ≡ print_request h ++ rest → ⊥
no_head_in_nil h rest e = nil_not _ _ _ _ (e ∙ print_request-append h rest)

-- no bytes are a part of a head
pub part_nil : IsPart []
part_nil = record {
  unfinished = λ h. no_head_in_nil h.0 h.1 h.2.1;
  continues = request_may_from_line (inl (line_blank (record { more = []; tree = []; reads = λ rest. refl })));
  room = lit< tt;
}

nil_of : (b : Bool) (buf : List ℕ) → b ≡ nat_eq (length buf) 0 → b ≡ true → [] ≡ buf
nil_of b buf is yes_ = sym (nil_from_length buf (zero_of (length buf) (sym is ∙ yes_)))
  where
    zero_of : (n : ℕ) → nat_eq n 0 ≡ true → n ≡ 0
    zero_of n e = grind (arith, nat_tests)

pub part_empty : (b : Bool) (buf : List ℕ) → b ≡ nat_eq (length buf) 0 → b ≡ true → IsPart buf
part_empty b buf is yes_ = subst IsPart (nil_of b buf is yes_) part_nil

pub prompt_new : {d : Conn} → d.stage ≡ Head → d.over ≡ false → d.input.items ≡ [] → IsPrompt d
prompt_new {d} is over none = prompt_head {d = d} is over (subst IsPart (sym none) part_nil)

some_left : (n : ℕ) (xs : List ℕ) → n < length xs → drop n xs ≢ []
some_left n xs lt e =
    let a : length (drop n xs) ≡ length xs - n = length-drop n xs in
    let b : length (drop n xs) ≡ length {A = ℕ} [] = ap (length {A = ℕ}) e in
    omega arith

pub prompt_left : {d : Conn} → d.stage ≡ Reply → d.sent < length d.out.items → IsPrompt d
prompt_left {d} is lt = prompt_reply {d = d} is (some_left d.sent d.out.items lt)
