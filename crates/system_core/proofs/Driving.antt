-- What driving one connection does.
use Rattle.std.proofs.Common.{◌≡◌, ℕ, zero, suc, ◌+◌, ◌<◌, ◌≤◌, List, [], ◌∷◌, ◌++◌, length, map, set, get_or, Option, Some, None, Vec, vec_len, refl, sym, ◌∙◌, ap, subst, arith, slice_get, append_assoc, append-nil, take, inl, inr}
use Rattle.std.proofs.lemmas.List.{map-append}
use Rattle.std.specs.declared.alloc.Global.{Global}
use Rattle.std.specs.Arc.{arc_value}
use Rattle.link_world.specs.declared.note.Note.{Note}
use Rattle.link_world.specs.Log.{noted, gave, gave_end, took}
use Rattle.conversation.specs.Steps.{Step, happened, failed, stopped, IsNew}
use Rattle.conversation.specs.Plans.{Plan}
use Rattle.generation.specs.Meaning.{plan_of}
use Rattle.conn_machine.specs.declared.conn.Conn.{Conn}
use Rattle.conn_machine.specs.declared.parts.Aim.{Aim}
use Rattle.conn_machine.specs.declared.parts.Client.{Client}
use Rattle.conn_machine.specs.declared.parts.Current.{Current}
use Rattle.conn_machine.specs.declared.parts.Phase.TheVariants.{Open, Over}
use Rattle.link_world.specs.declared.note.EndCause.{EndCause}
use Rattle.conn_machine.specs.declared.event.ConnEvent.{ConnEvent}
use Rattle.conn_machine.specs.declared.event.ConnEvent.TheVariants as event
use Rattle.conn_machine.specs.declared.event.BackEvent.{BackEvent}
use Rattle.conn_machine.specs.Events.{IsAsked, IsFresh, step_of, back_step_of, dial_step, number_after}
use Rattle.conn_machine.specs.Prompt.{IsPrompt}
use Rattle.conn_machine.specs.Reached.{Reached, IsDrained, IsOpen, pending_of, back_pending_of, pending_to}
use Rattle.system_core.specs.Records.{noting}
use Rattle.system_core.specs.Drives.{MayFollow, Noted, Driven, DrivenAt}
use Rattle.system_core.proofs.Places.{get_at, get_within, same_or_not, get_set_same, get_set_other, get_pushed}

pub noted_none : (c : Conn) (old : List Note) → Noted c c old old
noted_none c old = record {
  client = refl;
  prompt = λ p. p;
  notes = [];
  kept = sym (append-nil old);
  reached = λ steps r. subst (λ (xs : List Step). Reached xs c) (sym (append-nil steps)) r;
}

pub noted_more : (b c d : Conn) (old mid new : List Note) (note : Note) → Noted b c old mid → new ≡ mid ++ note ∷ [] → d.client ≡ c.client → (IsPrompt c → IsPrompt d)
    → ((steps : List Step) → Reached steps c → Reached (steps ++ happened c.client.link (noted note) ∷ []) d) → Noted b d old new
noted_more b c d old mid new note n is client prompt reached = record {
  client = client ∙ n.client;
  prompt = λ p. prompt (n.prompt p);
  notes = n.notes ++ note ∷ [];
  kept = is ∙ ap (λ t. t ++ note ∷ []) n.kept ∙ append_assoc old n.notes (note ∷ []);
  reached = λ steps r. subst (λ (xs : List Step). Reached xs d) (same steps) (reached (steps ++ map (noting b.client.link) n.notes) (n.reached steps r));
}
  where
    same : (steps : List Step) → (steps ++ map (noting b.client.link) n.notes) ++ noting c.client.link note ∷ [] ≡ steps ++ map (noting b.client.link) (n.notes ++ note ∷ [])
    same steps =
        append_assoc steps (map (noting b.client.link) n.notes) (noting c.client.link note ∷ [])
        ∙ ap (λ (k : Client). steps ++ (map (noting b.client.link) n.notes ++ noting k.link note ∷ [])) n.client
        ∙ ap (λ t. steps ++ t) (sym (map-append (noting b.client.link) n.notes (note ∷ [])))

-- the room that is made changes no step
pub step_same : (e : ConnEvent) (c b : Conn) → b.client ≡ c.client → b.current ≡ c.current → pending_of b ≡ pending_of c → step_of b e ≡ step_of c e
step_same (event.Bytes piece) c b k m p = ap (λ (x : Client). happened x.link (gave piece.now)) k
step_same event.End c b k m p = ap (λ (x : Client). happened x.link gave_end) k
step_same event.Failed c b k m p = ap (λ (x : Client). failed x.link) k
step_same (event.Pinned issue) c b k m p = refl
step_same (event.Looked look) c b k m p = refl
step_same (event.Drew pick) c b k m p = refl
step_same (event.Spent node) c b k m p = refl
step_same (event.Dialled link) c b k m p = ap (λ (x : Current). dial_step link x.aim) m
step_same (event.Back link e) c b k m p = ap (λ (x : Current). back_step_of link (pending_to x.back) e) m
step_same (event.Took n) c b k m p = ap (λ (x : Client). happened x.link (took (take n (pending_of b)))) k ∙ ap (λ t. happened c.client.link (took (take n t))) p
step_same event.Stop c b k m p = refl

fresh_dial : (link : ℕ) (o : Option Aim) (steps : List Step) → MayFollow (dial_step link o) steps → IsNew link steps
fresh_dial link None steps h = h
fresh_dial link (Some a) steps h = h

pub fresh_by : (e : ConnEvent) (c : Conn) (steps : List Step) → MayFollow (step_of c e) steps → IsFresh e steps
fresh_by (event.Bytes piece) c steps h = tt
fresh_by event.End c steps h = tt
fresh_by event.Failed c steps h = tt
fresh_by (event.Pinned issue) c steps h = tt
fresh_by (event.Looked look) c steps h = tt
fresh_by (event.Drew pick) c steps h = tt
fresh_by (event.Spent node) c steps h = tt
fresh_by (event.Dialled link) c steps h = fresh_dial link c.current.aim steps h
fresh_by (event.Back link e) c steps h = tt
fresh_by (event.Took n) c steps h = tt
fresh_by event.Stop c steps h = tt

pub asked_same : (e : ConnEvent) (c b : Conn) → b.current ≡ c.current → IsAsked e c → IsAsked e b
asked_same (event.Bytes piece) c b m h = tt
asked_same event.End c b m h = tt
asked_same event.Failed c b m h = tt
asked_same (event.Pinned issue) c b m h = subst (λ (x : Current). x.number ≤ (plan_of (arc_value issue)).number) (sym m) h
asked_same (event.Looked look) c b m h = λ a e. h a (ap (λ (x : Current). x.aim) (sym m) ∙ e)
asked_same (event.Drew pick) c b m h = ((λ a e. h.0 a (ap (λ (x : Current). x.aim) (sym m) ∙ e)), h.1)
asked_same (event.Spent node) c b m h = λ a e. h a (ap (λ (x : Current). x.aim) (sym m) ∙ e)
asked_same (event.Dialled link) c b m h = tt
asked_same (event.Back link e) c b m h = tt
asked_same (event.Took n) c b m h = tt
asked_same event.Stop c b m h = tt

pub driven_by : (e : ConnEvent) (c b d x : Conn) (old new : List Note)
    → b.client ≡ c.client → b.current ≡ c.current → pending_of b ≡ pending_of c → (IsPrompt c → IsPrompt b) → ((steps : List Step) → Reached steps c → Reached steps b)
    → d.client ≡ b.client → (IsPrompt b → IsPrompt d) → (IsPrompt b → (steps : List Step) → IsFresh e steps → Reached steps b → Reached (steps ++ step_of b e ∷ []) d)
    → Noted d x old new → IsDrained x → Driven (step_of c e) c x old new
driven_by e c b d x old new client current pending prompt_b reached_b client_d prompt_d reached_d n drained = record {
  client = n.client ∙ client_d ∙ client;
  prompt = λ p. n.prompt (prompt_d (prompt_b p));
  notes = n.notes;
  kept = n.kept;
  drained = drained;
  reached = λ prompt steps follows r. subst (λ (xs : List Step). Reached xs x) (same steps)
      (n.reached (steps ++ step_of b e ∷ []) (reached_d (prompt_b prompt) steps (fresh_by e c steps follows) (reached_b steps r)));
}
  where
    same : (steps : List Step) → (steps ++ step_of b e ∷ []) ++ map (noting d.client.link) n.notes ≡ steps ++ step_of c e ∷ map (noting c.client.link) n.notes
    same steps =
        append_assoc steps (step_of b e ∷ []) (map (noting d.client.link) n.notes)
        ∙ ap (λ (s : Step). steps ++ s ∷ map (noting d.client.link) n.notes) (step_same e c b client current pending)
        ∙ ap (λ (k : Client). steps ++ step_of c e ∷ map (noting k.link) n.notes) (client_d ∙ client)

-- from one connection to all
pub driven_at : (i : ℕ) (c x : Conn) (step : Step) (conns new_conns : List Conn) (old new : List Note) → new_conns ≡ set conns i x → Driven step c x old new
    → DrivenAt i c step conns new_conns old new
driven_at i c x step conns new_conns old new is d = record { after = x; conns_are = is; driven = d }

-- no connection is pinned above this number
abbrev pub NoneAbove : List Conn → ℕ → Type 0
NoneAbove conns n = (i : ℕ) (c : Conn) → slice_get conns i ≡ Some c → c.current.number ≤ n

pub after_within : (e : ConnEvent) (m n : ℕ) → number_after e 0 ≤ n → m ≤ n → number_after e m ≤ n
after_within (event.Bytes piece) m n a b = b
after_within event.End m n a b = b
after_within event.Failed m n a b = b
after_within (event.Pinned issue) m n a b = a
after_within (event.Looked look) m n a b = b
after_within (event.Drew pick) m n a b = b
after_within (event.Spent node) m n a b = b
after_within (event.Dialled link) m n a b = b
after_within (event.Back link e) m n a b = b
after_within (event.Took k) m n a b = b
after_within event.Stop m n a b = b

pub none_above : (conns : List Conn) (i n : ℕ) (x : Conn) → x.current.number ≤ n → NoneAbove conns n → NoneAbove (set conns i x) n
none_above conns i n x below all = λ j d g. elim (same_or_not j i) as (λ _. d.current.number ≤ n) [
  | inr apart ↦ all j d (sym (get_set_other conns i j x apart) ∙ g)
  | inl same ↦ subst (λ (y : Conn). y.current.number ≤ n) (sym (get_set_same conns i x d (ap (λ (k : ℕ). slice_get (set conns i x) k) (sym same) ∙ g))) below
]

pub none_above_pushed : (conns : List Conn) (n : ℕ) (x : Conn) → x.current.number ≤ n → NoneAbove conns n → NoneAbove (conns ++ x ∷ []) n
none_above_pushed conns n x below all = λ j d g. elim (get_pushed conns j x d g) as (λ _. d.current.number ≤ n) [
  | inl old ↦ all j d old
  | inr last ↦ subst (λ (y : Conn). y.current.number ≤ n) (sym last.1) below
]

pub none_above_more : (conns : List Conn) (n m : ℕ) → n ≤ m → NoneAbove conns n → NoneAbove conns m
none_above_more conns n m up all = λ j d g. let h : d.current.number ≤ n = all j d g in omega arith

-- an ended machine waits for nothing
pub prompt_over : (c : Conn) (cause : EndCause) → c.phase ≡ Over cause → IsPrompt c
prompt_over c cause is = record {
  goes_on = λ w. absurd (let e : Over cause ≡ Open = sym is ∙ w.phase in let f : ⊥ = cc in f);
  part = λ w. absurd (let e : Over cause ≡ Open = sym is ∙ w.phase in let f : ⊥ = cc in f);
  exchange = λ w. absurd (let e : Over cause ≡ Open = sym is ∙ w.phase in let f : ⊥ = cc in f);
  reply = λ w. absurd (let e : Over cause ≡ Open = sym is ∙ w.phase in let f : ⊥ = cc in f);
}

-- a machine that was told of the stop, and then tells its notes
pub halted_by : (c d x : Conn) (old new : List Note) (cause : EndCause) → d.client ≡ c.client → d.phase ≡ Over cause → ((steps : List Step) → Reached steps c → Reached (steps ++ stopped ∷ []) d)
    → Noted d x old new → IsDrained x → Driven stopped c x old new
halted_by c d x old new cause client over reached_d n drained = record {
  client = n.client ∙ client;
  prompt = λ p. n.prompt (prompt_over d cause over);
  notes = n.notes;
  kept = n.kept;
  drained = drained;
  reached = λ prompt steps follows r. subst (λ (xs : List Step). Reached xs x) (same steps) (n.reached (steps ++ stopped ∷ []) (reached_d steps r));
}
  where
    same : (steps : List Step) → (steps ++ stopped ∷ []) ++ map (noting d.client.link) n.notes ≡ steps ++ stopped ∷ map (noting c.client.link) n.notes
    same steps =
        append_assoc steps (stopped ∷ []) (map (noting d.client.link) n.notes)
        ∙ ap (λ (k : Client). steps ++ stopped ∷ map (noting k.link) n.notes) client

pub over_closed : (c : Conn) (cause : EndCause) → c.phase ≡ Over cause → IsOpen c → ⊥
over_closed c cause is open_ = let e : Over cause ≡ Open = sym is ∙ open_ in cc
