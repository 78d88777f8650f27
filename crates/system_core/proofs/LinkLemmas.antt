-- What a telling adds to what is kept of links.
use Rattle.std.proofs.Common.{◌≡◌, ◌≢◌, ℕ, ◌≤◌, ◌<◌, ◌⊎◌, inl, inr, Bool, true, false, ◌==◌, List, [], ◌∷◌, ◌++◌, length, map, set, Option, Some, None, refl, sym, ◌∙◌, ap, subst, arith, slice_get}
use Rattle.std.proofs.lemmas.List.{append-nil}
use Rattle.ip_net.specs.declared.ip.Ip.{Ip}
use Rattle.link_world.specs.declared.note.Note.{Note}
use Rattle.link_world.specs.Log.{LinkEvent, came, dialled, only_if, taken}
use Rattle.conversation.specs.Steps.{Step, happened, history, history_by, IsNew}
use Rattle.conversation.proofs.Tellings.{same_link, other_link}
use Rattle.system_core.specs.Records.{Telling, tells, steps_of, noting}
use Rattle.system_core.specs.Views.{IsLinkOf, Begins}
use Rattle.system_core.specs.Takes.{TookOn}
use Rattle.system_core.specs.declared.links.Link.{Link}
use Rattle.system_core.specs.declared.links.Authority.{Authority}
use Rattle.system_core.proofs.Places.{same_or_not, get_set_same, get_set_other, get_pushed, some_same}
use Rattle.system_core.proofs.Tellings.{steps_same, steps_other, history_append, history_did, taken_append, taken_did}

-- what is kept of each link is what the tellings say of it
abbrev pub AllLinks : List Link → List Telling → Type 0
AllLinks links told = (l : ℕ) (k : Link) → slice_get links l ≡ Some k → IsLinkOf k (history l (steps_of k.owner told))

begins_more : (to : Option Authority) (h more : List LinkEvent) → Begins to h → Begins to (h ++ more)
begins_more None h more b = (b.0, b.1, b.2 ++ more, ap (λ t. t ++ more) b.3)
begins_more (Some a) h more b = (b.0 ++ more, ap (λ t. t ++ more) b.1)

-- more happens on the link, by which it takes this
link_more : (k k' : Link) (h more : List LinkEvent) (bytes : List ℕ) → k'.to ≡ k.to → k'.sent.items ≡ k.sent.items ++ bytes → taken more ≡ bytes
    → IsLinkOf k h → IsLinkOf k' (h ++ more)
link_more k k' h more bytes to sent took is = record {
  begins = subst (λ (o : Option Authority). Begins o (h ++ more)) (sym to) (begins_more k.to h more is.begins);
  sent = sent ∙ ap (λ t. t ++ bytes) is.sent ∙ ap (λ t. taken h ++ t) (sym took) ∙ sym (taken_append h more);
}

-- a link that keeps what it is, and takes nothing
link_kept : (l place client : ℕ) (k : Link) (told : List Telling) (step : Step) (notes : List Note) → taken (history_by l step) ≡ []
    → IsLinkOf k (history l (steps_of k.owner told)) → IsLinkOf k (history l (steps_of k.owner (told ++ map (tells place) (step ∷ map (noting client) notes))))
link_kept l place client k told step notes none is = elim (same_or_not k.owner place) as (λ _. IsLinkOf k (history l (steps_of k.owner (told ++ map (tells place) (step ∷ map (noting client) notes))))) [
  | inr d ↦ rw (steps_other k.owner place told (step ∷ map (noting client) notes) d) is
  | inl e ↦ subst (λ (i : ℕ). IsLinkOf k (history l (steps_of i (told ++ map (tells place) (step ∷ map (noting client) notes))))) (sym e)
      (rw (steps_same place told (step ∷ map (noting client) notes)) (rw (history_append l (steps_of place told) (step ∷ map (noting client) notes))
      (link_more k k (history l (steps_of place told)) (history l (step ∷ map (noting client) notes)) [] refl (sym (append-nil k.sent.items)) (taken_did l client step notes ∙ none)
      (subst (λ (i : ℕ). IsLinkOf k (history l (steps_of i told))) e is))))
]

-- no link takes anything
pub links_kept : (place client : ℕ) (links : List Link) (told : List Telling) (step : Step) (notes : List Note) → ((l : ℕ) → taken (history_by l step) ≡ [])
    → AllLinks links told → AllLinks links (told ++ map (tells place) (step ∷ map (noting client) notes))
links_kept place client links told step notes none all = λ l k at. link_kept l place client k told step notes (none l) (all l k at)

-- this link takes these bytes
pub links_took : (link place client : ℕ) (bytes : List ℕ) (links new : List Link) (told : List Telling) (step : Step) (notes : List Note)
    → ((l : ℕ) → taken (history_by l step) ≡ only_if (l == link) bytes) → (t : TookOn link bytes links new) → t.before.owner ≡ place
    → AllLinks links told → AllLinks new (told ++ map (tells place) (step ∷ map (noting client) notes))
links_took link place client bytes links new told step notes took t owned all = λ l k at.
    let at' : slice_get (set links link t.after) l ≡ Some k = ap (λ xs. slice_get xs l) (sym t.links_are) ∙ at in
    elim (same_or_not l link) as (λ _. IsLinkOf k (history l (steps_of k.owner (told ++ map (tells place) (step ∷ map (noting client) notes))))) [
      | inr d ↦ link_kept l place client k told step notes (took l ∙ ap (λ b. only_if b bytes) (other_link l link d)) (all l k (sym (get_set_other links link l t.after d) ∙ at'))
      | inl e ↦ taker l k e at'
    ]
  where
    taker : (l : ℕ) (k : Link) → l ≡ link → slice_get (set links link t.after) l ≡ Some k
        → IsLinkOf k (history l (steps_of k.owner (told ++ map (tells place) (step ∷ map (noting client) notes))))
    taker l k e at' =
        let is : k ≡ t.after = get_set_same links link t.after k (ap (λ (i : ℕ). slice_get (set links link t.after) i) (sym e) ∙ at') in
        let own : k.owner ≡ place = ap (λ (x : Link). x.owner) is ∙ t.owner ∙ owned in
        let old : IsLinkOf t.before (history link (steps_of place told)) = subst (λ (i : ℕ). IsLinkOf t.before (history link (steps_of i told))) owned (all link t.before t.is_before) in
        let bytes_are : taken (history link (step ∷ map (noting client) notes)) ≡ bytes = taken_did link client step notes ∙ took link ∙ ap (λ b. only_if b bytes) (same_link link) in
        subst (λ (i : ℕ). IsLinkOf k (history i (steps_of k.owner (told ++ map (tells place) (step ∷ map (noting client) notes))))) (sym e)
        (subst (λ (i : ℕ). IsLinkOf k (history link (steps_of i (told ++ map (tells place) (step ∷ map (noting client) notes))))) (sym own)
        (subst (λ (x : Link). IsLinkOf x (history link (steps_of place (told ++ map (tells place) (step ∷ map (noting client) notes))))) (sym is)
        (rw (steps_same place told (step ∷ map (noting client) notes)) (rw (history_append link (steps_of place told) (step ∷ map (noting client) notes))
        (link_more t.before t.after (history link (steps_of place told)) (history link (step ∷ map (noting client) notes)) bytes t.to t.sent bytes_are old)))))

quiet_event : (b : Bool) (e : LinkEvent) → taken (e ∷ []) ≡ [] → taken (only_if b (e ∷ [])) ≡ []
quiet_event true e h = h
quiet_event false e h = refl

-- the next link is dialled
pub links_dialled : (place client : ℕ) (links new : List Link) (k' : Link) (to : Authority) (told : List Telling) (notes : List Note)
    → new ≡ links ++ k' ∷ [] → k'.owner ≡ place → k'.to ≡ Some to → k'.sent.items ≡ [] → length links ≢ client → IsNew (length links) (steps_of place told)
    → AllLinks links told → AllLinks new (told ++ map (tells place) (happened (length links) (dialled to.host to.port) ∷ map (noting client) notes))
links_dialled place client links new k' to told notes is owner to_is sent apart fresh all = λ l k at.
    elim (get_pushed links l k' k (ap (λ xs. slice_get xs l) (sym is) ∙ at)) as (λ _. IsLinkOf k (history l (steps_of k.owner (told ++ map (tells place) (happened (length links) (dialled to.host to.port) ∷ map (noting client) notes))))) [
      | inl h ↦ link_kept l place client k told (happened (length links) (dialled to.host to.port)) notes (quiet_event (l == length links) (dialled to.host to.port) refl) (all l k h)
      | inr h ↦ newest l k h.0 h.1
    ]
  where
    newest : (l : ℕ) (k : Link) → l ≡ length links → k ≡ k' → IsLinkOf k (history l (steps_of k.owner (told ++ map (tells place) (happened (length links) (dialled to.host to.port) ∷ map (noting client) notes))))
    newest l k e is' =
        let n : ℕ = length links in
        let step : Step = happened (length links) (dialled to.host to.port) in
        let all_of : history (length links) (steps_of place told ++ step ∷ map (noting client) notes) ≡ dialled to.host to.port ∷ [] =
        history_append (length links) (steps_of place told) (step ∷ map (noting client) notes) ∙ ap (λ t. t ++ history (length links) (step ∷ map (noting client) notes)) fresh.quiet
        ∙ history_did (length links) client step notes apart ∙ ap (λ b. only_if b (dialled to.host to.port ∷ [])) (same_link (length links)) in
        let own : k.owner ≡ place = ap (λ (x : Link). x.owner) is' ∙ owner in
        let to' : k.to ≡ Some to = ap (λ (x : Link). x.to) is' ∙ to_is in
        let sent' : k.sent.items ≡ [] = ap (λ (x : Link). x.sent.items) is' ∙ sent in
        subst (λ (i : ℕ). IsLinkOf k (history i (steps_of k.owner (told ++ map (tells place) (step ∷ map (noting client) notes))))) (sym e)
        (subst (λ (i : ℕ). IsLinkOf k (history (length links) (steps_of i (told ++ map (tells place) (step ∷ map (noting client) notes))))) (sym own)
        (rw (steps_same place told (step ∷ map (noting client) notes)) (rw all_of
        (record { begins = subst (λ (o : Option Authority). Begins o (dialled to.host to.port ∷ [])) (sym to') ([], refl); sent = sent' }))))

-- a client comes on the next link
pub links_came : (place : ℕ) (links new : List Link) (k' : Link) (entry : List ℕ) (peer : Ip) (told : List Telling)
    → new ≡ links ++ k' ∷ [] → k'.owner ≡ place → k'.to ≡ None → k'.sent.items ≡ [] → steps_of place told ≡ []
    → AllLinks links told → AllLinks new (told ++ map (tells place) (happened (length links) (came entry peer) ∷ map (noting (length links)) []))
links_came place links new k' entry peer told is owner to_is sent unborn all = λ l k at.
    elim (get_pushed links l k' k (ap (λ xs. slice_get xs l) (sym is) ∙ at)) as (λ _. IsLinkOf k (history l (steps_of k.owner (told ++ map (tells place) (happened (length links) (came entry peer) ∷ map (noting (length links)) []))))) [
      | inl h ↦ link_kept l place (length links) k told (happened (length links) (came entry peer)) [] (quiet_event (l == length links) (came entry peer) refl) (all l k h)
      | inr h ↦ newest l k h.0 h.1
    ]
  where
    newest : (l : ℕ) (k : Link) → l ≡ length links → k ≡ k' → IsLinkOf k (history l (steps_of k.owner (told ++ map (tells place) (happened (length links) (came entry peer) ∷ []))))
    newest l k e is' =
        let step : Step = happened (length links) (came entry peer) in
        let all_of : history (length links) (steps_of place told ++ step ∷ []) ≡ came entry peer ∷ [] =
        ap (λ t. history (length links) (t ++ step ∷ [])) unborn ∙ ap (λ b. only_if b (came entry peer ∷ []) ++ []) (same_link (length links)) in
        let own : k.owner ≡ place = ap (λ (x : Link). x.owner) is' ∙ owner in
        let to' : k.to ≡ None = ap (λ (x : Link). x.to) is' ∙ to_is in
        let sent' : k.sent.items ≡ [] = ap (λ (x : Link). x.sent.items) is' ∙ sent in
        subst (λ (i : ℕ). IsLinkOf k (history i (steps_of k.owner (told ++ map (tells place) (step ∷ []))))) (sym e)
        (subst (λ (i : ℕ). IsLinkOf k (history (length links) (steps_of i (told ++ map (tells place) (step ∷ []))))) (sym own)
        (rw (steps_same place told (step ∷ [])) (rw all_of
        (record { begins = subst (λ (o : Option Authority). Begins o (came entry peer ∷ [])) (sym to') (entry, peer, [], refl); sent = sent' }))))
