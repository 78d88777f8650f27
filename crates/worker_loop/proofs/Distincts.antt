-- No two requests name one link.
use Rattle.std.proofs.Common.{◌≡◌, ◌≢◌, ◌⊎◌, ℕ, ◌==◌, List, [], ◌∷◌, ◌++◌, Option, Some, None, refl, sym, ◌∙◌, ap, subst, inl, inr, arith, Bool, true, false}
use Rattle.std.specs.List.{flat_map, AllByRecursion, Contains}
use Rattle.std.proofs.lemmas.Bool.{cases_eq}
use Rattle.std.proofs.lemmas.List.{append-nil, append_assoc}
use Rattle.std.proofs.lemmas.List.Concat.{flat_map-append}
use Rattle.std.proofs.lemmas.List.Elements.{All-contains, All-from_recursion, Contains-append_left, Contains-append_right, Contains-append_cases}
use Rattle.ip_net.specs.declared.ip.Ip.{Ip}
use Rattle.link_world.specs.declared.note.Note.{Note}
use Rattle.link_world.specs.Log.{Event, waited, wait_failed, clock, on, failed as fault, closed, asked, only_if, history_of, notes, note_by}
use Rattle.conversation.specs.Steps.{Step, history, IsNew}
use Rattle.conversation.specs.Turns.{Turn, BackLink, links_of, IsLinkTold}
use Rattle.conversation.specs.Served.{of_last, of_all, backs_of, notes_of, IfLast, IsAnswered, AreDistinct}
use Rattle.conn_machine.specs.Reached.{Reached, closed_by, ending_note}
use Rattle.conn_machine.specs.declared.parts.Phase.{Phase}
use Rattle.conn_machine.specs.declared.parts.Phase.TheVariants.{Open, Broken, Over, Told}
use Rattle.conn_machine.specs.declared.conn.Conn.{Conn}
use Rattle.conn_service.proofs.Lists.{same_link, other_link, none_front, none_back, no_elements, all_front, all_both}
use Rattle.worker_loop.specs.Named.{links_by, named}
use Rattle.worker_loop.proofs.Ownings.{one_of, links_noted}

distinct_front : (xs ys : List ℕ) → AreDistinct (xs ++ ys) → AreDistinct xs
distinct_front [] ys d = tt
distinct_front (x ∷ xs) ys d = (all_front (λ (m : ℕ). m ≢ x) xs ys d.0, distinct_front xs ys d.1)

distinct_back : (xs ys : List ℕ) → AreDistinct (xs ++ ys) → AreDistinct ys
distinct_back [] ys d = d
distinct_back (x ∷ xs) ys d = distinct_back xs ys d.1

-- one number isn't in both parts
distinct_apart : (xs ys : List ℕ) (l : ℕ) → AreDistinct (xs ++ ys) → Contains xs l → Contains ys l → ⊥
distinct_apart [] ys l d h k = no_elements l h
distinct_apart (x ∷ xs) ys l d h k = by (λ more. distinct_apart xs ys l d.1 more k) (Contains-append_cases (x ∷ []) xs l h)
  where
    by : (Contains xs l → ⊥) → Contains (x ∷ []) l ⊎ Contains xs l → ⊥
    by rest (inl one) = All-contains (λ (m : ℕ). m ≢ x) (xs ++ ys) l (All-from_recursion (λ (m : ℕ). m ≢ x) (xs ++ ys) d.0) (Contains-append_right xs ys l k) (one_of x l one)
    by rest (inr more) = rest more

distinct_both : (xs ys : List ℕ) → AreDistinct xs → AreDistinct ys → ((l : ℕ) → Contains xs l → Contains ys l → ⊥) → AreDistinct (xs ++ ys)
distinct_both [] ys d e apart = e
distinct_both (x ∷ xs) ys d e apart = (
  all_both (λ (m : ℕ). m ≢ x) xs ys d.0 (others ys (λ l h is. apart x (0, omega arith, refl) (subst (Contains ys) is h))),
  distinct_both xs ys d.1 e (λ l h k. apart l (Contains-append_right (x ∷ []) xs l h) k),
)
  where
    others : (zs : List ℕ) → ((l : ℕ) → Contains zs l → l ≡ x → ⊥) → AllByRecursion (λ (m : ℕ). m ≢ x) zs
    others [] f = tt
    others (z ∷ zs) f = ((λ (is : z ≡ x). f z (0, omega arith, refl) is), others zs (λ l h. f l (Contains-append_right (z ∷ []) zs l h)))

-- where notes stand on one link alone, they are all
pub named_on : (link : ℕ) (ran : List Event) → ((l : ℕ) → l ≢ link → notes (history_of l ran) ≡ []) → named ran ≡ flat_map links_by (notes (history_of link ran))
named_on link [] alone = refl
named_on link (waited until ∷ ran) alone = named_on link ran alone
named_on link (wait_failed until ∷ ran) alone = named_on link ran alone
named_on link (clock now ∷ ran) alone = named_on link ran alone
named_on link (fault m stamp ∷ ran) alone = named_on link ran alone
named_on link (closed m stamp ∷ ran) alone = named_on link ran alone
named_on link (asked answer ∷ ran) alone = named_on link ran alone
named_on link (on m stamp e ∷ ran) alone = by (named_on link ran (λ l ne. later l (l == m) (alone l ne))) (cases_eq m link)
  where
    -- the notes of a link in what follows
    later : (l : ℕ) (b : Bool) → notes (only_if b (e ∷ []) ++ history_of l ran) ≡ [] → notes (history_of l ran) ≡ []
    later l true none = none_back (note_by e) (notes (history_of l ran)) none
    later l false none = none

    by : named ran ≡ flat_map links_by (notes (history_of link ran)) → (m ≡ link) ⊎ (m ≢ link) → named (on m stamp e ∷ ran) ≡ flat_map links_by (notes (history_of link (on m stamp e ∷ ran)))
    by rest (inl is) =
        let same : (link == m) ≡ true = subst (λ (n : ℕ). (link == n) ≡ true) (sym is) (same_link link) in
        ap (λ (ls : List ℕ). flat_map links_by (note_by e) ++ ls) rest
        ∙ sym (flat_map-append links_by (note_by e) (notes (history_of link ran)))
        ∙ sym (ap (λ (b : Bool). flat_map links_by (notes (only_if b (e ∷ []) ++ history_of link ran))) same)
    by rest (inr ne) =
        let other : (link == m) ≡ false = other_link link m (λ is. ne (sym is)) in
        let here : notes (e ∷ history_of m ran) ≡ [] = subst (λ (b : Bool). notes (only_if b (e ∷ []) ++ history_of m ran) ≡ []) (same_link m) (alone m ne) in
        let none : note_by e ≡ [] = none_front (note_by e) (notes (history_of m ran)) here in
        ap (λ (ns : List Note). flat_map links_by ns ++ named ran) none
        ∙ rest
        ∙ sym (ap (λ (b : Bool). flat_map links_by (notes (only_if b (e ∷ []) ++ history_of link ran))) other)

pub named_mute : (ran : List Event) → ((l : ℕ) → notes (history_of l ran) ≡ []) → named ran ≡ []
named_mute ran mute = named_on 0 ran (λ l ne. mute l) ∙ ap (λ (ns : List Note). flat_map links_by ns) (mute 0)

-- the links of the notes that were told or wait are those of the requests, but for the last one's
links_closed : (pinned : Bool) (link : ℕ) (last : Option Turn) → (more : List ℕ) × (of_last backs_of last ≡ flat_map links_by (closed_by pinned link last) ++ more)
links_closed true link last = (of_last backs_of last, refl)
links_closed false link None = ([], refl)
links_closed false link (Some t) = ([], sym (append-nil (links_of t.back ++ []) ∙ append-nil (links_of t.back)))

links_ending : (link : ℕ) (p : Phase) → flat_map links_by (ending_note link p) ≡ []
links_ending link Open = refl
links_ending link Broken = refl
links_ending link (Over cause) = refl
links_ending link (Told cause) = refl

-- the links that are named are the first of those of the requests
links_first : {steps : List Step} {d : Conn} (r : Reached steps d) → (more : List ℕ) × (of_all backs_of r.done r.last ≡ flat_map links_by (notes (history d.client.link steps)) ++ more)
links_first {steps} {d} r = (flat_map links_by d.notes.items ++ tail.0, ap (λ (ls : List ℕ). flat_map backs_of r.done ++ ls) tail.1 ∙ whole)
  where
    link : ℕ
    link = d.client.link

    front : List Note
    front = flat_map (notes_of link) r.done

    last : List Note
    last = closed_by d.current.pinned link r.last

    tail : (more : List ℕ) × (of_last backs_of r.last ≡ flat_map links_by last ++ more)
    tail = links_closed d.current.pinned link r.last

    noted : flat_map links_by front ++ flat_map links_by last ≡ flat_map links_by (notes (history link steps)) ++ flat_map links_by d.notes.items
    noted = sym (flat_map-append links_by front last)
        ∙ sym (append-nil (flat_map links_by (front ++ last)))
        ∙ ap (λ (ls : List ℕ). flat_map links_by (front ++ last) ++ ls) (sym (links_ending link d.phase))
        ∙ sym (flat_map-append links_by (front ++ last) (ending_note link d.phase))
        ∙ ap (λ (ns : List Note). flat_map links_by ns) (sym r.kept.holds.noted)
        ∙ flat_map-append links_by (notes (history link steps)) d.notes.items

    whole : flat_map backs_of r.done ++ (flat_map links_by last ++ tail.0) ≡ flat_map links_by (notes (history link steps)) ++ (flat_map links_by d.notes.items ++ tail.0)
    whole = ap (λ (ls : List ℕ). ls ++ (flat_map links_by last ++ tail.0)) (sym (links_noted link r.done))
        ∙ sym (append_assoc (flat_map links_by front) (flat_map links_by last) tail.0)
        ∙ ap (λ (ls : List ℕ). ls ++ tail.0) noted
        ∙ append_assoc (flat_map links_by (notes (history link steps))) (flat_map links_by d.notes.items) tail.0

-- no two requests of a connection name one link
pub names_distinct : {steps : List Step} {d : Conn} → Reached steps d → AreDistinct (flat_map links_by (notes (history d.client.link steps)))
names_distinct {steps} {d} r = let f = links_first r in
    distinct_front (flat_map links_by (notes (history d.client.link steps))) f.0 (subst AreDistinct f.1 r.kept.holds.own)

link_told : (steps : List Step) (back : Option BackLink) (l : ℕ) → IsLinkTold steps back → Contains (links_of back) l → IsNew l steps → ⊥
link_told steps None l told h new = no_elements l h
link_told steps (Some b) l told h new =
    let at : l ≡ b.link = one_of b.link l h in
    let e = ap (λ (n : ℕ). history n steps) at ∙ told.events ∙ told.opened in
    let none = new.quiet in
    let f : ⊥ = cc in f

links_told : (steps : List Step) (entry : List ℕ) (peer : Ip) (ts : List Turn) (l : ℕ) → AllByRecursion (IsAnswered steps entry peer) ts → Contains (flat_map backs_of ts) l → IsNew l steps → ⊥
links_told steps entry peer [] l all h new = no_elements l h
links_told steps entry peer (t ∷ ts) l all h new = by (λ more. links_told steps entry peer ts l all.1 more new) (Contains-append_cases (links_of t.back) (flat_map backs_of ts) l h)
  where
    by : (Contains (flat_map backs_of ts) l → ⊥) → Contains (links_of t.back) l ⊎ Contains (flat_map backs_of ts) l → ⊥
    by rest (inl one) = link_told steps t.back l all.0.shown one new
    by rest (inr more) = rest more

last_told : (steps : List Step) (entry : List ℕ) (peer : Ip) (last : Option Turn) (l : ℕ) → IfLast (IsAnswered steps entry peer) last → Contains (of_last backs_of last) l → IsNew l steps → ⊥
last_told steps entry peer None l one h new = no_elements l h
last_told steps entry peer (Some t) l one h new = link_told steps t.back l one.shown h new

-- of a link that is named the machine was told
pub names_told : {steps : List Step} {d : Conn} → Reached steps d → (l : ℕ) → Contains (flat_map links_by (notes (history d.client.link steps))) l → IsNew l steps → ⊥
names_told {steps} {d} r l h new = by (Contains-append_cases (flat_map backs_of r.done) (of_last backs_of r.last) l
    (let f = links_first r in subst (λ (ls : List ℕ). Contains ls l) (sym f.1) (Contains-append_left (flat_map links_by (notes (history d.client.link steps))) f.0 l h)))
  where
    by : Contains (flat_map backs_of r.done) l ⊎ Contains (of_last backs_of r.last) l → ⊥
    by (inl done) = links_told steps d.client.entry d.client.peer r.done l r.kept.sound.all done new
    by (inr last) = last_told steps d.client.entry d.client.peer r.last l r.kept.sound.one last new

-- what is named first and then, and by others before, is named once
pub names_both : (old first then_ : List ℕ) → AreDistinct old → AreDistinct (first ++ then_) → ((l : ℕ) → Contains old l → Contains then_ l → ⊥) → AreDistinct (old ++ then_)
names_both old first then_ d e apart = distinct_both old then_ d (distinct_back first then_ e) apart

pub names_once : (first then_ : List ℕ) (l : ℕ) → AreDistinct (first ++ then_) → Contains first l → Contains then_ l → ⊥
names_once first then_ l d h k = distinct_apart first then_ l d h k
