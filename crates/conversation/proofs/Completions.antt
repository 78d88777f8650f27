-- A connection whose links did what they should.
use Rattle.std.proofs.Common.{◌≡◌, ◌≢◌, ℕ, ◌<◌, List, [], ◌∷◌, ◌++◌, length, Option, Some, None, refl, sym, ◌∙◌, ap, subst, inl, inr, arith}
use Rattle.std.specs.List.{flat_map, AllByRecursion}
use Rattle.std.proofs.lemmas.List.{append-nil, append_assoc}
use Rattle.ip_net.specs.declared.ip.Ip.{Ip}
use Rattle.head_view.specs.Scans.{HasHead}
use Rattle.http_wire.specs.declared.message.Reply.{Reply}
use Rattle.back_machine.specs.Replies.{HasReply, HasNoReplyYet, IsShort, content_length, content_in}
use Rattle.back_machine.proofs.ReplyLemmas.{one_reply}
use Rattle.link_world.specs.Log.{given}
use Rattle.link_world.specs.declared.note.EndCause.{EndCause}
use Rattle.link_world.specs.declared.note.EndCause.TheVariants.{Client, ClientFailed, Asked, Refused, Unread, Idle, Count, Cut, CutLate, Stopped, Memory}
use Rattle.conversation.specs.Plans.{Plan}
use Rattle.conversation.specs.Steps.{Step, history}
use Rattle.conversation.specs.Asks.{line_limit}
use Rattle.conversation.specs.Turns.{Turn, HasWholeReply}
use Rattle.conversation.specs.Served.{of_all, of_last, item_of, notes_of, IfLast, IsAnswered, IsCutBy, EndedWithin, EndHolds, end_note, Served}
use Rattle.conversation.specs.Complete.{IsRequest, joined, GaveRequests, bytes_of, IsUnanswered, IsLast, IsAsking, IsLastDone, IsOver, IsComplete}
use Rattle.conversation.proofs.Cuttings.{cut_all, none_later}

same_content : (method gave : List ℕ) (a b : Reply) (x y : List ℕ) → HasReply method gave a x → HasReply method gave b y → (a ≡ b) × (x ≡ y)
same_content method gave a b x y p q =
    let same = one_reply method gave a b p.head q.head p.at q.at in
    (same.0, p.content_is ∙ ap (λ (r : Reply). content_in r p.head gave) same.0 ∙ ap (λ (n : ℕ). content_in b n gave) same.1 ∙ sym q.content_is)

-- a reply that is whole isn't short of content
pub whole_not_short : (method gave : List ℕ) (a : Reply) (content : List ℕ) → HasReply method gave a content → IsShort a content → HasWholeReply method gave → ⊥
whole_not_short method gave a content p short (b, y, q, whole) =
    let same = same_content method gave a b content y p q in
    let n : length content ≡ content_length a.framing = ap (length {A = ℕ}) same.1 ∙ whole ∙ ap (λ (r : Reply). content_length r.framing) (sym same.0) in
    let m : length content < content_length a.framing = short in
    omega (arith, n, m)

-- and there is one
pub whole_not_none : (method gave : List ℕ) → HasNoReplyYet method gave → HasWholeReply method gave → ⊥
whole_not_none method gave none (b, y, q, whole) = none q.at.head _ q.at.reads q.at.valid

-- all is cut
pub record IsCutAll (peer : Ip) (done : List Turn) (last : Option Turn) (rest : List ℕ) (items : List (List ℕ)) : Type 0 where
  pub later : List (List ℕ)
  pub order : items ≡ of_all bytes_of done last ++ later
  pub rest_is : rest ≡ joined later
  pub requests : AllByRecursion (IsRequest peer) later
  pub asking : AllByRecursion IsAsking done × IfLast IsAsking last

pub cut_last : (steps : List Step) (entry : List ℕ) (peer : Ip) (done : List Turn) (last : Option Turn) (rest : List ℕ) (items : List (List ℕ)) → AllByRecursion (IsAnswered steps entry peer) done → IfLast (IsAnswered steps entry peer) last
    → AllByRecursion (IsRequest peer) items → of_all item_of done last ++ rest ≡ joined items → IsCutAll peer done last rest items
cut_last steps entry peer done None rest items answered one q is =
    let c = cut_all steps entry peer done rest items answered q (ap (λ (l : List ℕ). l ++ rest) (sym (append-nil (flat_map item_of done))) ∙ is) in
    record { later = c.later; order = c.order ∙ ap (λ (l : List (List ℕ)). l ++ c.later) (sym (append-nil (flat_map bytes_of done))); rest_is = c.rest_is; requests = c.requests; asking = (c.asking, tt) }
cut_last steps entry peer done (Some t) rest items answered one q is =
    let c = cut_all steps entry peer done (t.item ++ rest) items answered q (sym (append_assoc (flat_map item_of done) t.item rest) ∙ is) in
    let d = cut_all steps entry peer (t ∷ []) rest c.later (one, tt) c.requests (ap (λ (l : List ℕ). l ++ rest) (append-nil t.item) ∙ c.rest_is) in
    let whole : items ≡ (flat_map bytes_of done ++ t.item ∷ []) ++ d.later = c.order ∙ ap (λ (l : List (List ℕ)). flat_map bytes_of done ++ l) d.order ∙ sym (append_assoc (flat_map bytes_of done) (t.item ∷ []) d.later) in
    record {
      later = d.later;
      order = whole;
      rest_is = d.rest_is;
      requests = d.requests;
      asking = (c.asking, d.asking.0);
    }

-- a connection that was served: it ended by itself
pub served_complete : {plans : List Plan} {link : ℕ} {entry : List ℕ} {peer : Ip} {steps : List Step} {failed stopped : Type 0} (items : List (List ℕ)) (s : Served plans link entry peer steps failed stopped)
    → GaveRequests peer link steps items → s.cause ≢ Stopped → s.cause ≢ Memory → IsComplete s.cause ⊥ failed link entry peer steps items
served_complete {plans} {link} {entry} {peer} {steps} {failed} {stopped} items s fair not_stopped not_memory = by s.cause refl s.ending
  where
    cut : IsCutAll peer s.done s.last s.rest items
    cut = cut_last steps entry peer s.done s.last s.rest items s.answered.0 s.answered.1 fair.requests (sym s.reads ∙ fair.gave)

    made : (cause : EndCause) → IsOver cause ⊥ failed (EndedWithin (history link steps) s.done) s.done s.last cut.later s.left → IsComplete cause ⊥ failed link entry peer steps items
    made cause ending = record {
      done = s.done;
      last = s.last;
      later = cut.later;
      left = s.left;
      order = cut.order;
      asking = cut.asking;
      answered = s.answered;
      whole = s.whole;
      spells = s.spells;
      covers = s.covers;
      noted = (of_last (notes_of link) s.last ++ end_note link s.cause ∷ [], s.noted ∙ append_assoc (flat_map (notes_of link) s.done) (of_last (notes_of link) s.last) (end_note link s.cause ∷ []));
      ending = ending;
    }

    over : (cause : EndCause) → s.left ≡ [] → s.last ≡ None → IsLastDone cause (EndedWithin (history link steps) s.done) s.done cut.later → IsComplete cause ⊥ failed link entry peer steps items
    over cause left last ending = made cause (inl (last, left, ending))

    unanswered : (l : ℕ) (last : Option Turn) → IfLast (IsCutBy l) last → last ≢ None → IsLast IsUnanswered last
    unanswered l None is some = absurd (some refl)
    unanswered l (Some t) is some = (t, refl, (is.request, is.back, is.asked, is.back_is, whole_not_short is.request.method (given is.back.events) is.answer is.content is.came is.short))

    by : (cause : EndCause) → s.cause ≡ cause → EndHolds cause (history link steps) s.done s.last s.rest s.left failed stopped → IsComplete cause ⊥ failed link entry peer steps items
    by Client is (ended, left, last, kept, inl part) =
        over Client left last (inl (none_later peer cut.later cut.requests (λ (h : HasHead line_limit (joined cut.later)). part.unfinished (subst (HasHead line_limit) (sym cut.rest_is) h))))
    by Client is (ended, left, last, kept, inr some) = over Client left last (inr (inr (refl, some)))
    by ClientFailed is h = made ClientFailed (inr (inl (refl, h)))
    by Asked is (left, last, after) = over Asked left last (inr (inl after))
    by Refused is (left, last, after) = over Refused left last (inr (inl after))
    by Unread is h = absurd h
    by (Idle base now) is h = absurd h
    by Count is (left, last, after) = over Count left last (inr (inl after))
    by (Cut l) is h = made (Cut l) (inr (inr (inr (tt, unanswered l s.last h.0 h.1))))
    by (CutLate base now) is h = absurd h
    by Stopped is h = absurd (not_stopped is)
    by Memory is h = absurd (not_memory is)
