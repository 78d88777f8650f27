-- How a client's whole valid requests are cut: in one way.
use Rattle.std.proofs.Common.{◌≡◌, ℕ, suc, ◌+◌, ◌<◌, ◌≤◌, List, [], ◌∷◌, ◌++◌, length, refl, sym, ◌∙◌, ap, subst, inl, inr, arith, false}
use Rattle.std.specs.Prelude.{◌==◌, cond}
use Rattle.std.specs.List.{flat_map, AllByRecursion}
use Rattle.std.proofs.lemmas.Bool.{cases_lt}
use Rattle.std.proofs.lemmas.List.{append-nil, append_assoc, length-append}
use Rattle.std.proofs.lemmas.List.Sums.{sum_by-append}
use Rattle.httparse.specs.Grammar.{RequestHead, ReadsRequest, NeverHasRequest, print_request, print_blank, MayBecomeRequest}
use Rattle.httparse.proofs.OpenLemmas.{line_blank, request_may_from_line}
use Rattle.httparse.proofs.GrammarLemmas.{request_unique, print_request-append}
use Rattle.ip_net.specs.declared.ip.Ip.{Ip}
use Rattle.head_view.specs.Lines.{line_feeds}
use Rattle.head_view.specs.Scans.{HasHead}
use Rattle.http_wire.specs.Replies.{is_head}
use Rattle.http_wire.specs.Requests.{IsHeadFault}
use Rattle.http_wire.specs.declared.message.Request.{Request}
use Rattle.http_wire.specs.declared.requests.HeadFault.{HeadFault}
use Rattle.http_wire.specs.declared.requests.HeadFault.TheVariants as fault
use Rattle.conversation.specs.Asks.{Ask, asks, faulty, unserved, broken, large, IsHead, IsItem, IsServed, Makes, fields_of, line_limit}
use Rattle.conversation.specs.Turns.{Turn}
use Rattle.conversation.specs.Steps.{Step}
use Rattle.conversation.specs.Served.{item_of, IsAnswered}
use Rattle.conversation.specs.Complete.{IsRequest, joined, bytes_of, IsAsking}

-- bytes that stand at the front of equal bytes: one of the two goes on into the other
front : (a b x y : List ℕ) → a ++ x ≡ b ++ y → length a ≤ length b → (more : List ℕ) × (b ≡ a ++ more)
front [] b x y is le = (b, refl)
front (h ∷ a) [] x y is le = absurd (no le)
  where
    no : suc (length a) ≤ 0 → ⊥
    no le = omega arith
front (h ∷ a) (k ∷ b) x y is le =
    let head : h ≡ k = cc in
    let tail : a ++ x ≡ b ++ y = cc in
    let rest = front a b x y tail (omega (arith, le)) in
    (rest.0, let e : b ≡ a ++ rest.0 = rest.1 in cc)

feeds_le : (a more : List ℕ) → line_feeds a ≤ line_feeds (a ++ more)
feeds_le a more = let e : line_feeds (a ++ more) ≡ line_feeds a + line_feeds more = sum_by-append (λ (b : ℕ). cond (b == 10) 1 0) a more in omega (arith, e)

-- a valid head has no fault
faultless : (peer : Ip) (h : RequestHead) (r : Request) (f : HeadFault) → Makes peer h r → IsHeadFault h.method h.target h.minor (fields_of h) f → ⊥
faultless peer h r fault.BadHead m is = is
faultless peer h r fault.NoHost m is = m.0.hosted.0 is
faultless peer h r fault.TwoHosts m is = m.0.hosted.1 is.1
faultless peer h r fault.BadLength m is = m.0.framed.0 is.1
faultless peer h r fault.BothLengths m is = m.0.framed.1 is.2
faultless peer h r fault.BadCoding m is = m.0.framed.2 is.3
faultless peer h r fault.BadTarget m is = m.0.target_taken is.2
faultless peer h r fault.BadEscape m is = is.1 m.1

-- a served request and another one of the same head
served_too : (peer : Ip) (h : RequestHead) (r s : Request) → Makes peer h r → Makes peer h s → IsServed r → IsServed s
served_too peer h r s a b is = record {
  bodiless = b.2.framing_is ∙ sym a.2.framing_is ∙ is.bodiless;
  whole = subst (λ (m : List ℕ). is_head m ≡ false) (a.2.method_is ∙ sym b.2.method_is) is.whole;
}

reads_on : {item : List ℕ} {h : RequestHead} (more : List ℕ) → IsHead item h → ReadsRequest (item ++ more) h more
reads_on {item} {h} more head = (head.reads.0, ap (λ (l : List ℕ). l ++ more) (head.reads.1 ∙ append-nil (print_request h)))

-- equal bytes begin with one head
same_head : {h k : RequestHead} (item more first rest : List ℕ) → IsHead item h → IsHead first k → item ++ more ≡ first ++ rest → (h ≡ k) × (more ≡ rest) × (item ≡ first)
same_head {h} {k} item more first rest a b is =
    let one : ReadsRequest (item ++ more) h more = reads_on more a in
    let two : ReadsRequest (item ++ more) k rest = subst (λ (l : List ℕ). ReadsRequest l k rest) (sym is) (reads_on rest b) in
    let same = request_unique (item ++ more) h k more rest one two in
    (same.0, same.1, a.reads.1 ∙ ap (λ (x : RequestHead). print_request x ++ []) same.0 ∙ sym b.reads.1)

-- no request is cut short for its size
not_large : (peer : Ip) (item more first rest : List ℕ) → IsRequest peer first → IsItem peer item large → item ++ more ≡ first ++ rest → ⊥
not_large peer item more first rest q is same = elim (cases_lt (length item) (length first)) [
  | inl lt ↦ shorter (front item first more rest same (omega (arith, lt)))
  | inr le ↦ longer (front first item rest more (sym same) le)
]
  where
    h : RequestHead
    h = q.valid.0

    head : IsHead first h
    head = q.valid.1

    longer : (y : List ℕ) × (item ≡ first ++ y) → ⊥
    longer (y, e) = is.0 (h, y, subst (λ (l : List ℕ). ReadsRequest l h y) (sym e) (reads_on y head), head.few)

    shorter : (y : List ℕ) × (first ≡ item ++ y) → ⊥
    shorter (y, e) = elim is.2 [
      | inl full ↦
          let b : length first ≤ 16384 = head.short in
          let c : length item ≡ 16384 = full in
          longer (front first item rest more (sym same) (omega (arith, b, c)))
      | inr many ↦
          let a : line_feeds first ≤ 100 = q.few in
          let b : line_feeds item ≤ line_feeds first = subst (λ (l : List ℕ). line_feeds item ≤ line_feeds l) (sym e) (feeds_le item y) in
          let c : 100 < line_feeds item = many in
          omega (arith, a, b, c)
    ]

-- what is cut off the front of whole valid requests is the first of them
pub first_cut : (peer : Ip) (item more : List ℕ) (ask : Ask) (first rest : List ℕ) → IsRequest peer first → IsItem peer item ask → item ++ more ≡ first ++ rest
    → (item ≡ first) × (more ≡ rest) × ((r : Request) × (ask ≡ asks r))
first_cut peer item more (asks r) first rest q is same =
    let s = same_head item more first rest is.1 q.valid.1 same in (s.2, s.1, (r, refl))
first_cut peer item more (faulty f) first rest q is same =
    let s = same_head item more first rest is.1 q.valid.1 same in
    absurd (faultless peer q.valid.0 q.request f q.valid.2 (subst (λ (h : RequestHead). IsHeadFault h.method h.target h.minor (fields_of h) f) s.0 is.2))
first_cut peer item more (unserved r) first rest q is same =
    let s = same_head item more first rest is.1 q.valid.1 same in
    absurd (is.3 (served_too peer q.valid.0 q.request r q.valid.2 (subst (λ (h : RequestHead). Makes peer h r) s.0 is.2) q.valid.3))
first_cut peer item more broken first rest q is same =
    absurd (is more q.valid.0 rest (subst (λ (l : List ℕ). ReadsRequest l q.valid.0 rest) (sym same) (reads_on rest q.valid.1)))
first_cut peer item more large first rest q is same = absurd (not_large peer item more first rest q is same)

nil_not : (xs ys zs : List ℕ) (b : ℕ) → [] ≡ xs ++ (ys ++ b ∷ zs) → ⊥
nil_not xs ys zs b e =
    let l : length {A = ℕ} [] ≡ length (xs ++ (ys ++ b ∷ zs)) = ap (length {A = ℕ}) e in
    let x : length (xs ++ (ys ++ b ∷ zs)) ≡ length xs + length (ys ++ b ∷ zs) = length-append xs (ys ++ b ∷ zs) in
    let y : length (ys ++ b ∷ zs) ≡ length ys + length (b ∷ zs) = length-append ys (b ∷ zs) in
    omega arith

no_head_in_nil : (h : RequestHead) (rest : List ℕ) → [] ≡ print_request h ++ rest → ⊥
no_head_in_nil h rest e = nil_not _ _ _ _ (e ∙ print_request-append h rest)

nil_may : MayBecomeRequest []
nil_may = request_may_from_line (inl (line_blank (record { more = []; tree = []; reads = λ rest. refl })))

not_never : NeverHasRequest [] → MayBecomeRequest [] → ⊥
not_never never (inl m) = never m.0 m.1 [] m.2
not_never never (inr (blank, method, target, a, b, is)) = nil_not (print_blank blank) method target 32 (is ∙ append_assoc (print_blank blank) method (32 ∷ target))

-- no bytes are no request
none_cut : (peer : Ip) (ask : Ask) → IsItem peer [] ask → ⊥
none_cut peer (asks r) is = no_head_in_nil is.0 [] is.1.reads.1
none_cut peer (faulty f) is = no_head_in_nil is.0 [] is.1.reads.1
none_cut peer (unserved r) is = no_head_in_nil is.0 [] is.1.reads.1
none_cut peer broken is = not_never is nil_may
none_cut peer large is = elim is.2 [ inl full ↦ (let e : 0 ≡ 16384 = full in omega (arith, e)) | inr many ↦ (let e : 100 < 0 = many in omega (arith, e)) ]

nil_front : (xs ys : List ℕ) → xs ++ ys ≡ [] → xs ≡ []
nil_front [] ys is = refl
nil_front (x ∷ xs) ys is = cc

-- The client's whole valid requests, cut into these requests and a rest: the requests are the first of them, and the
-- rest are the others.
pub record IsCut (peer : Ip) (done : List Turn) (rest : List ℕ) (items : List (List ℕ)) : Type 0 where
  pub later : List (List ℕ)
  pub order : items ≡ flat_map bytes_of done ++ later
  pub rest_is : rest ≡ joined later
  pub asking : AllByRecursion IsAsking done
  pub requests : AllByRecursion (IsRequest peer) later

pub cut_all : (steps : List Step) (entry : List ℕ) (peer : Ip) (done : List Turn) (rest : List ℕ) (items : List (List ℕ)) → AllByRecursion (IsAnswered steps entry peer) done → AllByRecursion (IsRequest peer) items → flat_map item_of done ++ rest ≡ joined items → IsCut peer done rest items
cut_all steps entry peer [] rest items answered q is = record { later = items; order = refl; rest_is = is; asking = tt; requests = q }
cut_all steps entry peer (t ∷ done) rest [] answered q is =
    let none : t.item ≡ [] = nil_front t.item (flat_map item_of done ++ rest) (sym (append_assoc t.item (flat_map item_of done) rest) ∙ is) in
    absurd (none_cut peer t.ask (subst (λ (l : List ℕ). IsItem peer l t.ask) none answered.0.item))
cut_all steps entry peer (t ∷ done) rest (i ∷ items) answered q is =
    let f = first_cut peer t.item (flat_map item_of done ++ rest) t.ask i (joined items) q.0 answered.0.item (sym (append_assoc t.item (flat_map item_of done) rest) ∙ is) in
    let c = cut_all steps entry peer done rest items answered.1 q.1 f.1 in
    record {
      later = c.later;
      order = (let a : t.item ≡ i = f.0 in let b : items ≡ flat_map bytes_of done ++ c.later = c.order in cc);
      rest_is = c.rest_is;
      asking = (f.2, c.asking);
      requests = c.requests;
    }

-- where a part of a head follows the requests, they are all
pub none_later : (peer : Ip) (later : List (List ℕ)) → AllByRecursion (IsRequest peer) later → (HasHead line_limit (joined later) → ⊥) → later ≡ []
none_later peer [] q none = refl
none_later peer (i ∷ later) q none =
    absurd (none (q.0.valid.0, joined later, reads_on (joined later) q.0.valid.1, q.0.valid.1.few))
