-- Heads at the front of bytes that go on.
use Rattle.std.proofs.Common.{◌≡◌, ℕ, ◌<◌, ◌≤◌, inl, inr, List, [], ◌∷◌, ◌++◌, length, take, drop, refl, sym, ap, ◌∙◌, subst, arith, append_assoc, length-append, None}
use Rattle.std.proofs.lemmas.Bool.{cases_lt}
use Rattle.std.proofs.lemmas.List.{take-append-le, drop-append-le, take-append-drop, append-nil, length-take, length-map}
use Rattle.std.proofs.lemmas.List.Elements.{All-nil, All-cons}
use Rattle.std.proofs.Math.Seq.{take-append_seam}
use Rattle.std.specs.Char.{is_ascii_digit}
use Rattle.std.specs.Prelude.{IsTrue}
use Rattle.httparse.specs.Grammar.{ResponseHead, print_response, ReadsResponse, HasNoResponse, IsResponseHead, lf, status_code, reason_phrase, print_blank, print_version, print_reason, print_end, print_section}
use Rattle.httparse.specs.Spans.{ResponseOverflows, IsResponseAt, span_bytes, header_bytes, name_and_value}
use Rattle.httparse.proofs.GrammarLemmas.{response_unique, response_prefix_free, ReadsResponse-append, print_response-append}
use Rattle.httparse.specs.declared.spans.HeaderSpan.{HeaderSpan}
use Rattle.httparse.specs.declared.spans.ResponseSpans.{ResponseSpans}
use Rattle.body_codec.specs.declared.Framing.{Framing}
use Rattle.head_view.specs.Lines.{Line as Field, lines_at}
use Rattle.head_view.specs.Replies.{IsHeadAt}
use Rattle.head_view.specs.declared.reply.ReplySpans.{ReplySpans}
use Rattle.http_wire.specs.Framing.{IsFramed}
use Rattle.http_wire.specs.Replies.{IsReplyOf, IsReplyFault}
use Rattle.http_wire.specs.declared.message.Reply.{Reply}
use Rattle.http_wire.specs.declared.replies.ReplyFault.{ReplyFault}
use Rattle.http_wire.specs.declared.replies.ReplyFault.TheVariants as fault
use Rattle.back_machine.specs.Replies.{fields_of, IsTakenFraming, IsValid, IsReplyAt, HasNoReplyYet, HasNoReply, IsBegun}

-- what stands at the front of both parts, and fits into the first, stands at its front
pub front_stays : (p r a b : List ℕ) → a ++ b ≡ p ++ r → length p ≤ length a → a ≡ p ++ drop (length p) a
front_stays p r a b e within =
    let cut : take (length p) a ≡ p = sym (take-append-le (length p) a b within) ∙ ap (take (length p)) e ∙ take-append_seam p r in
    sym (take-append-drop (length p) a) ∙ ap (λ xs. xs ++ drop (length p) a) cut

-- a head that isn't whole is longer than what has come of it
pub longer : (a b : List ℕ) (h : ResponseHead) (rest : List ℕ) → HasNoResponse a → ReadsResponse (a ++ b) h rest
    → length a < length (print_response h)
longer a b h rest none reads =
    elim (cases_lt (length a) (length (print_response h))) [
      | inl more ↦ more
      | inr within ↦ absurd (none h (drop (length (print_response h)) a) (reads.0, front_stays (print_response h) rest a b reads.1 within))
    ]

-- a head that isn't whole where it has no more room
pub full : (method gave : List ℕ) → HasNoResponse gave → 16384 ≤ length gave → HasNoReply method gave
full method gave none long = λ more h rest reads valid. omega (arith, longer gave more h rest none reads, long, valid.short)

-- a head with too many lines
pub overfull : (method gave : List ℕ) → ResponseOverflows 100 gave → HasNoReply method gave
overfull method gave over = λ more h rest reads valid. omega (arith, over more h rest reads, valid.few)

-- a whole head that isn't valid
pub invalid : (method gave : List ℕ) (h : ResponseHead) (rest : List ℕ) → ReadsResponse gave h rest
    → (IsValid method h → ⊥) → HasNoReply method gave
invalid method gave h rest reads bad = λ more k r again valid.
    bad (subst (IsValid method) (sym (response_prefix_free gave more h k rest r reads again).0) valid)

-- what never is a reply never is one with more
pub never_more : (method gave more : List ℕ) → HasNoReply method gave → HasNoReply method (gave ++ more)
never_more method gave more never = λ m. subst (HasNoReplyYet method) (sym (append_assoc gave more m)) (never (more ++ m))

pub not_yet : (method gave : List ℕ) → HasNoReply method gave → HasNoReplyYet method gave
not_yet method gave never = subst (HasNoReplyYet method) (append-nil gave) (never [])

-- a head lies in its bytes
pub head_within : (method gave : List ℕ) (a : Reply) (n : ℕ) → IsReplyAt method gave a n → n ≤ length gave
head_within method gave a n at =
    omega (arith, at.length_is, ap length at.reads.1, length-append (print_response at.head) (drop n gave))

pub reply_stays : (method gave more : List ℕ) (a : Reply) (n : ℕ) → IsReplyAt method gave a n → IsReplyAt method (gave ++ more) a n
reply_stays method gave more a n at = record {
  head = at.head;
  reads = subst (ReadsResponse (gave ++ more) at.head) (sym (drop-append-le n gave more (head_within method gave a n at))) (ReadsResponse-append gave at.head (drop n gave) more at.reads);
  length_is = at.length_is;
  valid = at.valid;
  reply_is = at.reply_is;
}

abbrev make : ℕ → List ℕ → List Field → Framing → Reply
make status reason lines framing = record { status = status; reason = reason; lines = lines; framing = framing }

-- a head has one reply
same_reply : (method : List ℕ) (status : ℕ) (reason : List ℕ) (fields : List Field) (a b : Reply)
    → IsReplyOf method status reason fields a → IsReplyOf method status reason fields b → a ≡ b
same_reply method status reason fields a b x y =
    ap (λ s. make s a.reason a.lines a.framing) (x.status_is ∙ sym y.status_is)
    ∙ ap (λ r. make b.status r a.lines a.framing) (x.reason_is ∙ sym y.reason_is)
    ∙ ap (λ ls. make b.status b.reason ls a.framing) (x.lines_are ∙ sym y.lines_are)
    ∙ ap (λ f. make b.status b.reason b.lines f) (x.framing_is ∙ sym y.framing_is)

-- bytes begin with one reply at most
pub one_reply : (method gave : List ℕ) (a b : Reply) (n m : ℕ) → IsReplyAt method gave a n → IsReplyAt method gave b m
    → (a ≡ b) × (n ≡ m)
one_reply method gave a b n m x y =
    let same = (response_unique gave x.head y.head (drop n gave) (drop m gave) x.reads y.reads).0 in (
      same_reply method (status_code y.head) (reason_phrase y.head.reason) (fields_of y.head) a b
          (subst (λ h. IsReplyOf method (status_code h) (reason_phrase h.reason) (fields_of h) a) same x.reply_is) y.reply_is,
      x.length_is ∙ ap (λ h. length (print_response h)) same ∙ sym y.length_is,
    )

-- a fault, which isn't a switch of protocols, is one of the framing
pub faulty : (version status : ℕ) (fields : List Field) (f : ReplyFault) → IsReplyFault version status fields f → 200 ≤ status
    → IsFramed version fields → ⊥
faulty version status fields fault.BadHead x final framed = x
faulty version status fields fault.Switch x final framed = omega (arith, x, final)
faulty version status fields fault.BadLength x final framed = framed.0 x.1
faulty version status fields fault.BothLengths x final framed = framed.1 x.2
faulty version status fields fault.BadCoding x final framed = framed.2 x.3

-- the head that a scan found, and what makes it invalid
pub found_invalid : (method gave : List ℕ) (lines : List HeaderSpan) (s : ReplySpans) (h : ResponseHead)
    → IsHeadAt gave lines s h → (IsValid method h → ⊥) → HasNoReply method gave
found_invalid method gave lines s h at bad = invalid method gave h (drop s.len gave) at.reads bad

-- no more fields than there is room
pub few_fields : (gave : List ℕ) (lines : List HeaderSpan) (s : ResponseSpans) (h : ResponseHead) (room : ℕ) → IsResponseAt gave lines s h
    → length lines ≡ room → room ≤ 100 → length h.fields ≤ 100
few_fields gave lines s h room at is most =
    omega (arith, is, most, ap length at.fields, length-map (take s.headers lines) (header_bytes gave), length-map h.fields name_and_value, length-take s.headers lines)

-- the fields of the head that a scan found
fields_found : (gave : List ℕ) (lines : List HeaderSpan) (s : ReplySpans) (h : ResponseHead) → IsHeadAt gave lines s h
    → lines_at gave (take s.lines lines) ≡ fields_of h
fields_found gave lines s h at = at.fields

-- the head that a scan found, and its reply
pub found_reply : (method gave : List ℕ) (lines : List HeaderSpan) (s : ReplySpans) (h : ResponseHead) (reply : Reply)
    → IsHeadAt gave lines s h → length h.fields ≤ 100 → s.len ≤ 16384 → 200 ≤ s.status → s.status ≤ 599
    → IsFramed s.version (lines_at gave (take s.lines lines))
    → IsReplyOf method s.status (span_bytes gave s.reason) (lines_at gave (take s.lines lines)) reply
    → IsTakenFraming reply.framing → IsReplyAt method gave reply s.len
found_reply method gave lines s h reply at few short final known framed of taken =
    let fields = fields_found gave lines s h at in
    let of_fields = subst (λ fs. IsReplyOf method s.status (span_bytes gave s.reason) fs reply) fields of in
    let of_status = subst (λ status. IsReplyOf method status (span_bytes gave s.reason) (fields_of h) reply) at.code of_fields in
    let of_head = subst (λ reason. IsReplyOf method (status_code h) reason (fields_of h) reply) at.reason of_status in
    record {
      head = h;
      reads = at.reads;
      length_is = at.len;
      valid = record {
        short = omega (arith, short, at.len);
        few = few;
        final = omega (arith, final, at.code);
        known = omega (arith, known, at.code);
        sound = subst (λ version. IsFramed version (fields_of h)) at.version (subst (IsFramed s.version) fields framed);
        framed = subst IsTakenFraming of_head.framing_is taken;
      };
      reply_is = of_head;
    }

-- its framing isn't taken
pub found_untaken : (method gave : List ℕ) (lines : List HeaderSpan) (s : ReplySpans) (h : ResponseHead) (reply : Reply)
    → IsHeadAt gave lines s h
    → IsReplyOf method s.status (span_bytes gave s.reason) (lines_at gave (take s.lines lines)) reply
    → (IsTakenFraming reply.framing → ⊥) → HasNoReply method gave
found_untaken method gave lines s h reply at of untaken =
    let of_fields = subst (λ fs. IsReplyOf method s.status (span_bytes gave s.reason) fs reply) (fields_found gave lines s h at) of in
    let of_head = subst (λ status. IsReplyOf method status (span_bytes gave s.reason) (fields_of h) reply) at.code of_fields in
    found_invalid method gave lines s h at (λ valid. untaken (subst IsTakenFraming (sym of_head.framing_is) valid.framed))

-- it has a fault
pub found_faulty : (method gave : List ℕ) (lines : List HeaderSpan) (s : ReplySpans) (h : ResponseHead) (f : ReplyFault)
    → IsHeadAt gave lines s h → 200 ≤ s.status → IsReplyFault s.version s.status (lines_at gave (take s.lines lines)) f
    → HasNoReply method gave
found_faulty method gave lines s h f at final is =
    let fault = subst (λ fs. IsReplyFault s.version s.status fs f) (fields_found gave lines s h at) is in
    found_invalid method gave lines s h at (λ valid.
    faulty s.version s.status (fields_of h) f fault final (subst (λ version. IsFramed version (fields_of h)) (sym at.version) valid.sound))

-- it is too long
pub found_long : (method gave : List ℕ) (lines : List HeaderSpan) (s : ReplySpans) (h : ResponseHead)
    → IsHeadAt gave lines s h → 16384 < s.len → HasNoReply method gave
found_long method gave lines s h at long = found_invalid method gave lines s h at (λ valid. omega (arith, long, at.len, valid.short))

-- it is no final reply
pub found_early : (method gave : List ℕ) (lines : List HeaderSpan) (s : ReplySpans) (h : ResponseHead)
    → IsHeadAt gave lines s h → s.status < 200 → HasNoReply method gave
found_early method gave lines s h at early = found_invalid method gave lines s h at (λ valid. omega (arith, early, at.code, valid.final))

pub found_unknown : (method gave : List ℕ) (lines : List HeaderSpan) (s : ReplySpans) (h : ResponseHead)
    → IsHeadAt gave lines s h → 599 < s.status → HasNoReply method gave
found_unknown method gave lines s h at over = found_invalid method gave lines s h at (λ valid. omega (arith, over, at.code, valid.known))

abbrev digit : ℕ → Type 0
digit b = IsTrue (is_ascii_digit b)

-- the least head
abbrev least : ResponseHead
least = record { blank = []; minor = 1; digits = 50 ∷ 48 ∷ 48 ∷ []; reason = None; line_end = lf; fields = []; last = lf }

least_is_head : IsResponseHead least
least_is_head = record {
  minor = omega arith;
  digits = (refl, All-cons digit 50 (48 ∷ 48 ∷ []) refl (All-cons digit 48 (48 ∷ []) refl (All-cons digit 48 [] refl (All-nil digit))));
  reason = All-nil _;
  fields = All-nil _;
}

some_bytes : (a b : List ℕ) → 0 < length b → [] ≡ a ++ b → ⊥
some_bytes a b some e = omega (arith, some, ap length e, length-append a b)

none_empty : (h : ResponseHead) (rest : List ℕ) → [] ≡ print_response h ++ rest → ⊥
none_empty h rest e =
    let more = h.digits ++ (print_reason h.reason ++ (print_end h.line_end ++ (print_section h.fields h.last ++ rest))) in
    some_bytes (print_blank h.blank) (print_version h.minor ++ 32 ∷ more)
    (omega (arith, length-append (print_version h.minor) (32 ∷ more))) (e ∙ print_response-append h rest)

-- no bytes begin a head
pub begun_empty : IsBegun []
begun_empty = record {
  unfinished = λ h rest reads. none_empty h rest reads.1;
  continues = (print_response least, least, (least_is_head, sym (append-nil (print_response least))));
  room = omega arith;
}
