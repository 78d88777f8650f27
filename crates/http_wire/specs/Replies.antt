-- What is taken of a backend's reply.
use Rattle.std.specs.Prelude.{◌≡◌, ◌≢◌, ℕ, ◌==◌, Bool, not, ◌&&◌, ◌||◌, List, codes, if◌then◌else◌, nat_le}
use Rattle.std.specs.List.{filter}
use Rattle.body_codec.specs.declared.Framing.{Framing}
use Rattle.body_codec.specs.declared.Framing.TheVariants as framing
use Rattle.head_view.specs.Lines.{Line as Field, has_name}
use Rattle.http_wire.specs.Fields.{is_same, goes_on}
use Rattle.http_wire.specs.Framing.{lengths_of, encodings_of, framing_by, HasBadLength, HasBothLengths, HasBadCoding, IsFramed}
use Rattle.http_wire.specs.declared.message.Reply.{Reply}
use Rattle.http_wire.specs.declared.replies.ReplyFault.{ReplyFault}
use Rattle.http_wire.specs.declared.replies.ReplyFault.TheVariants as fault
use Rattle.http_wire.specs.declared.replies.ReplyRefused.{ReplyRefused}
use Rattle.http_wire.specs.declared.replies.ReplyRefused.TheVariants as refused

-- an interim reply, which isn't the answer to a request: 1xx, but for 101 (RFC 9110 section 15.2)
abbrev pub is_interim : ℕ → Bool
is_interim status = nat_le 100 status && nat_le status 199 && not (status == 101)

abbrev pub is_head : List ℕ → Bool
is_head method = is_same method (codes "HEAD")

-- a reply without a body, whatever its fields say (RFC 9112 section 6.3)
abbrev pub has_no_body : List ℕ → ℕ → Bool
has_no_body method status = is_head method || status == 204 || status == 304

-- whether its length is told though there is no body: that of the reply to another request (RFC 9110 section 8.6)
abbrev pub tells_length : List ℕ → ℕ → Bool
tells_length method status = is_head method || status == 304

abbrev pub is_kept : Bool → List Field → Field → Bool
is_kept tells fields f = goes_on fields f && (tells || not (has_name (codes "Content-Length") f))

abbrev pub reply_framing_of : List ℕ → ℕ → List Field → Framing
reply_framing_of method status fields =
    if has_no_body method status then framing.None
    else framing_by (encodings_of fields) (lengths_of fields) framing.ToEnd

-- the reply has this status, this reason and, of these fields, those that go on
pub record IsReplyOf (method : List ℕ) (status : ℕ) (reason : List ℕ) (fields : List Field) (a : Reply) : Type 0 where
  pub status_is : a.status ≡ status
  pub reason_is : a.reason ≡ reason
  pub lines_are : a.lines ≡ filter (is_kept (tells_length method status) fields) fields
  pub framing_is : a.framing ≡ reply_framing_of method status fields

-- the fault is the first whose condition holds; a switch of protocols comes before the others, and a bad head
-- has no spans
abbrev pub IsReplyFault : ℕ → ℕ → List Field → ReplyFault → Type 0
IsReplyFault version status fields fault.BadHead = ⊥
IsReplyFault version status fields fault.Switch = status ≡ 101
IsReplyFault version status fields fault.BadLength = (status ≢ 101) × HasBadLength fields
IsReplyFault version status fields fault.BothLengths =
    (status ≢ 101) × (¬ (HasBadLength fields)) × HasBothLengths version fields
IsReplyFault version status fields fault.BadCoding =
    (status ≢ 101) × (¬ (HasBadLength fields)) × (¬ (HasBothLengths version fields)) × HasBadCoding fields

-- no condition of a fault holds
abbrev pub HasNoFault : ℕ → ℕ → List Field → Type 0
HasNoFault version status fields = (status ≢ 101) × IsFramed version fields

-- P of the fault; none where memory ran out
abbrev pub IfRefused : (ReplyFault → Type 0) → Type 0 → ReplyRefused → Type 0
IfRefused P none (refused.Reply fault) = P fault
IfRefused P none refused.Memory = none
