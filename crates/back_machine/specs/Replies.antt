-- What of a backend's bytes is its reply (RFC 9112 sections 2 to 6): the head, and the content behind it.
use Rattle.std.specs.Prelude.{◌≡◌, ℕ, ◌<◌, ◌≤◌, List, ◌++◌, length, map, take, drop, ⊤}
use Rattle.httparse.specs.Grammar.{ResponseHead, print_response, ReadsResponse, HasNoResponse, MayBecomeResponse, status_code, reason_phrase}
use Rattle.httparse.specs.Spans.{name_and_value}
use Rattle.body_codec.specs.declared.Framing.{Framing}
use Rattle.body_codec.specs.declared.Framing.TheVariants as framing
use Rattle.head_view.specs.Lines.{Line as Field}
use Rattle.http_wire.specs.Framing.{IsFramed}
use Rattle.http_wire.specs.Replies.{reply_framing_of, IsReplyOf}
use Rattle.http_wire.specs.declared.message.Reply.{Reply}

-- the most bytes of a head
abbrev pub head_limit : ℕ
head_limit = 16384

-- the most field lines of a head
abbrev pub line_limit : ℕ
line_limit = 100

-- the most bytes of content
abbrev pub content_limit : ℕ
content_limit = 1048576

-- the names and the values of a head
abbrev pub fields_of : ResponseHead → List Field
fields_of h = map name_and_value h.fields

abbrev pub framing_in : List ℕ → ResponseHead → Framing
framing_in method h = reply_framing_of method (status_code h) (fields_of h)

-- the body is none, or one of a told length within the limit
abbrev pub IsTakenFraming : Framing → Type 0
IsTakenFraming framing.None = ⊤
IsTakenFraming (framing.Length n) = n ≤ content_limit
IsTakenFraming framing.Chunked = ⊥
IsTakenFraming framing.ToEnd = ⊥

-- the head is a valid answer to a request of this method: within the limits, final, framed without a fault, by a
-- framing that is taken
pub record IsValid (method : List ℕ) (h : ResponseHead) : Type 0 where
  pub short : length (print_response h) ≤ head_limit
  pub few : length h.fields ≤ line_limit
  pub final : 200 ≤ status_code h
  pub known : status_code h ≤ 599
  pub sound : IsFramed h.minor (fields_of h)
  pub framed : IsTakenFraming (framing_in method h)

-- the first n bytes are a valid head, and this is its reply
pub record IsReplyAt (method gave : List ℕ) (reply : Reply) (n : ℕ) : Type 0 where
  pub head : ResponseHead
  pub reads : ReadsResponse gave head (drop n gave)
  pub length_is : n ≡ length (print_response head)
  pub valid : IsValid method head
  pub reply_is : IsReplyOf method (status_code head) (reason_phrase head.reason) (fields_of head) reply

-- no valid head stands at the front
abbrev pub HasNoReplyYet : List ℕ → List ℕ → Type 0
HasNoReplyYet method gave = (h : ResponseHead) (rest : List ℕ) → ReadsResponse gave h rest → ¬ (IsValid method h)

-- and none will, whatever bytes follow
abbrev pub HasNoReply : List ℕ → List ℕ → Type 0
HasNoReply method gave = (more : List ℕ) → HasNoReplyYet method (gave ++ more)

-- a head is begun: it isn't whole, bytes can follow that make it so, and it has room for them
pub record IsBegun (gave : List ℕ) : Type 0 where
  pub unfinished : HasNoResponse gave
  pub continues : MayBecomeResponse gave
  pub room : length gave < head_limit

-- how many bytes of content there are
abbrev pub content_length : Framing → ℕ
content_length framing.None = 0
content_length (framing.Length n) = n
content_length framing.Chunked = 0
content_length framing.ToEnd = 0

-- what has come of the content behind a head of n bytes
abbrev pub content_in : Reply → ℕ → List ℕ → List ℕ
content_in reply n gave = take (content_length reply.framing) (drop n gave)

-- the bytes begin with the head of this reply, and this is what has come of its content
pub record HasReply (method gave : List ℕ) (reply : Reply) (content : List ℕ) : Type 0 where
  pub head : ℕ
  pub at : IsReplyAt method gave reply head
  pub content_is : content ≡ content_in reply head gave

-- this is all of its content
abbrev pub IsWhole : Reply → List ℕ → Type 0
IsWhole reply content = length content ≡ content_length reply.framing

-- some of its content is missing
abbrev pub IsShort : Reply → List ℕ → Type 0
IsShort reply content = length content < content_length reply.framing
