-- What a client asks for: how its bytes are cut into requests.
use Rattle.std.specs.Prelude.{◌≡◌, ℕ, ◌≤◌, ◌<◌, ◌⊎◌, false, List, [], length, map, Option, Some, None, Ok}
use Rattle.ip_net.specs.declared.ip.Ip.{Ip}
use Rattle.httparse.specs.Grammar.{RequestHead, ReadsRequest, NeverHasRequest}
use Rattle.httparse.specs.Spans.{name_and_value}
use Rattle.body_codec.specs.declared.Framing.TheVariants as framing
use Rattle.head_view.specs.Lines.{Line as Field, line_feeds}
use Rattle.head_view.specs.Scans.{HasHead}
use Rattle.http_wire.specs.Replies.{is_head}
use Rattle.http_wire.specs.Targets.{host_of_rules}
use Rattle.http_wire.specs.Requests.{TakesRequest, IsHeadFault}
use Rattle.http_wire.specs.declared.message.Request.{Request}
use Rattle.http_wire.specs.declared.requests.HeadFault.{HeadFault}
use Rattle.http_wire.specs.declared.requests.HeadFault.TheVariants as fault
use Rattle.link_world.specs.declared.note.Cause.{Cause}
use Rattle.link_world.specs.declared.note.Cause.TheVariants.{Head, HeadTooLarge}
use Rattle.link_world.specs.declared.note.HeadName.{HeadName}
use Rattle.link_world.specs.declared.note.HeadName.TheVariants as name
use Rattle.rule_eval.specs.Pairs.{query_pairs}
use Rattle.rule_eval.specs.Truth.{Asked}

-- what one request asks for
pub data Ask : Type 0 where
  asks : Request → Ask
  -- a head with this fault
  faulty : HeadFault → Ask
  -- a head of a kind that isn't served yet
  unserved : Request → Ask
  -- bytes that no head begins with
  broken : Ask
  -- a head over the limits
  large : Ask

-- the most bytes of a head, and the most lines
abbrev pub head_limit : ℕ
head_limit = 16384

abbrev pub line_limit : ℕ
line_limit = 100

-- the bytes are one head within the limits
pub record IsHead (item : List ℕ) (h : RequestHead) : Type 0 where
  pub reads : ReadsRequest item h []
  pub short : length item ≤ head_limit
  pub few : length h.fields ≤ line_limit

abbrev pub fields_of : RequestHead → List Field
fields_of h = map name_and_value h.fields

-- the head makes this request
abbrev pub Makes : Ip → RequestHead → Request → Type 0
Makes peer h r = TakesRequest h.method h.target h.minor (fields_of h) peer (Ok r)

-- the query's bytes, which a target without one hasn't got
abbrev pub query_bytes : Option (List ℕ) → List ℕ
query_bytes None = []
query_bytes (Some q) = q

-- what rules are asked of this request, whose head is this one: the head's own method and lines
abbrev pub judged : RequestHead → Request → Asked
judged h r = record { method = h.method; host = host_of_rules r.host; path = r.path; pairs = query_pairs (query_bytes r.query); lines = fields_of h }

-- a request without a body that isn't a HEAD
pub record IsServed (r : Request) : Type 0 where
  pub bodiless : r.framing ≡ framing.None
  pub whole : is_head r.method ≡ false

-- the bytes are one request, as the client with this address gave it
abbrev pub IsItem : Ip → List ℕ → Ask → Type 0
IsItem peer item (asks r) = (h : RequestHead) × IsHead item h × Makes peer h r × IsServed r
IsItem peer item (faulty f) = (h : RequestHead) × IsHead item h × IsHeadFault h.method h.target h.minor (fields_of h) f
IsItem peer item (unserved r) = (h : RequestHead) × IsHead item h × Makes peer h r × (¬ (IsServed r))
IsItem peer item broken = NeverHasRequest item
IsItem peer item large =
    (¬ (HasHead line_limit item)) × (length item ≤ head_limit) × ((length item ≡ head_limit) ⊎ (line_limit < line_feeds item))

-- the name of a fault, and its status
abbrev pub name_of : HeadFault → HeadName
name_of fault.BadHead = name.BadHead
name_of fault.NoHost = name.NoHost
name_of fault.TwoHosts = name.TwoHosts
name_of fault.BadLength = name.BadLength
name_of fault.BothLengths = name.BothLengths
name_of fault.BadCoding = name.BadCoding
name_of fault.BadTarget = name.BadTarget
name_of fault.BadEscape = name.BadEscape

abbrev pub status_of : HeadFault → ℕ
status_of fault.BadHead = 400
status_of fault.NoHost = 400
status_of fault.TwoHosts = 400
status_of fault.BadLength = 400
status_of fault.BothLengths = 400
status_of fault.BadCoding = 501
status_of fault.BadTarget = 400
status_of fault.BadEscape = 400

-- the status and the cause by which it is refused, where it is
abbrev pub refusal : Ask → Option (ℕ × Cause)
refusal (asks r) = None
refusal (faulty f) = Some (status_of f, Head (name_of f))
refusal (unserved r) = Some (501, Head name.BadCoding)
refusal broken = Some (400, Head name.BadHead)
refusal large = Some (431, HeadTooLarge)
