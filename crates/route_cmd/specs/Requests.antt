-- A request head as the input of `route`.
use Rattle.std.specs.Prelude.{◌≡◌, ◌≢◌, ℕ, ◌⊎◌, List, [], ◌++◌, map, codes, Option, Some, None}
use Rattle.httparse.specs.Grammar.{RequestHead}
use Rattle.httparse.specs.Spans.{name_and_value}
use Rattle.path_norm.specs.Escapes.{HasWholeEscapes}
use Rattle.ip_net.specs.declared.ip.Ip.{Ip}
use Rattle.head_view.specs.Lines.{Line as Field, values_of}
use Rattle.http_wire.specs.Framing.{lengths_of, encodings_of}
use Rattle.http_wire.specs.Targets.{path_of, host_of_rules}
use Rattle.http_wire.specs.Requests.{IsSound, IsHeadFault, IsRequestOf}
use Rattle.http_wire.specs.declared.message.Request.{Request}
use Rattle.http_wire.specs.declared.requests.HeadFault.{HeadFault}
use Rattle.http_wire.specs.declared.requests.HeadFault.TheVariants as fault
use Rattle.rule_eval.specs.Pairs.{query_pairs}
use Rattle.rule_eval.specs.Truth.{Asked}

abbrev pub fields_of : RequestHead → List Field
fields_of h = map name_and_value h.fields

-- the first fault of the head
abbrev pub HasFault : RequestHead → HeadFault → Type 0
HasFault h f = IsHeadFault h.method h.target h.minor (fields_of h) f

-- it has none
abbrev pub IsFaultless : RequestHead → Type 0
IsFaultless h = IsSound h.method h.target h.minor (fields_of h) × HasWholeEscapes (path_of h.target)

-- a head of a kind that isn't routed yet: with a length or codings of a body, with `Connection`, of version 1.0, or a HEAD
abbrev pub IsLater : RequestHead → Type 0
IsLater h =
    (lengths_of (fields_of h) ≢ []) ⊎ (encodings_of (fields_of h) ≢ []) ⊎ (values_of (codes "Connection") (fields_of h) ≢ [])
    ⊎ (h.minor ≡ 0) ⊎ (h.method ≡ codes "HEAD")

-- the query's bytes, which a target without one hasn't got
abbrev pub query_bytes : Option (List ℕ) → List ℕ
query_bytes None = []
query_bytes (Some q) = q

-- the request that the head makes, of the client with this address
abbrev pub IsTaken : RequestHead → Ip → Request → Type 0
IsTaken h peer q = IsRequestOf h.method h.target h.minor (fields_of h) peer q

-- what rules are asked of the request of this head: of its lines as they were received
abbrev pub asked_by : RequestHead → Request → Asked
asked_by h q = record {
  method = q.method;
  host = host_of_rules q.host;
  path = q.path;
  pairs = query_pairs (query_bytes q.query);
  lines = fields_of h;
}

-- the name of a fault
abbrev pub head_fault_name : HeadFault → List ℕ
head_fault_name fault.BadHead = codes "BadHead"
head_fault_name fault.NoHost = codes "NoHost"
head_fault_name fault.TwoHosts = codes "TwoHosts"
head_fault_name fault.BadLength = codes "BadLength"
head_fault_name fault.BothLengths = codes "BothLengths"
head_fault_name fault.BadCoding = codes "BadCoding"
head_fault_name fault.BadTarget = codes "BadTarget"
head_fault_name fault.BadEscape = codes "BadEscape"

-- the text of a request's fault
abbrev pub request_text : List ℕ → List ℕ
request_text name = codes "request " ++ name
