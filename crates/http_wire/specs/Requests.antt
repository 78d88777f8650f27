-- What is taken of a client's request.
use Rattle.std.specs.Prelude.{◌≡◌, ◌≢◌, ℕ, ◌<◌, ◌==◌, Bool, false, IsTrue, not, ◌&&◌, ◌||◌, List, [], ◌∷◌, ◌++◌, length, take, codes, Result, MatchResult, nat_le}
use Rattle.std.specs.List.{filter}
use Rattle.std.specs.Str.{str_eq_ignore_ascii_case}
use Rattle.ip_net.specs.declared.ip.Ip.{Ip}
use Rattle.ip_net.specs.Texts.{ip_print}
use Rattle.path_norm.specs.Escapes.{HasWholeEscapes}
use Rattle.path_norm.specs.Normal.{Normalises}
use Rattle.body_codec.specs.declared.Framing.{Framing}
use Rattle.body_codec.specs.declared.Framing.TheVariants as framing
use Rattle.head_view.specs.Lines.{Line as Field, has_name, values_of}
use Rattle.http_wire.specs.Fields.{goes_on, is_listed}
use Rattle.http_wire.specs.Framing.{lengths_of, encodings_of, framing_by, HasBadLength, HasBothLengths, HasBadCoding, IsFramed}
use Rattle.http_wire.specs.Targets.{host_text_of, path_of, query_of, port_of, is_bad_target}
use Rattle.http_wire.specs.declared.message.Request.{Request}
use Rattle.http_wire.specs.declared.requests.HeadFault.{HeadFault}
use Rattle.http_wire.specs.declared.requests.HeadFault.TheVariants as fault
use Rattle.http_wire.specs.declared.requests.RequestRefused.{RequestRefused}
use Rattle.http_wire.specs.declared.requests.RequestRefused.TheVariants as refused

-- the values of the `Host` lines
abbrev pub hosts_of : List Field → List (List ℕ)
hosts_of fields = values_of (codes "Host") fields

-- the first of these, or the empty text
abbrev pub first_or_empty : List (List ℕ) → List ℕ
first_or_empty [] = []
first_or_empty (v ∷ _) = v

-- the host text of a head with this target
abbrev pub host_in : List ℕ → List Field → List ℕ
host_in target fields = host_text_of target (first_or_empty (hosts_of fields))

abbrev pub HasNoHost : ℕ → List Field → Type 0
HasNoHost version fields = (version ≡ 1) × (hosts_of fields ≡ [])

abbrev pub HasTwoHosts : List Field → Type 0
HasTwoHosts fields = 1 < length (hosts_of fields)

abbrev pub IsHosted : ℕ → List Field → Type 0
IsHosted version fields = (¬ (HasNoHost version fields)) × (¬ (HasTwoHosts fields))

-- the name begins with `X-Forwarded-`, without case
abbrev pub is_forwarded : List ℕ → Bool
is_forwarded name = nat_le 12 (length name) && str_eq_ignore_ascii_case (take 12 name) (codes "X-Forwarded-")

-- a field that the proxy writes itself, or answers
abbrev pub is_replaced : Field → Bool
is_replaced f = has_name (codes "Host") f || has_name (codes "Content-Length") f || has_name (codes "Expect") f
    || has_name (codes "X-Real-Ip") f || is_forwarded f.0

abbrev pub goes_to_backend : List Field → Field → Bool
goes_to_backend fields f = goes_on fields f && not (is_replaced f)

-- what the proxy says of a client with this address, which asked for this host
abbrev pub told_fields : List ℕ → List ℕ → List Field
told_fields address host =
    (codes "X-Forwarded-For", address) ∷ (codes "X-Forwarded-Host", host) ∷ (codes "X-Forwarded-Port", port_of host)
    ∷ (codes "X-Forwarded-Proto", codes "http") ∷ (codes "X-Real-Ip", address) ∷ []

abbrev pub lines_for_backend : Ip → List ℕ → List Field → List Field
lines_for_backend peer host fields = filter (goes_to_backend fields) fields ++ told_fields (ip_print peer) host

-- the connection may go on: version 1.1 without the option `close` (RFC 9112 section 9.3)
abbrev pub keeps : ℕ → List Field → Bool
keeps version fields = version == 1 && not (is_listed fields (codes "close"))

-- the request that a head with this method, target, version and fields makes
pub record IsRequestOf (method target : List ℕ) (version : ℕ) (fields : List Field) (peer : Ip) (r : Request) : Type 0 where
  pub method_is : r.method ≡ method
  pub host_is : r.host ≡ host_in target fields
  pub path_is : Normalises (path_of target) r.path
  pub query_is : r.query ≡ query_of target
  pub lines_are : r.lines ≡ lines_for_backend peer (host_in target fields) fields
  pub framing_is : r.framing ≡ framing_by (encodings_of fields) (lengths_of fields) framing.None
  pub version_is : r.version ≡ version
  pub keep_is : r.keep ≡ keeps version fields

abbrev pub IsBadTarget : List ℕ → List ℕ → List Field → Type 0
IsBadTarget method target fields = IsTrue (is_bad_target method target (host_in target fields))

-- no fault but perhaps a bad escape
pub record IsSound (method target : List ℕ) (version : ℕ) (fields : List Field) : Type 0 where
  pub hosted : IsHosted version fields
  pub framed : IsFramed version fields
  pub target_taken : ¬ (IsBadTarget method target fields)

-- the fault is the first whose condition holds; a bad head has no spans
abbrev pub IsHeadFault : List ℕ → List ℕ → ℕ → List Field → HeadFault → Type 0
IsHeadFault method target version fields fault.BadHead = ⊥
IsHeadFault method target version fields fault.NoHost = HasNoHost version fields
IsHeadFault method target version fields fault.TwoHosts = (¬ (HasNoHost version fields)) × HasTwoHosts fields
IsHeadFault method target version fields fault.BadLength = IsHosted version fields × HasBadLength fields
IsHeadFault method target version fields fault.BothLengths =
    IsHosted version fields × (¬ (HasBadLength fields)) × HasBothLengths version fields
IsHeadFault method target version fields fault.BadCoding =
    IsHosted version fields × (¬ (HasBadLength fields)) × (¬ (HasBothLengths version fields)) × HasBadCoding fields
IsHeadFault method target version fields fault.BadTarget =
    IsHosted version fields × IsFramed version fields × IsBadTarget method target fields
IsHeadFault method target version fields fault.BadEscape =
    IsSound method target version fields × (¬ (HasWholeEscapes (path_of target)))

-- P of the fault, and Q where memory ran out
abbrev pub IfRefusedHead : (HeadFault → Type 0) → Type 0 → RequestRefused → Type 0
IfRefusedHead P Q (refused.Head f) = P f
IfRefusedHead P Q refused.Memory = Q

-- what is made of a head with this method, target, version and fields: its request, or the first fault
abbrev pub TakesRequest : List ℕ → List ℕ → ℕ → List Field → Ip → Result Request RequestRefused → Type 0
TakesRequest method target version fields peer result =
    MatchResult result
    (λ r. IsSound method target version fields × HasWholeEscapes (path_of target) × IsRequestOf method target version fields peer r)
    (IfRefusedHead (IsHeadFault method target version fields) (IsSound method target version fields))
