-- What each middleware does to a request and to a reply.
use Rattle.std.specs.Prelude.{◌≡◌, ℕ, ℤ, pos, negsuc, ◌==◌, nat_lt, Bool, true, false, List, ◌++◌, codes, drop, length, fold, find, nat_eq, Any, Option, Some, None, if◌then◌else◌}
use Rattle.std.specs.List.{starts_with}
use Rattle.dyn_config.specs.declared.middleware.MiddlewareDef.{MiddlewareDef}
use Rattle.dyn_config.specs.declared.middleware.MiddlewareDef.TheVariants.{AddPrefix, StripPrefix, ReplacePath, ReplacePathRegex, Headers, IpAllowList, Chain, Buffering, RedirectScheme, RedirectRegex, Unsupported}
use Rattle.body_codec.specs.declared.reading.Framing.{Framing}
use Rattle.body_codec.specs.declared.reading.Framing.TheVariants as framing
use Rattle.head_view.specs.Lines.{Line as Field, has_name}
use Rattle.http_wire.specs.Edits.{set_in, without}
use Rattle.http_wire.specs.declared.message.Reply.{Reply}
use Rattle.http_wire.specs.declared.message.Request.{Request}
use Rattle.ip_net.specs.declared.ip.Ip.{Ip}
use Rattle.rule_eval.specs.Truth.{IsPeerIn}
use Rattle.middleware_stage.specs.Paths.{new_path, location_text}
use Rattle.middleware_stage.specs.Redirects.{rewritten, by_scheme, by_regex, redirect_status}

-- addPrefix: the prefix stands before the path
abbrev pub with_prefix : List ℕ → Request → Request
with_prefix prefix q = record q { path = new_path (prefix ++ q.path) }

-- stripPrefix: the first prefix that begins the path is taken away, and told
abbrev pub first_prefix : List (List ℕ) → Request → Option (List ℕ)
first_prefix prefixes q = find (λ prefix. starts_with nat_eq q.path prefix) prefixes

abbrev pub without_prefix : Option (List ℕ) → Request → Request
without_prefix None q = q
without_prefix (Some prefix) q = record q {
  path = new_path (drop (length prefix) q.path);
  lines = set_in (codes "X-Forwarded-Prefix") prefix q.lines;
}

abbrev pub stripped : List (List ℕ) → Request → Request
stripped prefixes q = without_prefix (first_prefix prefixes q) q

-- replacePath, and replacePathRegex where the pattern is found: another path, and the old one is told
abbrev pub replaced : List ℕ → Request → Request
replaced path q = record q { path = new_path path; lines = set_in (codes "X-Replaced-Path") q.path q.lines }

abbrev pub replaced_by : Option (List ℕ) → Request → Request
replaced_by None q = q
replaced_by (Some path) q = replaced path q

abbrev pub replaced_by_regex : List ℕ → List ℕ → Request → Request
replaced_by_regex regex replacement q = replaced_by (rewritten regex replacement q.path) q

-- headers: each is set, or removed where its value is empty
abbrev pub with_line : List Field → Field → List Field
with_line lines change = if length change.1 == 0 then without change.0 lines else set_in change.0 change.1 lines

abbrev pub with_lines : List Field → List Field → List Field
with_lines changes lines = fold with_line lines changes

-- `Host` is no line of a request, but its host text
abbrev pub with_header : Request → Field → Request
with_header q change = if has_name (codes "Host") change then record q { host = change.1 } else record q { lines = with_line q.lines change }

abbrev pub with_headers : List Field → Request → Request
with_headers changes q = fold with_header q changes

-- ipAllowList: a range has the peer's address, and is of its family
abbrev pub IsAllowed : List (List ℕ) → Ip → Type 0
IsAllowed ranges peer = Any (λ range. IsPeerIn range peer) ranges

-- buffering: the most that a body may have, in bytes; 0 or less is no limit
abbrev pub body_limit_of : ℤ → Option ℕ
body_limit_of (pos n) = if n == 0 then None else Some n
body_limit_of (negsuc n) = None

-- the head says that the body is longer than the limit
abbrev pub is_longer : ℕ → Framing → Bool
is_longer limit framing.None = false
is_longer limit (framing.Length length) = nat_lt limit length
is_longer limit framing.Chunked = false
is_longer limit framing.ToEnd = false

abbrev pub is_over : Option ℕ → Framing → Bool
is_over None framing = false
is_over (Some limit) framing = is_longer limit framing

-- the middleware passes the request on as q', with this limit on its body
abbrev pub IsPassed : MiddlewareDef → Request → Ip → Request → Option ℕ → Type 0
IsPassed (AddPrefix prefix) q peer q' limit = (q' ≡ with_prefix prefix q) × (limit ≡ None)
IsPassed (StripPrefix prefixes _) q peer q' limit = (q' ≡ stripped prefixes q) × (limit ≡ None)
IsPassed (ReplacePath path) q peer q' limit = (q' ≡ replaced path q) × (limit ≡ None)
IsPassed (ReplacePathRegex regex replacement) q peer q' limit = (q' ≡ replaced_by_regex regex replacement q) × (limit ≡ None)
IsPassed (Headers request _ _) q peer q' limit = (q' ≡ with_headers request q) × (limit ≡ None)
IsPassed (IpAllowList ranges _) q peer q' limit = IsAllowed ranges peer × (q' ≡ q) × (limit ≡ None)
IsPassed (Buffering max_body _) q peer q' limit = (is_over (body_limit_of max_body) q.framing ≡ false) × (q' ≡ q) × (limit ≡ body_limit_of max_body)
IsPassed (RedirectScheme scheme port _) q peer q' limit = (by_scheme scheme port q ≡ None) × (q' ≡ q) × (limit ≡ None)
IsPassed (RedirectRegex regex replacement _) q peer q' limit = (by_regex regex replacement q ≡ None) × (q' ≡ q) × (limit ≡ None)
IsPassed (Chain _) q peer q' limit = ⊥
IsPassed Unsupported q peer q' limit = ⊥

-- a redirect to this target: where it leads, and with which status
abbrev pub IsRedirected : Option (List ℕ) → Bool → Request → ℕ → Option (List ℕ) → Type 0
IsRedirected None permanent q status location = ⊥
IsRedirected (Some target) permanent q status location = (status ≡ redirect_status permanent q.method) × (location ≡ Some (location_text target))

-- the middleware answers the request by itself, with this status and this location
abbrev pub IsStopped : MiddlewareDef → Request → Ip → ℕ → Option (List ℕ) → Type 0
IsStopped (IpAllowList ranges _) q peer status location = ¬ (IsAllowed ranges peer) × (status ≡ 403) × (location ≡ None)
IsStopped (RedirectScheme scheme port permanent) q peer status location = IsRedirected (by_scheme scheme port q) permanent q status location
IsStopped (RedirectRegex regex replacement permanent) q peer status location = IsRedirected (by_regex regex replacement q) permanent q status location
IsStopped (AddPrefix _) q peer status location = ⊥
IsStopped (StripPrefix _ _) q peer status location = ⊥
IsStopped (ReplacePath _) q peer status location = ⊥
IsStopped (ReplacePathRegex _ _) q peer status location = ⊥
IsStopped (Headers _ _ _) q peer status location = ⊥
IsStopped (Chain _) q peer status location = ⊥
IsStopped (Buffering max_body _) q peer status location = (is_over (body_limit_of max_body) q.framing ≡ true) × (status ≡ 413) × (location ≡ None)
IsStopped Unsupported q peer status location = ⊥

-- the middleware makes a' of the reply: all but `headers` leave it as it is
abbrev pub IsReplied : MiddlewareDef → Reply → Reply → Type 0
IsReplied (Headers _ response _) a a' = a' ≡ record a { lines = with_lines response a.lines }
IsReplied (AddPrefix _) a a' = a' ≡ a
IsReplied (StripPrefix _ _) a a' = a' ≡ a
IsReplied (ReplacePath _) a a' = a' ≡ a
IsReplied (ReplacePathRegex _ _) a a' = a' ≡ a
IsReplied (IpAllowList _ _) a a' = a' ≡ a
IsReplied (Chain _) a a' = ⊥
IsReplied (Buffering _ _) a a' = a' ≡ a
IsReplied (RedirectScheme _ _ _) a a' = a' ≡ a
IsReplied (RedirectRegex _ _ _) a a' = a' ≡ a
IsReplied Unsupported a a' = ⊥
