-- Where the redirecting middlewares lead.
use Rattle.std.specs.Prelude.{ℕ, ◌==◌, Bool, ◌&&◌, ◌||◌, List, [], ◌++◌, length, codes, bytes_eq, Option, Some, None, if◌then◌else◌}
use Rattle.http_wire.specs.Spelling.{target_text}
use Rattle.http_wire.specs.Targets.{without_port}
use Rattle.http_wire.specs.declared.message.Request.{Request}
use Rattle.rule_eval.specs.Patterns.{finds, replaced_in}

-- the query behind its question mark, where there is one
abbrev pub query_text : Option (List ℕ) → List ℕ
query_text None = []
query_text (Some query) = codes "?" ++ query

-- the request's own URL
abbrev pub url : Request → List ℕ
url q = codes "http://" ++ q.host ++ target_text q.path q.query

-- the port is the scheme's own, or none is given
abbrev pub is_default_port : List ℕ → List ℕ → Bool
is_default_port scheme port =
    length port == 0 || (bytes_eq scheme (codes "http") && bytes_eq port (codes "80")) || (bytes_eq scheme (codes "https") && bytes_eq port (codes "443"))

abbrev pub port_text : List ℕ → List ℕ → List ℕ
port_text scheme port = if is_default_port scheme port then [] else codes ":" ++ port

-- the same with another scheme and another port
abbrev pub scheme_url : List ℕ → List ℕ → Request → List ℕ
scheme_url scheme port q = scheme ++ codes "://" ++ without_port q.host ++ port_text scheme port ++ target_text q.path q.query

-- the text with each match of the pattern replaced, where it has one
abbrev pub rewritten : List ℕ → List ℕ → List ℕ → Option (List ℕ)
rewritten regex replacement text = if finds regex text then replaced_in regex replacement text else None

-- a target that is another than the request's own URL
abbrev pub elsewhere : Request → Option (List ℕ) → Option (List ℕ)
elsewhere q None = None
elsewhere q (Some target) = if bytes_eq target (url q) then None else Some target

-- where `redirectScheme` and `redirectRegex` lead, if anywhere
abbrev pub by_scheme : List ℕ → List ℕ → Request → Option (List ℕ)
by_scheme scheme port q = elsewhere q (Some (scheme_url scheme port q))

abbrev pub by_regex : List ℕ → List ℕ → Request → Option (List ℕ)
by_regex regex replacement q = elsewhere q (rewritten regex replacement (url q))

-- 301 and 308 are permanent; 307 and 308 ask the client to keep its method, which it does with GET in any case
abbrev pub redirect_status : Bool → List ℕ → ℕ
redirect_status permanent method =
    if bytes_eq method (codes "GET") then (if permanent then 301 else 302) else (if permanent then 308 else 307)
