-- The proxy's own replies.
use Rattle.std.specs.Prelude.{◌≡◌, ℕ, ◌==◌, ◌||◌, Bool, List, [], ◌∷◌, ◌++◌, codes, length, Option, Some, None, if◌then◌else◌}
use Rattle.std.specs.Fmt.{decimal}
use Rattle.std.specs.Str.{str_to_ascii_lowercase}
use Rattle.body_codec.specs.declared.Framing.TheVariants as framing
use Rattle.http_wire.specs.declared.message.Reply.{Reply}

-- a redirect has a location and no content
abbrev pub is_redirect : ℕ → Bool
is_redirect status = status == 301 || status == 302 || status == 307 || status == 308

abbrev pub is_own_error : ℕ → Bool
is_own_error status = status == 400 || status == 403 || status == 404 || status == 413 || status == 429 || status == 431
    || status == 501 || status == 502 || status == 503 || status == 504

-- the reason phrase of each status that the proxy answers by itself
abbrev pub own_reason : ℕ → List ℕ
own_reason status =
    if status == 301 then codes "Moved Permanently"
    else if status == 302 then codes "Found"
    else if status == 307 then codes "Temporary Redirect"
    else if status == 308 then codes "Permanent Redirect"
    else if status == 400 then codes "Bad Request"
    else if status == 403 then codes "Forbidden"
    else if status == 404 then codes "Not Found"
    else if status == 413 then codes "Content Too Large"
    else if status == 429 then codes "Too Many Requests"
    else if status == 431 then codes "Request Header Fields Too Large"
    else if status == 501 then codes "Not Implemented"
    else if status == 502 then codes "Bad Gateway"
    else if status == 503 then codes "Service Unavailable"
    else codes "Gateway Timeout"

-- what the content says behind the status: the reason in lower case, but for 404
abbrev pub own_words : ℕ → List ℕ
own_words status = if status == 404 then codes "page not found" else str_to_ascii_lowercase (own_reason status)

-- the content of an own reply that is no redirect: one line
abbrev pub content_of : ℕ → List ℕ
content_of status = decimal status ++ codes " " ++ own_words status ++ codes "\n"

-- the one line and the length of an own reply: a redirect's location and no content; else text of this length
abbrev pub IsOwnBody : ℕ → Option (List ℕ) → Reply → Type 0
IsOwnBody status None a = (a.lines ≡ (codes "Content-Type", codes "text/plain; charset=utf-8") ∷ []) × (a.framing ≡ framing.Length (length (content_of status)))
IsOwnBody status (Some location) a = (a.lines ≡ (codes "Location", location) ∷ []) × (a.framing ≡ framing.Length 0)

-- the own reply with this status
pub record IsOwnReply (status : ℕ) (location : Option (List ℕ)) (a : Reply) : Type 0 where
  pub status_is : a.status ≡ status
  pub reason_is : a.reason ≡ own_reason status
  pub body : IsOwnBody status location a
