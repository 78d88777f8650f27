-- How messages are spelled (RFC 9112 sections 2 to 6), byte for byte.
use Rattle.std.specs.Prelude.{ℕ, ◌==◌, Bool, List, [], ◌∷◌, ◌++◌, codes, Option, Some, None, if◌then◌else◌}
use Rattle.std.specs.Fmt.{decimal}
use Rattle.body_codec.specs.declared.Framing.{Framing}
use Rattle.body_codec.specs.declared.Framing.TheVariants as framing
use Rattle.http_wire.specs.Lines.{crlf, field_text, fields_text}
use Rattle.http_wire.specs.declared.message.Request.{Request}
use Rattle.http_wire.specs.declared.message.Reply.{Reply}

-- the path, and the query behind a question mark where there is one
abbrev pub target_text : List ℕ → Option (List ℕ) → List ℕ
target_text path None = path
target_text path (Some query) = path ++ codes "?" ++ query

-- `Host` has the client's host text, or the server's authority where that isn't passed on
abbrev pub host_text : Request → List ℕ → Bool → List ℕ
host_text r authority pass_host = if pass_host then r.host else authority

-- the framing line of a request; one without a body has none
abbrev pub request_framing : Framing → List ℕ
request_framing framing.None = []
request_framing (framing.Length n) = field_text (codes "Content-Length") (decimal n)
request_framing framing.Chunked = field_text (codes "Transfer-Encoding") (codes "chunked")
request_framing framing.ToEnd = field_text (codes "Transfer-Encoding") (codes "chunked")

abbrev pub request_line : Request → List ℕ
request_line r = r.method ++ codes " " ++ target_text r.path r.query ++ codes " HTTP/1.1" ++ crlf

-- the head that is sent to a backend, each on a connection of its own
abbrev pub request_text : Request → List ℕ → Bool → List ℕ
request_text r authority pass_host =
    request_line r ++ field_text (codes "Host") (host_text r authority pass_host) ++ fields_text r.lines ++ request_framing r.framing
    ++ field_text (codes "Connection") (codes "close") ++ crlf

-- the framing line of a reply: content without a length is chunked for a client of version 1.1, and ends with
-- the link for one of version 1.0
abbrev pub reply_framing : Framing → ℕ → List ℕ
reply_framing framing.None version = []
reply_framing (framing.Length n) version = field_text (codes "Content-Length") (decimal n)
reply_framing framing.Chunked version = if version == 1 then field_text (codes "Transfer-Encoding") (codes "chunked") else []
reply_framing framing.ToEnd version = if version == 1 then field_text (codes "Transfer-Encoding") (codes "chunked") else []

abbrev pub close_text : Bool → List ℕ
close_text close = if close then field_text (codes "Connection") (codes "close") else []

abbrev pub status_line : Reply → List ℕ
status_line a = codes "HTTP/1.1 " ++ decimal a.status ++ codes " " ++ a.reason ++ crlf

-- the head that is sent to a client of this minor version, whose connection is closed after it or not
abbrev pub reply_text : Reply → ℕ → Bool → List ℕ
reply_text a version close = status_line a ++ fields_text a.lines ++ reply_framing a.framing version ++ close_text close ++ crlf
