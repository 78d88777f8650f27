-- What is sent to a server.
use Rattle.std.specs.Prelude.{ℕ, ◌==◌, Bool, List, ◌++◌, codes, if◌then◌else◌}
use Rattle.std.specs.Fmt.{decimal}
use Rattle.px_base.specs.declared.server.Server.{Server}
use Rattle.http_wire.specs.declared.message.Request.{Request}
use Rattle.http_wire.specs.Spelling.{request_text}

-- the host, and the port behind a colon unless it is that of the scheme
abbrev pub authority_text : List ℕ → ℕ → List ℕ
authority_text host port = if port == 80 then host else host ++ codes ":" ++ decimal port

abbrev pub authority_of : Server → List ℕ
authority_of s = authority_text s.host s.port

-- the head that goes to the server
abbrev pub forwarded : Request → Server → Bool → List ℕ
forwarded r s pass_host = request_text r (authority_of s) pass_host
