use Rattle.std.proofs.Common.{sym, subst}
use Rattle.path_norm.specs.Escapes.{HasWholeEscapes}
use Rattle.path_norm.specs.Normal.{IsRooted}
use Rattle.head_view.specs.Lines.{lines_at}
use Rattle.http_wire.specs.Targets.{path_of}
use Rattle.http_wire.specs.Requests.{host_in}
use Rattle.http_wire.proofs.Heads.{rooted, bad_escape}
use Rattle.http_wire.proofs.requests.request_of.Goals as goal

pub normalise-requires : goal.normalise-requires
normalise-requires c =
    let target = c.args.target.now in
    let host = host_in target (lines_at c.args.buf.now c.args.lines.now) in
    subst IsRooted (sym c.requires.path) (rooted c.args.method.now target host c.requires.sound.target_taken)

pub returns-in-Ok-request_with : goal.returns-in-Ok-request_with
returns-in-Ok-request_with c =
    (c.requires.sound, subst HasWholeEscapes c.requires.path c.in-Ok.ensures.whole, c.in-Ok-request_with.ensures)

pub returns-in-Err-BadEscape : goal.returns-in-Err-BadEscape
returns-in-Err-BadEscape c =
    let e = c.in-Err-BadEscape in
    (c.requires.sound, bad_escape c.args.head.now.path.now (path_of c.args.target.now) e.field-0 e.field-0-0 e.field-0-is c.requires.path e.ensures.fault)
