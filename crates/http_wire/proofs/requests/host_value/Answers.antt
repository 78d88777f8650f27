use Rattle.std.proofs.Common.{codes}
use Rattle.std.proofs.lemmas.Bool.{false≢true}
use Rattle.head_view.specs.Lines.{lines_at, values_of}
use Rattle.http_wire.specs.Requests.{hosts_of}
use Rattle.http_wire.proofs.Heads.{two_values, some_values}
use Rattle.http_wire.proofs.requests.host_value.Goals as goal

pub returns-else-has_none : goal.returns-else-has_none
returns-else-has_none c = λ method target.
    let value = c.in-Some.value.now in
    let hosts = hosts_of (lines_at c.args.buf.now c.args.lines.now) in
    let more = values_of (codes "Host") (lines_at c.args.buf.now c.in-Some.rest.now) in (
      λ none. some_values value hosts more c.in-Some.ensures.1 none.1,
      two_values value hosts more c.in-Some.ensures.1 (λ e. false≢true (c.if-has_none.ensures.1 e)),
    )
