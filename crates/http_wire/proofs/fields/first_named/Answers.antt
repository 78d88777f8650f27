use Rattle.std.proofs.Common.{sym, ◌∙◌}
use Rattle.http_wire.proofs.Options.{named_skip, named_here}
use Rattle.http_wire.proofs.fields.first_named.Goals as goal

pub loop-line-preserved : goal.loop-line-preserved
loop-line-preserved c = named_skip c.args.buf.now c.args.name.now c.loop-line.left.now c.args.lines.now c.in-Some.line.now c.in-Some.rest.now c.in-Some.ensures.cases.0 (sym c.is_named.ensures ∙ c.if-is_named.false) c.loop-line.invariant

pub returns-then-is_named : goal.returns-then-is_named
returns-then-is_named c = named_here c.args.buf.now c.args.name.now c.loop-line.left.now c.args.lines.now c.in-Some.line.now c.in-Some.rest.now c.of.result.now c.in-Some.ensures.cases.0 (sym c.is_named.ensures ∙ c.if-is_named.true) c.of.ensures c.loop-line.invariant
