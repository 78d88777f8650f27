use Rattle.std.proofs.Common.{sym, ◌∙◌, codes}
use Rattle.http_wire.proofs.Options.{named_skip}
use Rattle.http_wire.proofs.fields.option_lines.Goals as goal

pub loop-line-preserved : goal.loop-line-preserved
loop-line-preserved c = named_skip c.args.buf.now (codes "Connection") c.loop-line.left.now c.args.lines.now c.in-Some.line.now c.in-Some.rest.now c.in-Some.ensures.cases.0 (sym c.is_named.ensures ∙ c.if-is_named.false) c.loop-line.invariant
