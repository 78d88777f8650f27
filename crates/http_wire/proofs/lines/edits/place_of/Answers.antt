use Rattle.std.proofs.Common.{sym, ◌∙◌}
use Rattle.http_wire.proofs.Edited.{place_on, place_here}
use Rattle.http_wire.proofs.lines.edits.place_of.Goals as goal

pub loop-line-preserved : goal.loop-line-preserved
loop-line-preserved c =
    place_on c.args.text.now c.args.name.now c.loop-line.at c.loop-line.left.now c.args.spans.now c.in-Some.line.now c.in-Some.rest.now
    c.in-Some.ensures.cases.0 (sym c.is_named.ensures ∙ c.if-is_named.false) c.loop-line.invariant

pub returns-then-is_named-clause-place : goal.returns-then-is_named-clause-place
returns-then-is_named-clause-place c =
    place_here c.args.text.now c.args.name.now c.loop-line.at c.loop-line.left.now c.args.spans.now c.in-Some.line.now c.in-Some.rest.now
    c.in-Some.ensures.cases.0 (sym c.is_named.ensures ∙ c.if-is_named.true) c.loop-line.invariant
