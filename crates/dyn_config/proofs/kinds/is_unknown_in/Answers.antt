use Rattle.std.proofs.Common.{not, sym, ap, ◌∙◌}
use Rattle.dyn_config.specs.Walk.{is_known}
use Rattle.dyn_config.specs.Shapes.{rows_of}
use Rattle.dyn_config.proofs.Loops.{any_here, any_later}
use Rattle.dyn_config.proofs.kinds.is_unknown_in.Goals as goal

pub returns-then-not-is_known : goal.returns-then-not-is_known
returns-then-not-is_known c =
    any_here (λ k. not (is_known (rows_of c.args.table) k)) c.args.fields.now c.loop-at.at c.key.result.now c.key.ensures _ c.loop-at.invariant (ap not (sym c.is_known.ensures ∙ c.if-not-is_known.true))

pub loop-at-preserved : goal.loop-at-preserved
loop-at-preserved c =
    any_later (λ k. not (is_known (rows_of c.args.table) k)) c.args.fields.now c.loop-at.at c.key.result.now c.key.ensures _ c.loop-at.invariant (ap not (sym c.is_known.ensures ∙ c.if-not-is_known.false))
