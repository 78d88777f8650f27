use Rattle.std.proofs.Common.{sym, ◌∙◌}
use Rattle.dyn_config.specs.Walk.{is_decimal}
use Rattle.dyn_config.proofs.Loops.{all_here, all_later}
use Rattle.dyn_config.proofs.tables.are_decimals.Goals as goal

pub returns-then-not-is_decimal : goal.returns-then-not-is_decimal
returns-then-not-is_decimal c =
    all_here is_decimal c.args.fields.now c.loop-at.at c.key.result.now c.key.ensures _ c.loop-at.invariant (sym c.is_decimal.ensures ∙ c.if-not-is_decimal.true)

pub loop-at-preserved : goal.loop-at-preserved
loop-at-preserved c =
    all_later is_decimal c.args.fields.now c.loop-at.at c.key.result.now c.key.ensures _ c.loop-at.invariant (sym c.is_decimal.ensures ∙ c.if-not-is_decimal.false)
