use Rattle.std.proofs.Common.{sym, ◌∙◌, Bor}
use Rattle.field_tree.specs.declared.tree.Tree.{Tree}
use Rattle.dyn_config.specs.Readings.{preserves_path}
use Rattle.dyn_config.proofs.Fields.{any_at, any_past}
use Rattle.dyn_config.proofs.readers.some_preserves_path.Goals as goal

pub returns-then-flag_under : goal.returns-then-flag_under
returns-then-flag_under c =
    any_at (preserves_path c.args.style) (λ (element : Bor Tree). element.now) c.args.found.now c.loop-at.at c.index-found-at.result _ c.loop-at-test.true c.index-found-at.is c.loop-at.invariant (sym c.flag_under.ensures ∙ c.if-flag_under.true)

pub loop-at-preserved : goal.loop-at-preserved
loop-at-preserved c =
    any_past (preserves_path c.args.style) (λ (element : Bor Tree). element.now) c.args.found.now c.loop-at.at c.index-found-at.result _ c.loop-at-test.true c.index-found-at.is c.loop-at.invariant (sym c.flag_under.ensures ∙ c.if-flag_under.false)
