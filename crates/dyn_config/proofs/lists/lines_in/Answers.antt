use Rattle.dyn_config.proofs.Loops.{line_pushed}
use Rattle.dyn_config.proofs.lists.lines_in.Goals as goal

pub loop-at-preserved : goal.loop-at-preserved
loop-at-preserved c =
    line_pushed c.args.fields.now c.loop-at.at c.key.result.now c.value.result.now c.text_in-text.result.now _ c.loop-at.lines c.push_line.new.lines c.key.ensures c.value.ensures c.text_in-text.ensures c.in_ok-push_line.ensures c.loop-at.invariant
