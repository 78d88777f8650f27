use Rattle.replay_script.proofs.Cutting.{mark_lines}
use Rattle.replay_script.proofs.lines.read_mark.Goals as goal

pub returns-in-None : goal.returns-in-None
returns-in-None c = mark_lines c.args.text.now c.in-None.ensures
