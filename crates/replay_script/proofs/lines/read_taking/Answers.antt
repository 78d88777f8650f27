use Rattle.replay_script.proofs.Cutting.{took_lines}
use Rattle.replay_script.proofs.lines.read_taking.Goals as goal

pub returns-in-None : goal.returns-in-None
returns-in-None c = took_lines c.args.text.now c.in-None.ensures
