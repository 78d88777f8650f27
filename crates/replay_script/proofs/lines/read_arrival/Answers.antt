use Rattle.replay_script.proofs.Cutting.{arrive_lines}
use Rattle.replay_script.proofs.lines.read_arrival.Goals as goal

pub returns-in-None : goal.returns-in-None
returns-in-None c = arrive_lines c.args.text.now c.in-None.ensures
