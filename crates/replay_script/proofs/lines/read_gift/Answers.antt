use Rattle.replay_script.proofs.Cutting.{bytes_lines}
use Rattle.replay_script.proofs.lines.read_gift.Goals as goal

pub returns-in-None : goal.returns-in-None
returns-in-None c = bytes_lines c.args.text.now c.in-None.ensures
