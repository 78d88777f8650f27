use Rattle.replay_script.proofs.Cutting.{link_lines}
use Rattle.replay_script.proofs.lines.read_link.Goals as goal

pub returns-in-None : goal.returns-in-None
returns-in-None c = link_lines c.args.text.now c.args.kind c.in-None.ensures
