use Rattle.http_wire.proofs.Laid.{turned_by}
use Rattle.http_wire.proofs.lines.edits.turn_tail.Goals as goal

pub returns : goal.returns
returns g c = turned_by c.args.start c.args.count c.args.items.now c.rotate_right.new.self c.requires c.rotate_right.ensures.after
