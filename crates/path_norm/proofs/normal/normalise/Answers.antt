use Rattle.path_norm.proofs.Laws.{has_no_dots, normal_again}
use Rattle.path_norm.proofs.normal.normalise.Goals as goal

pub returns-in-Ok-clause-no_dots : goal.returns-in-Ok-clause-no_dots
returns-in-Ok-clause-no_dots c = has_no_dots c.args.path.now c.write_normal.new.out.items c.requires c.in-Ok.ensures

pub returns-in-Ok-clause-again : goal.returns-in-Ok-clause-again
returns-in-Ok-clause-again c = normal_again c.args.path.now c.write_normal.new.out.items c.in-Ok.ensures
