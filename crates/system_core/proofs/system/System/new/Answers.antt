use Rattle.std.proofs.Common.{refl}
use Rattle.system_core.specs.Issues.{plan_at}
use Rattle.system_core.specs.Happens.{start, begun}
use Rattle.system_core.proofs.Coming.{shows_start}
use Rattle.system_core.proofs.system.System.new.Goals as goal

pub returns : goal.returns
returns c = record {
  records = start (plan_at c.args.first);
  runs = begun c.requires;
  shows = shows_start _ (plan_at c.args.first) c.new-2.ensures.plans c.new-2.ensures.waiting c.new-2.ensures.conns c.new-3.ensures.items c.new-4.ensures.items c.new-5.ensures.items refl;
}
