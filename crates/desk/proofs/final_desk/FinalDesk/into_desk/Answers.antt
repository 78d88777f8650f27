use Rattle.std.proofs.Common.{map, refl, sym, ◌∙◌}
use Rattle.desk.specs.Issues.{published_plan, published_in, generations_of}
use Rattle.desk.specs.Kept.{newest_plan}
use Rattle.desk.proofs.Numbers.{whole}
use Rattle.desk.proofs.final_desk.FinalDesk.into_desk.Goals as goal

pub returns-clause-all : goal.returns-clause-all
returns-clause-all g c plans p grew last e =
    let d = c.args.self.desk in
    whole plans (generations_of (published_in d.timeline.earlier.items) d.timeline.newest) p (newest_plan d) d.timeline.numbered grew last
    (map published_plan (published_in d.timeline.earlier.items), refl) (e ∙ sym c.args.self.last)
