use Rattle.std.proofs.Common.{map, refl, ap, ◌∙◌}
use Rattle.generation.specs.Meaning.{plan_of}
use Rattle.generation.specs.declared.generation.Generation.{Generation}
use Rattle.desk.specs.Issues.{published_plan, published_in, generations_of}
use Rattle.desk.specs.Kept.{newest_plan}
use Rattle.desk.proofs.Numbers.{whole}
use Rattle.desk.proofs.one.OneDesk.number.Goals as goal

pub returns-clause-all : goal.returns-clause-all
returns-clause-all c plans p g l e =
    let d = c.args.self.now in
    whole plans (generations_of (published_in d.timeline.earlier.items) d.timeline.newest) p (newest_plan d) d.timeline.numbered g l
    (map published_plan (published_in d.timeline.earlier.items), refl) (e ∙ c.number.ensures ∙ ap (λ (x : Generation). (plan_of x).number) c.deref.ensures)
