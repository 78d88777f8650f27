use Rattle.std.proofs.Common.{refl}
use Rattle.desk.proofs.Timelines.{told_more, timeline_more, pins_told, generations_told}
use Rattle.desk.specs.Issues.{published_in}
use Rattle.desk.proofs.timeline.Timeline.publish.Goals as goal

pub returns-clause-all : goal.returns-clause-all
returns-clause-all c = generations_told c.args.self.now.earlier.items c.and-self.result.items c.args.self.now.newest (record { issue = c.args.issue; pins = 0 }) 0 c.and-self.ensures

pub returns-clause-pins : goal.returns-clause-pins
returns-clause-pins c = pins_told c.args.self.now.earlier.items c.and-self.result.items c.args.self.now.newest (record { issue = c.args.issue; pins = 0 }) 0 c.and-self.ensures refl

pub invariant_of-self : goal.invariant_of-self
invariant_of-self c = record {
  numbered = timeline_more (published_in c.args.self.now.earlier.items) (published_in c.and-self.result.items) c.args.self.now.newest (record { issue = c.args.issue; pins = 0 }) c.args.self.now.newest (record { issue = c.args.issue; pins = 0 })
      (told_more c.args.self.now.earlier.items c.and-self.result.items c.args.self.now.newest 0 c.and-self.ensures)
      refl refl c.requires.next c.args.self.now.numbered;
}
