use Rattle.std.proofs.Common.{ap, ◌∙◌}
use Rattle.conversation.specs.Plans.{Plan}
use Rattle.desk.specs.Issues.{published_in}
use Rattle.desk.specs.Kept.{seats_of}
use Rattle.desk.proofs.Timelines.{pinned_or, pinned_numbers}
use Rattle.desk.proofs.final_desk.FinalDeskShared.pin.Goals as goal

pub invariant_of-self-clause-pinned : goal.invariant_of-self-clause-pinned
invariant_of-self-clause-pinned g c =
    pinned_numbers (published_in c.args.self.now.desk.timeline.earlier.items) (published_in c.pin.new.self.earlier.items) c.args.self.now.desk.timeline.newest c.pin.new.self.newest
    g.row.LAST c.pin.result c.pin.ensures.ok c.pin.ensures.err (ap (λ (p : Plan). p.number) c.pin.ensures.newest ∙ c.args.self.now.last) c.args.self.now.pinned

pub returns-clause-pinned : goal.returns-clause-pinned
returns-clause-pinned g c = pinned_or (published_in c.args.self.now.desk.timeline.earlier.items) (published_in c.pin.new.self.earlier.items) c.args.self.now.desk.timeline.newest c.pin.new.self.newest
    (seats_of c.args.self.now.desk.seats) c.pin.result c.pin.ensures.issue c.pin.ensures.generations c.pin.ensures.ok c.pin.ensures.err c.pin.new.self.numbered
