use Rattle.desk.specs.declared.told.Told.TheVariants.{Looked}
use Rattle.desk.proofs.Keeps.{seat_look, seat_others}
use Rattle.desk.proofs.Counts.{counted_look}
use Rattle.desk.proofs.seats.Seats.look.Goals as goal

pub returns-clause-seat : goal.returns-clause-seat
returns-clause-seat c = seat_look c.args.self.now.numbers.items c.args.self.now.told.items c.and-self.result.items c.args.number c.args.look c.requires.held c.and-self.ensures

pub returns-clause-others : goal.returns-clause-others
returns-clause-others c = seat_others c.args.self.now.numbers.items c.args.self.now.told.items c.and-self.result.items c.args.number (Looked c.args.look) c.and-self.ensures

pub invariant_of-self : goal.invariant_of-self
invariant_of-self c = record {
  counted = counted_look c.args.self.now.counts.items c.args.self.now.told.items c.and-self.result.items c.args.number c.args.look c.args.self.now.counted c.and-self.ensures;
}
