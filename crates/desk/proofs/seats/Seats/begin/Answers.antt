use Rattle.desk.proofs.Counts.{counted_began}
use Rattle.desk.proofs.seats.Seats.begin.Goals as goal

pub invariant_of-self : goal.invariant_of-self
invariant_of-self c = record {
  counted = counted_began c.args.self.now.counts.items c.forget_counts.new.counts.items c.args.self.now.told.items c.and-self.result.items c.args.number
      c.args.self.now.counted c.and-self.ensures c.forget_counts.ensures.items;
}
