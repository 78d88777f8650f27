use Rattle.std.proofs.Common.{ap, ◌∙◌, List}
use Rattle.link_world.specs.declared.note.NodePick.{NodePick}
use Rattle.wrr_deadlines.specs.declared.choice.Drawn.TheVariants as drawn
use Rattle.desk.specs.declared.told.Told.TheVariants.{Drew}
use Rattle.desk.specs.declared.told.NodeCount.{NodeCount}
use Rattle.desk.specs.Told.{last_count}
use Rattle.desk.proofs.Keeps.{seat_draw, seat_exact, seat_stays, seat_others}
use Rattle.desk.proofs.Counts.{counted_draw}
use Rattle.desk.proofs.seats.Seats.draw.Goals as goal

pub returns-in-Pick-clause-drawn : goal.returns-in-Pick-clause-drawn
returns-in-Pick-clause-drawn c =
    let count = c.count_at-count.ensures ∙ ap (λ (xs : List NodeCount). last_count c.args.number c.args.node 0 xs) c.as_slice.ensures.value
    ∙ c.args.self.now.counted c.args.number c.args.node in
    seat_draw c.args.self.now.numbers.items c.args.self.now.told.items c.and-self.result.items c.args.number c.args.node c.count_at-count.result c.args.mask c.in-Pick.pick
    c.requires.held c.and-self.ensures count (rw c.in-Pick.is at c.draw-drawn.ensures)

pub returns-in-Pick-clause-exact : goal.returns-in-Pick-clause-exact
returns-in-Pick-clause-exact c =
    let count = c.count_at-count.ensures ∙ ap (λ (xs : List NodeCount). last_count c.args.number c.args.node 0 xs) c.as_slice.ensures.value
    ∙ c.args.self.now.counted c.args.number c.args.node in
    seat_exact c.args.self.now.numbers.items c.args.self.now.told.items c.args.number c.args.node c.count_at-count.result c.args.mask (drawn.Pick c.in-Pick.pick)
    c.requires.held count (rw c.in-Pick.is at c.draw-drawn.ensures)

pub returns-in_default-clause-exact : goal.returns-in_default-clause-exact
returns-in_default-clause-exact c =
    let count = c.count_at-count.ensures ∙ ap (λ (xs : List NodeCount). last_count c.args.number c.args.node 0 xs) c.as_slice.ensures.value
    ∙ c.args.self.now.counted c.args.number c.args.node in
    seat_exact c.args.self.now.numbers.items c.args.self.now.told.items c.args.number c.args.node c.count_at-count.result c.args.mask c.draw-drawn.result
    c.requires.held count c.draw-drawn.ensures

pub returns-in-Pick-clause-held : goal.returns-in-Pick-clause-held
returns-in-Pick-clause-held c = seat_stays c.args.self.now.numbers.items c.args.self.now.told.items c.and-self.result.items c.args.number c.requires.held

pub returns-in-Pick-clause-others : goal.returns-in-Pick-clause-others
returns-in-Pick-clause-others c =
    let p : NodePick = record { node = c.args.node; pick = c.in-Pick.pick } in
    seat_others c.args.self.now.numbers.items c.args.self.now.told.items c.and-self.result.items c.args.number (Drew p) c.and-self.ensures

pub invariant_of-self : goal.invariant_of-self
invariant_of-self c = record {
  counted =
      let p : NodePick = record { node = c.args.node; pick = c.in-Pick.pick } in
      counted_draw c.args.self.now.counts.items c.put_count.new.counts.items c.args.self.now.told.items c.and-self.result.items c.args.number p
      c.args.self.now.counted c.and-self.ensures c.put_count.ensures.counts;
}
