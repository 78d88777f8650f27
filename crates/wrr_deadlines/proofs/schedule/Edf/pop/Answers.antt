-- The child that is due first is the next pop, and is counted.
use Rattle.std.proofs.Common.{◌≡◌, ◌^◌, ◌<◌, length, drop, arith}
use Rattle.std.proofs.lemmas.List.{take_at}
use Rattle.wrr_deadlines.proofs.States.{counts-small, IsCounted-popped}
use Rattle.wrr_deadlines.proofs.Steps.{IsNextPop, IsNextPop-due, weighted_inside, taken_inside, weights_inside}
use Rattle.wrr_deadlines.proofs.schedule.Edf.pop.Goals as goal
use Rattle.wrr_deadlines.proofs.schedule.Edf.pop.Goals.{After-due_first-child}

next_pop : (c : After-due_first-child) → IsNextPop c.self.inside.weights.items c.self.inside.counts.items c.self.inside.period c.self.inside.taken c.due_first-child.result
next_pop c = IsNextPop-due _ _ _ _ _ _ _ c.deref.ensures.value c.deref-2.ensures.value c.due_first-child.ensures (weighted_inside _ _ c.self.view_is c.requires.weighted) c.self.invariant

pub due_first-child-requires-clause-small : goal.due_first-child-requires-clause-small
due_first-child-requires-clause-small c i =
    rw c.deref-2.ensures.value (counts-small _ _ _ _ (weighted_inside _ _ c.self.view_is c.requires.weighted) c.self.invariant i)

pub nonzero_rem-period_over : goal.nonzero_rem-period_over
nonzero_rem-period_over c = (next_pop (goal.at.nonzero_rem-period_over c).After-due_first-child).positive

pub count_pop-requires-clause-within : goal.count_pop-requires-clause-within
count_pop-requires-clause-within c =
    rw c.deref_mut.ensures.value (next_pop (goal.at.count_pop-requires-clause-within c).After-due_first-child).counted

pub count_pop-requires-clause-small : goal.count_pop-requires-clause-small
count_pop-requires-clause-small c =
    let step = next_pop (goal.at.count_pop-requires-clause-small c).After-due_first-child in
    rw c.deref_mut.ensures.value (omega (arith, step.small))

pub overflow_cast-result : goal.overflow_cast-result
overflow_cast-result c = omega (arith, (next_pop (goal.at.overflow_cast-result c).After-due_first-child).few)

pub invariant_of-self : goal.invariant_of-self
invariant_of-self c =
    let step = next_pop (goal.at.invariant_of-self c).After-due_first-child in
    let room : c.self.inside.taken < 2 ^ 62 = omega (arith, taken_inside _ _ c.self.view_is, c.requires.more) in
    let len : length c.count_pop.new.counts ≡ c.self.inside.counts.len = omega (arith, c.deref_mut.ensures.len) in
    rw (take_at c.count_pop.new.counts (drop (length c.count_pop.new.counts) c.self.inside.counts.items) c.self.inside.counts.len len)
    (IsCounted-popped c.self.inside.weights.items c.self.inside.counts.items c.count_pop.new.counts c.self.inside.period c.self.inside.taken c.due_first-child.result
    (weighted_inside _ _ c.self.view_is c.requires.weighted) c.self.invariant room step.popped (omega arith) (rw c.deref_mut.ensures.value at c.count_pop.ensures))

pub returns-clause-popped : goal.returns-clause-popped
returns-clause-popped c =
    let step = next_pop (goal.at.returns-clause-popped c).After-due_first-child in
    rw (← weights_inside _ _ c.self.view_is, ← taken_inside _ _ c.self.view_is) step.popped

pub returns-clause-within : goal.returns-clause-within
returns-clause-within c =
    let step = next_pop (goal.at.returns-clause-within c).After-due_first-child in
    rw (← weights_inside _ _ c.self.view_is) step.within

pub returns-clause-few : goal.returns-clause-few
returns-clause-few c = (next_pop (goal.at.returns-clause-few c).After-due_first-child).few
