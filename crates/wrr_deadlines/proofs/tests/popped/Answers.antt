use Rattle.wrr_deadlines.proofs.tests.popped.Goals as goal

pub pop-requires-clause-weighted : goal.pop-requires-clause-weighted
pop-requires-clause-weighted c = rw c.loop.invariant c.requires.weighted
