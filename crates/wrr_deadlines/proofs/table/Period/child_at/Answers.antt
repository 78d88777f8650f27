-- The place is in the first period, and the entry there is the pop's.
use Rattle.std.proofs.Common.{◌≡◌, ℕ, ◌-◌, ◌%◌, ◌<◌, length, arith, ◌∙◌, ap}
use Rattle.std.proofs.lemmas.Nat.{mod_below}
use Rattle.std.proofs.lemmas.List.{get_or_read}
use Rattle.wrr_deadlines.specs.Turn.{popped_child}
use Rattle.wrr_deadlines.specs.Reduced.{period_len}
use Rattle.wrr_deadlines.proofs.Divisors.{period_len-positive}
use Rattle.wrr_deadlines.proofs.Picks.{popped_child-within}
use Rattle.wrr_deadlines.proofs.States.{tabled_child}
use Rattle.wrr_deadlines.proofs.table.Period.child_at.Goals as goal
use Rattle.wrr_deadlines.proofs.table.Period.child_at.Goals.{After-from}

pub nonzero_rem-place : goal.nonzero_rem-place
nonzero_rem-place c = omega (arith, period_len-positive c.args.self.now c.requires.weighted, c.len.ensures.exact)

pub index-requires : goal.index-requires
index-requires c =
    let positive : 0 < c.len.result = omega (arith, period_len-positive c.args.self.now c.requires.weighted, c.len.ensures.exact) in
    let low = mod_below (c.args.n - 1) c.len.result positive in
    let exact = rw c.self.view_is at c.self.invariant.small.exact in
    omega (arith, exact, c.len.ensures.exact, c.self.inside.pops.ok.0)

popped : (c : After-from) → c.from.result ≡ popped_child c.args.self.now c.args.n
popped c =
    let state = rw c.self.view_is at c.self.invariant in
    let positive : 0 < c.len.result = omega (arith, period_len-positive c.args.self.now c.requires.weighted, c.len.ensures.exact) in
    let low = mod_below (c.args.n - 1) c.len.result positive in
    let inside : (c.args.n - 1) % c.len.result < length c.self.inside.pops.items = omega (arith, state.small.exact, c.len.ensures.exact) in
    let place : (c.args.n - 1) % c.len.result ≡ (c.args.n - 1) % period_len c.args.self.now = ap (λ (p : ℕ). (c.args.n - 1) % p) c.len.ensures.exact in
    c.from.ensures ∙ get_or_read c.self.inside.pops.items _ _ inside c.index.ensures 0
    ∙ tabled_child c.args.self.now c.self.inside.pops.items c.args.n _ c.requires.weighted state c.requires.first place

pub returns-clause-popped : goal.returns-clause-popped
returns-clause-popped c = popped c

pub returns-clause-within : goal.returns-clause-within
returns-clause-within c = rw (popped c) (popped_child-within c.args.self.now c.args.n c.requires.weighted)

pub returns-clause-few : goal.returns-clause-few
returns-clause-few c =
    let below = popped_child-within c.args.self.now c.args.n c.requires.weighted in
    let few = rw c.self.view_is at c.self.invariant.small.few in
    omega (arith, popped c)
