use Rattle.std.proofs.Common.{arith}
use Rattle.path_norm.proofs.Slashes.{last_is, never_none}
use Rattle.path_norm.proofs.segments.parent_len.Goals as goal

pub returns-then-path-len-eq47-clause-last : goal.returns-then-path-len-eq47-clause-last
returns-then-path-len-eq47-clause-last c = λ before s slashless is.
    last_is c.args.path.now before s c.loop-len.len slashless is c.loop-len-test.true c.loop-len.invariant.within c.if-path-len-eq47.true c.loop-len.invariant.none

pub returns-clause-last : goal.returns-clause-last
returns-clause-last c = λ before s slashless is.
    absurd (never_none c.args.path.now before s is (λ k less. c.loop-len.invariant.none k (omega arith) less))
