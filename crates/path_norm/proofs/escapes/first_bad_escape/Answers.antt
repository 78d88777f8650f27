use Rattle.std.proofs.Common.{below_more, arith}
use Rattle.path_norm.proofs.Pieces.{inside}
use Rattle.path_norm.proofs.escapes.first_bad_escape.Goals.{else-path-at-eq37-via-then-path-at-eq37+else-not-has_digits_after, else-path-at-eq37-via-else-path-at-eq37}
use Rattle.path_norm.proofs.escapes.first_bad_escape.Goals as goal

pub loop-at-preserved : goal.loop-at-preserved
loop-at-preserved c =
    below_more _ _ c.loop-at.invariant (λ bad.
    elim c.else-path-at-eq37.branch [
      | else-path-at-eq37-via-then-path-at-eq37+else-not-has_digits_after w ↦ bad.1 (w.has_digits_after.ensures.0 w.if-not-has_digits_after.false)
      | else-path-at-eq37-via-else-path-at-eq37 w ↦ w.if-path-at-eq37.false bad.0
    ])

pub returns : goal.returns
returns c = λ k bad.
    let within = inside c.args.path.now k 37 bad.0 (omega arith) in
    c.loop-at.invariant k (omega arith) bad
