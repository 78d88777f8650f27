use Rattle.std.proofs.Common.{◌-◌, ◌++◌, arith, sym, ap, ◌∙◌}
use Rattle.std.proofs.lemmas.List.{drop_all, append-nil}
use Rattle.std.proofs.lemmas.Fmt.{length-decimal-le}
use Rattle.std.specs.Fmt.{decimal}
use Rattle.px_base.proofs.Digits.{written_more, written_last, length_more, length_last}
use Rattle.px_base.proofs.decimal.write_digits.Goals as goal

pub loop-left-init : goal.loop-left-init
loop-left-init c = (
  omega (arith, length-decimal-le 20 c.args.n (omega arith) (omega arith) c.ranges.n.fits),
  omega arith,
  sym (ap (λ ds. decimal c.args.n ++ ds) (drop_all _ c.args.room.now (omega arith)) ∙ append-nil _),
)

pub overflow_sub-at : goal.overflow_sub-at
overflow_sub-at c = omega (arith, length_more c.loop-left.left c.loop-left-test.true c.loop-left.auto.left-fits.fits)

pub loop-left-preserved : goal.loop-left-preserved
loop-left-preserved c =
    let more = length_more c.loop-left.left c.loop-left-test.true c.loop-left.auto.left-fits.fits in (
      omega (arith, more),
      omega arith,
      rw c.digit_of.ensures
          (written_more c.loop-left.room (decimal c.args.n) (c.loop-left.at - 1) c.loop-left.at c.loop-left.left c.loop-left-test.true c.loop-left.auto.left-fits.fits
          (omega (arith, more)) (omega (arith, more)) c.loop-left.invariant.2),
    )

pub overflow_sub-at-2 : goal.overflow_sub-at-2
overflow_sub-at-2 c = omega (arith, length_last c.loop-left.left (omega arith))

pub returns-clause-written : goal.returns-clause-written
returns-clause-written c =
    let last = length_last c.loop-left.left (omega arith) in
    rw c.digit_of-2.ensures
    (written_last c.loop-left.room (decimal c.args.n) (c.loop-left.at - 1) c.loop-left.at c.loop-left.left (omega arith) (omega (arith, last)) (omega (arith, last))
    c.loop-left.invariant.2)
