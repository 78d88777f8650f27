use Rattle.px_base.proofs.Digits.{spelling}
use Rattle.px_base.proofs.decimal.print_decimal.Goals as goal

pub returns-clause-spelling : goal.returns-clause-spelling
returns-clause-spelling c = spelling c.args.n c.ranges.n.fits
