use Rattle.std.proofs.Common.{subst, sym, length}
use Rattle.body_codec.specs.Feeding.{ContentTo}
use Rattle.body_codec.proofs.Runs.{end_all}
use Rattle.body_codec.proofs.reading.take_content.Goals as goal

pub returns-in-ToEnd : goal.returns-in-ToEnd
returns-in-ToEnd c = subst (λ phase. ContentTo phase c.args.rest.now (length c.args.rest.now) phase) (sym c.in-ToEnd.is) (end_all c.args.rest.now)
