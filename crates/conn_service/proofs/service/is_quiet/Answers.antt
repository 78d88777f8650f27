use Rattle.std.proofs.Common.{rules, sym, ◌∙◌}
use Rattle.conn_service.proofs.Counts.{empty_of}
use Rattle.conn_service.proofs.service.is_quiet.Goals as goal

pub returns-clause-open : goal.returns-clause-open
returns-clause-open c = λ yes_. c.is_open.ensures.0 (search rules)

pub returns-clause-none : goal.returns-clause-none
returns-clause-none c = λ yes_. sym c.as_slice.ensures.value ∙ empty_of c.is_empty.result c.as_slice.result.now c.is_empty.ensures yes_
