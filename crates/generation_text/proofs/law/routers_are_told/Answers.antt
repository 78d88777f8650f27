use Rattle.std.proofs.Common.{◌-◌}
use Rattle.runtime_config.specs.Runtime.{judged_by}
use Rattle.generation_text.proofs.Listing.{rows_named}
use Rattle.generation_text.proofs.law.routers_are_told.Goals as goal

pub returns : goal.returns
returns c = λ m r is. rows_named (judged_by m r) (256 - r.chains.built) m.routers r.table.rows is.rows
