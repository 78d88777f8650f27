use Rattle.dyn_config.proofs.ByNumber.{goes_by_number}
use Rattle.dyn_config.proofs.law.list_keys_go_by_number.Goals as goal

pub returns : goal.returns
returns c = goes_by_number
