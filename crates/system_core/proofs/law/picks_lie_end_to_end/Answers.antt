use Rattle.system_core.proofs.PicksTold.{runs_told}
use Rattle.system_core.proofs.Tiling.{runs_tile}
use Rattle.system_core.proofs.law.picks_lie_end_to_end.Goals as goal

pub returns-clause-tile : goal.returns-clause-tile
returns-clause-tile c = λ first events r runs number node. (runs_tile first events r runs number node).tile

pub returns-clause-lawful : goal.returns-clause-lawful
returns-clause-lawful c = λ first events r runs number node. (runs_tile first events r runs number node).lawful

pub returns-clause-told : goal.returns-clause-told
returns-clause-told c = runs_told
