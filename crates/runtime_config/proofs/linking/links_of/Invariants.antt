use Rattle.std.proofs.Common.{take}
use Rattle.std.specs.List.{AllZip}
use Rattle.runtime_config.specs.Linked.{IsLink}
use Rattle.runtime_config.proofs.linking.links_of.Given as goal

abbrev pub invariant-loop-row : goal.invariant-loop-row
invariant-loop-row l = AllZip (IsLink l.chains) (take l.row-index l.rows) l.links
