use Rattle.std.proofs.Common.{◌≡◌, ◌-◌, ◌^◌, min, take}
use Rattle.router_table.specs.Settings.{chain_length}
use Rattle.router_table.proofs.references.chain_length.Given as goal

abbrev pub invariant-loop-name : goal.invariant-loop-name
invariant-loop-name l = l.length ≡ min (chain_length l.usable (take l.name-index l.names)) (2 ^ 32 - 1)
