use Rattle.std.proofs.Common.{◌≡◌, drop}
use Rattle.router_table.specs.Settings.{length_of}
use Rattle.router_table.proofs.references.length_of.Given as goal

abbrev pub invariant-loop-one : goal.invariant-loop-one
invariant-loop-one l = length_of l.usable l.name ≡ length_of (drop l.one-index l.usable) l.name
