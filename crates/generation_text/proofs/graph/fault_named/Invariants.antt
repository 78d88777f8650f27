use Rattle.std.proofs.Common.{◌≡◌, drop}
use Rattle.generation_text.specs.Services.{fault_of}
use Rattle.generation_text.proofs.graph.fault_named.Given as goal

abbrev pub invariant-loop-disabled : goal.invariant-loop-disabled
invariant-loop-disabled l = fault_of l.faults l.name ≡ fault_of (drop l.disabled-index l.faults) l.name
