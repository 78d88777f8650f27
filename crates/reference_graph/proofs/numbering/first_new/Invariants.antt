use Rattle.std.proofs.Common.{◌≡◌, drop}
use Rattle.reference_graph.specs.Numbering.{first_without, has_number}
use Rattle.reference_graph.proofs.numbering.first_new.Given as goal

abbrev pub invariant-loop-place : goal.invariant-loop-place
invariant-loop-place l = first_without (has_number l.numbers) l.places ≡ first_without (has_number l.numbers) (drop l.place-index l.places)
