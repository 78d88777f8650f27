use Rattle.std.proofs.Common.{take}
use Rattle.reference_graph.specs.Links.{links_at}
use Rattle.reference_graph.specs.Heights.{IsBeside}
use Rattle.reference_graph.proofs.heights.height_below.Given as goal

abbrev pub invariant-loop-place : goal.invariant-loop-place
invariant-loop-place l = IsBeside l.links l.heights (take l.place-index (links_at l.links l.at)) l.beside
