use Rattle.reference_graph.specs.Links.{links_at}
use Rattle.reference_graph.proofs.HeightLemmas.{beside_next}
use Rattle.reference_graph.proofs.heights.height_below.Goals as goal

pub loop-place-preserved : goal.loop-place-preserved
loop-place-preserved c =
    beside_next c.args.links.now c.args.heights.now c.places_at-place-items.result.now (links_at c.args.links.now c.args.at) c.loop-place.place-index c.loop-place.beside c.in-Some.height
    c.join-beside.result c.places_at-place-items.ensures c.loop-place-test.true c.requires.tall c.loop-place.invariant c.in-Some.ensures c.join-beside.ensures.depth c.join-beside.ensures.size
