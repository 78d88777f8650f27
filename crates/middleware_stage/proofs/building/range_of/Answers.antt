use Rattle.std.proofs.lemmas.Bool.{some_since}
use Rattle.middleware_stage.proofs.building.range_of.Goals as goal

pub unwrap-net-requires : goal.unwrap-net-requires
unwrap-net-requires c =
    let reads = rw c.as_slice.ensures at c.read_net.ensures.reads in
    some_since c.read_net.result _ _ reads (λ none. c.requires (λ n. none n.0 n.1.0 n.1.1))
