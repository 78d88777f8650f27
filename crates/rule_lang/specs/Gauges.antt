-- What contracts see of a gauge of depths.
use Rattle.std.specs.Prelude.{reverse}
use Rattle.rule_lang.specs.declared.depth.Gauge.{Gauge}
use Rattle.rule_lang.specs.Depths.{Depths}

abbrev pub depths_of : Gauge → Depths
depths_of g = record { in_call = g.in_call; here = g.here; base = g.base; bases = reverse g.bases.items; deepest = g.deepest }
