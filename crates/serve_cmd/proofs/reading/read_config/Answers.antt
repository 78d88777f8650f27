use Rattle.std.proofs.Common.{refl}
use Rattle.serve_cmd.specs.Meanings.{changed}
use Rattle.serve_cmd.proofs.Meant.{later_meant, built_later, built_generation, counted_generation}
use Rattle.serve_cmd.proofs.reading.read_config.Goals as goal

pub returns-in-Generation-clause-means : goal.returns-in-Generation-clause-means
returns-in-Generation-clause-means g c =
    changed c.in_ok-merged.merged c.in-Generation.generation c.in_ok-merged.ensures
    (built_generation c.in_ok-merged.merged c.in_ok-generation.field-0 c.in-Generation.generation c.in-Generation.is c.in_ok-generation.ensures.built)
    (counted_generation _ _ c.in_ok-generation.field-0 c.in-Generation.generation c.in-Generation.is c.in_ok-generation.ensures.counted)
    refl c.in_ok-text-in-Generation.ensures

pub returns-clause-means : goal.returns-clause-means
returns-clause-means g c =
    later_meant _ _ c.args.config c.in_ok-merged.merged c.fault.result c.in_ok-merged.ensures
    (built_later c.in_ok-merged.merged c.in_ok-generation.field-0 c.in-Later.is c.in_ok-generation.ensures.built)
    c.fault.ensures.generation c.fault.ensures.text
