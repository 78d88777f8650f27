-- The text of a generation.
use Rattle.std.specs.Prelude.{◌≡◌, ℕ, List, ◌++◌, codes}
use Rattle.std.specs.Fmt.{decimal}
use Rattle.dyn_config.specs.declared.merged.Merged.{Merged}
use Rattle.generation.specs.declared.generation.Generation.{Generation}
use Rattle.generation_text.specs.Texts.{rows_text, PrintServices}

-- the number, the routers by name, the services by name, and `end`
abbrev pub IsGenerationText : Merged → Generation → List ℕ → Type 0
IsGenerationText m g text =
    (services : List ℕ) × PrintServices 0 m.services services
    × (text ≡ codes "generation " ++ decimal g.number ++ codes "\n" ++ rows_text 0 g.table.rows ++ services ++ codes "end\n")
