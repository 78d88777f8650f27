-- The text of a configuration as it runs under a number.
use Rattle.std.specs.Prelude.{ℕ, List, ◌++◌, codes}
use Rattle.std.specs.Fmt.{decimal}
use Rattle.middleware_chain.specs.Lines.{lines_of as middleware_lines}
use Rattle.runtime_config.specs.declared.config.RuntimeConfig.{RuntimeConfig}
use Rattle.generation_text.specs.Texts.{rows_text}
use Rattle.generation_text.specs.Services.{services_lines}

-- `generation <n>`
abbrev pub number_line : ℕ → List ℕ
number_line number = codes "generation " ++ decimal number ++ codes "\n"

-- its number; its routers, its services and its middlewares by name; `end`
abbrev pub generation_text : ℕ → RuntimeConfig → List ℕ
generation_text number r =
    number_line number ++ rows_text 0 r.table.rows ++ services_lines r.graph r.merged.services ++ middleware_lines r.chains.middlewares ++ codes "end\n"
