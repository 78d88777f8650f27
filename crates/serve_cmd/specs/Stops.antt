-- Why nothing is served.
use Rattle.serve_cmd.specs.declared.loading.Stop.{Stop}
use Rattle.serve_cmd.specs.declared.loading.Stop.TheVariants as stop

-- why there is no load: the files failed
abbrev pub IsLoadStop : Type 0 → Stop → Type 0
IsLoadStop files_failed stop.Load = files_failed
IsLoadStop files_failed stop.Write = ⊥
IsLoadStop files_failed stop.Memory = Unit {0}

-- Why there is no beginning: the files failed, or memory ran out, and nothing was written; or the output failed, after a
-- part of the text.
abbrev pub IsStop : (files_failed out_failed silent cut : Type 0) → Stop → Type 0
IsStop files_failed out_failed silent cut stop.Load = files_failed × silent
IsStop files_failed out_failed silent cut stop.Write = out_failed × cut
IsStop files_failed out_failed silent cut stop.Memory = silent
