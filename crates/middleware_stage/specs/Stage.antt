-- What a contract sees of a built middleware: how it was declared.
use Rattle.dyn_config.specs.declared.middleware.MiddlewareDef.{MiddlewareDef}
use Rattle.middleware_stage.specs.Views.{kind_def}
use Rattle.middleware_stage.specs.declared.stage.Stage.{Stage}

-- the middleware as it was declared
abbrev pub stage_def : Stage → MiddlewareDef
stage_def stage = kind_def stage.kind
