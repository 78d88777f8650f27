-- What `build_stage` answers.
use Rattle.std.specs.Prelude.{◌≡◌, ℕ, List}
use Rattle.dyn_config.specs.declared.middleware.MiddlewareDef.{MiddlewareDef}
use Rattle.px_base.specs.Bytes.{one_more}
use Rattle.rule_eval.specs.Patterns.{IsPatternText}
use Rattle.middleware_stage.specs.Faults.{Blames, Counts, IsUsable, HasReadable, pattern_count}
use Rattle.middleware_stage.specs.Stage.{stage_def}
use Rattle.middleware_stage.specs.Views.{regex_text, replacement_text}
use Rattle.middleware_stage.specs.declared.building.BuiltRewrite.{BuiltRewrite}
use Rattle.middleware_stage.specs.declared.building.BuiltRewrite.TheVariants as rewrite
use Rattle.middleware_stage.specs.declared.stage.BuiltStage.{BuiltStage}
use Rattle.middleware_stage.specs.declared.stage.BuiltStage.TheVariants as built
use Rattle.middleware_stage.specs.declared.stage.StageFault.{StageFault}
use Rattle.middleware_stage.specs.declared.stage.StageFault.TheVariants as fault

-- the middleware as it was declared, or the first of its faults; the shop's count was `old` and is `new`
abbrev pub Builds : MiddlewareDef → ℕ → ℕ → ℕ → BuiltStage → Type 0
Builds def spare old new (built.Stage s) = (stage_def s ≡ def) × IsUsable def spare × (new ≡ old)
Builds def spare old new (built.Fault f) = Blames def spare f × Counts old new f

-- what a fault says of a pattern
abbrev pub BlamesPattern : List ℕ → StageFault → Type 0
BlamesPattern regex fault.Unsupported = ⊥
BlamesPattern regex fault.Value = ⊥
BlamesPattern regex fault.TooManyPatterns = ⊥
BlamesPattern regex fault.Syntax = ¬ (IsPatternText regex)
BlamesPattern regex fault.TooBig = IsPatternText regex

-- the pattern with its template, or why there is none
abbrev pub BuildsRewrite : List ℕ → List ℕ → ℕ → ℕ → BuiltRewrite → Type 0
BuildsRewrite regex replacement old new (rewrite.Rewrite r) =
    (regex_text r ≡ regex) × (replacement_text r ≡ replacement) × IsPatternText regex × (new ≡ old)
BuildsRewrite regex replacement old new (rewrite.Fault f) = BlamesPattern regex f × Counts old new f

-- the middleware as it was declared
abbrev pub IsStageOf : MiddlewareDef → BuiltStage → Type 0
IsStageOf def (built.Stage s) = stage_def s ≡ def
IsStageOf def (built.Fault f) = ⊥

-- the middleware as it was declared, or what is wrong with its pattern
abbrev pub BuildsFit : MiddlewareDef → ℕ → ℕ → BuiltStage → Type 0
BuildsFit def old new (built.Stage s) = (stage_def s ≡ def) × HasReadable def × (new ≡ old)
BuildsFit def old new (built.Fault fault.Unsupported) = ⊥
BuildsFit def old new (built.Fault fault.Value) = ⊥
BuildsFit def old new (built.Fault fault.TooManyPatterns) = ⊥
BuildsFit def old new (built.Fault fault.Syntax) = ¬ (HasReadable def) × (new ≡ old)
BuildsFit def old new (built.Fault fault.TooBig) = HasReadable def × (pattern_count def ≡ 1) × (new ≡ one_more old)
