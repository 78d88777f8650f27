-- A built middleware sets and removes only lines that may be.
use Rattle.std.proofs.Common.{◌≡◌, ◌∙◌, ℕ, List, Bool, true, false, refl, sym, ap, ap₂, subst}
use Rattle.dyn_config.specs.declared.middleware.MiddlewareDef.{MiddlewareDef}
use Rattle.dyn_config.specs.declared.middleware.MiddlewareDef.TheVariants.{AddPrefix, StripPrefix, ReplacePath, ReplacePathRegex, Headers, IpAllowList, Chain, Buffering, RedirectScheme, RedirectRegex, Unsupported}
use Rattle.rule_eval.specs.Patterns.{IsPatternText}
use Rattle.middleware_stage.specs.Built.{BuildsFit, IsStageOf}
use Rattle.middleware_stage.specs.Faults.{HasBadValue, HasReadable}
use Rattle.middleware_stage.specs.Lawful.{has_lawful_lines}
use Rattle.middleware_stage.specs.Stage.{stage_def}
use Rattle.middleware_stage.specs.Views.{kind_def}
use Rattle.middleware_stage.specs.declared.stage.Kind.{Kind}
use Rattle.middleware_stage.specs.declared.stage.BuiltStage.{BuiltStage}
use Rattle.middleware_stage.specs.declared.stage.BuiltStage.TheVariants as built
use Rattle.middleware_stage.specs.declared.stage.Stage.{Stage}

pub stage_lawful : (stage : Stage) → has_lawful_lines (stage_def stage) ≡ true
stage_lawful stage = stage.lawful

not_false : (b : Bool) → ¬ (b ≡ false) → b ≡ true
not_false true n = refl
not_false false n = absurd (n refl)

lawful_values : (def : MiddlewareDef) → ¬ (HasBadValue def) → has_lawful_lines def ≡ true
lawful_values (AddPrefix _) good = refl
lawful_values (StripPrefix _ _) good = refl
lawful_values (ReplacePath _) good = refl
lawful_values (ReplacePathRegex _ _) good = refl
lawful_values (Headers request response unsupported) good = not_false (has_lawful_lines (Headers request response unsupported)) good
lawful_values (IpAllowList _ _) good = refl
lawful_values (Chain _) good = refl
lawful_values (Buffering _ _) good = refl
lawful_values (RedirectScheme _ _ _) good = refl
lawful_values (RedirectRegex _ _ _) good = refl
lawful_values Unsupported good = refl

-- a middleware without a bad value has lawful lines, and so has what was built of it
pub kind_lawful : (kind : Kind) (def : MiddlewareDef) → kind_def kind ≡ def → ¬ (HasBadValue def) → has_lawful_lines (kind_def kind) ≡ true
kind_lawful kind def e good = ap has_lawful_lines e ∙ lawful_values def good

-- a middleware with a pattern that was built
pub fit_of : (def known : MiddlewareDef) (old new : ℕ) (b : BuiltStage) → IsStageOf known b → known ≡ def → HasReadable def → new ≡ old → BuildsFit def old new b
fit_of def known old new (built.Stage s) is same readable count = (is ∙ same, readable, count)
fit_of def known old new (built.Fault f) is same readable count = absurd is

pub path_fit : (def : MiddlewareDef) (regex replacement own own_replacement : List ℕ) (old new : ℕ) (b : BuiltStage) → IsStageOf (ReplacePathRegex own own_replacement) b
    → def ≡ ReplacePathRegex regex replacement → own ≡ regex → own_replacement ≡ replacement → IsPatternText regex → new ≡ old → BuildsFit def old new b
path_fit def regex replacement own own_replacement old new b is at e f readable count =
    let P : MiddlewareDef → Type 0 = λ d. HasReadable d in
    fit_of def (ReplacePathRegex own own_replacement) old new b is (ap₂ (λ (x y : List ℕ). ReplacePathRegex x y) e f ∙ sym at) (subst P (sym at) readable) count

pub redirect_fit : (def : MiddlewareDef) (regex replacement own own_replacement : List ℕ) (permanent : Bool) (old new : ℕ) (b : BuiltStage)
    → IsStageOf (RedirectRegex own own_replacement permanent) b → def ≡ RedirectRegex regex replacement permanent → own ≡ regex → own_replacement ≡ replacement → IsPatternText regex
    → new ≡ old → BuildsFit def old new b
redirect_fit def regex replacement own own_replacement permanent old new b is at e f readable count =
    let P : MiddlewareDef → Type 0 = λ d. HasReadable d in
    fit_of def (RedirectRegex own own_replacement permanent) old new b is (ap₂ (λ (x y : List ℕ). RedirectRegex x y permanent) e f ∙ sym at) (subst P (sym at) readable) count
