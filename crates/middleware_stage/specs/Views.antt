-- What a middleware of a kind was declared as.
use Rattle.std.specs.Prelude.{ℕ, false, List, map, string_bytes}
use Rattle.dyn_config.specs.declared.middleware.MiddlewareDef.{MiddlewareDef}
use Rattle.dyn_config.specs.declared.middleware.MiddlewareDef.TheVariants as middleware
use Rattle.rule_eval.specs.Views.{pattern_text}
use Rattle.middleware_stage.specs.declared.range.Range.{Range}
use Rattle.middleware_stage.specs.declared.stage.Rewrite.{Rewrite}
use Rattle.middleware_stage.specs.declared.stage.Kind.{Kind}
use Rattle.middleware_stage.specs.declared.stage.Kind.TheVariants as kind

abbrev pub range_texts : List Range → List (List ℕ)
range_texts ranges = map (λ r. r.text) ranges

abbrev pub regex_text : Rewrite → List ℕ
regex_text r = pattern_text r.pattern

abbrev pub replacement_text : Rewrite → List ℕ
replacement_text r = string_bytes r.replacement

abbrev pub kind_def : Kind → MiddlewareDef
kind_def (kind.AddPrefix prefix) = middleware.AddPrefix prefix
kind_def (kind.StripPrefix prefixes) = middleware.StripPrefix prefixes false
kind_def (kind.ReplacePath path) = middleware.ReplacePath path
kind_def (kind.ReplacePathRegex rewrite) = middleware.ReplacePathRegex (regex_text rewrite) (replacement_text rewrite)
kind_def (kind.Headers request response) = middleware.Headers request response false
kind_def (kind.IpAllowList ranges) = middleware.IpAllowList (range_texts ranges) false
kind_def (kind.Buffering max_body) = middleware.Buffering max_body false
kind_def (kind.RedirectScheme scheme port permanent) = middleware.RedirectScheme scheme port permanent
kind_def (kind.RedirectRegex rewrite permanent) = middleware.RedirectRegex (regex_text rewrite) (replacement_text rewrite) permanent
