use Rattle.std.proofs.Common.{◌≡◌, ◌∙◌, ℕ, List, true, false, refl, sym}
use Rattle.rule_lang.specs.declared.matcher.Matcher.{Matcher}
use Rattle.rule_lang.specs.declared.matcher.Matcher.TheVariants.{Header, HeaderRegexp, Host, HostRegexp, Method, Path, PathPrefix, PathRegexp, Query, QueryRegexp, ClientIp}
use Rattle.rule_eval.specs.Calls.{has_pattern}
use Rattle.rule_eval.specs.Words.{has_words}
use Rattle.rule_eval.specs.Faults.{IsSoundBy}
use Rattle.rule_eval.proofs.compiling.compile_call.Goals as goal

worded : (m : Matcher) → has_pattern m ≡ false → (m ≡ Method → ⊥) → (m ≡ ClientIp → ⊥) → has_words m ≡ true
worded Header e n i = refl
worded HeaderRegexp e n i = absurd cc
worded Host e n i = refl
worded HostRegexp e n i = absurd cc
worded Method e n i = absurd (n refl)
worded Path e n i = refl
worded PathPrefix e n i = refl
worded PathRegexp e n i = absurd cc
worded Query e n i = refl
worded QueryRegexp e n i = absurd cc
worded ClientIp e n i = absurd (i refl)

sound_worded : (m : Matcher) (value : List ℕ) → has_words m ≡ true → IsSoundBy m value
sound_worded Header value e = tt
sound_worded HeaderRegexp value e = absurd cc
sound_worded Host value e = tt
sound_worded HostRegexp value e = absurd cc
sound_worded Method value e = tt
sound_worded Path value e = tt
sound_worded PathPrefix value e = tt
sound_worded PathRegexp value e = absurd cc
sound_worded Query value e = tt
sound_worded QueryRegexp value e = absurd cc
sound_worded ClientIp value e = absurd cc

pub words_probe-requires : goal.words_probe-requires
words_probe-requires g c = worded c.args.leaf.now.matcher (sym c.has_pattern.ensures ∙ c.if-has_pattern.false) c.in_default.not-Method c.in_default.not-ClientIp
