-- The rule that a compiled one is of.
use Rattle.rule_lang.specs.declared.matcher.Matcher.TheVariants.{Header, HeaderRegexp, Host, HostRegexp, Method, Path, PathPrefix, PathRegexp, Query, QueryRegexp, ClientIp}
use Rattle.rule_lang.specs.Trees.{Tree, call, negation, both, either}
use Rattle.rule_eval.specs.Views.{pattern_text}
use Rattle.rule_eval.specs.declared.probe.Probe.{Probe}
use Rattle.rule_eval.specs.declared.probe.Probe.TheVariants as probe
use Rattle.rule_eval.specs.declared.check.Check.{Check, fold-Check}
use Rattle.rule_eval.specs.declared.check.Check.TheOpen.{Check-F}

-- the call that a compiled one is of
abbrev pub probe_call : Probe → Tree
probe_call (probe.Header w) = call Header w.key w.value
probe_call (probe.HeaderRegexp s) = call HeaderRegexp s.key (pattern_text s.pattern)
probe_call (probe.Host w) = call Host w.key w.value
probe_call (probe.HostRegexp s) = call HostRegexp s.key (pattern_text s.pattern)
probe_call (probe.Method w) = call Method w.key w.value
probe_call (probe.Path w) = call Path w.key w.value
probe_call (probe.PathPrefix w) = call PathPrefix w.key w.value
probe_call (probe.PathRegexp s) = call PathRegexp s.key (pattern_text s.pattern)
probe_call (probe.Query w) = call Query w.key w.value
probe_call (probe.QueryRegexp s) = call QueryRegexp s.key (pattern_text s.pattern)
probe_call (probe.ClientIp n) = call ClientIp n.key n.text

abbrev pub check_step : Check-F Tree → Tree
check_step (Check-F.Leaf p) = probe_call p
check_step (Check-F.Not r) = negation r
check_step (Check-F.And order r s) = both r s
check_step (Check-F.Or order r s) = either r s

-- the rule
abbrev pub rule_of : Check → Tree
rule_of = fold-Check Tree check_step
