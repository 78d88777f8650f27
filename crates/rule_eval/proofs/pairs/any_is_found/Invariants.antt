use Rattle.std.proofs.Common.{◌≡◌}
use Rattle.std.specs.List.{list_any}
use Rattle.form_urlencoded.specs.Form.{raw_pairs}
use Rattle.form_urlencoded.specs.Parse.{raw_pairs_left}
use Rattle.rule_eval.specs.Pairs.{is_pair_found}
use Rattle.rule_eval.specs.Views.{pattern_text}
use Rattle.rule_eval.proofs.pairs.any_is_found.Given as goal

-- the query has such a pair exactly where what is left has one
abbrev pub invariant-pairs : goal.invariant-pairs
invariant-pairs l = list_any (is_pair_found l.fn.key (pattern_text l.fn.pattern)) (raw_pairs l.fn.query) ≡ list_any (is_pair_found l.fn.key (pattern_text l.fn.pattern)) (raw_pairs_left l.name-iterator)
