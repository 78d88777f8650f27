use Rattle.std.proofs.Common.{◌≡◌}
use Rattle.std.specs.List.{list_any}
use Rattle.form_urlencoded.specs.Form.{raw_pairs}
use Rattle.form_urlencoded.specs.Parse.{raw_pairs_left}
use Rattle.rule_eval.specs.Pairs.{is_pair}
use Rattle.rule_eval.proofs.pairs.any_is_pair.Given as goal

-- the query has the pair exactly where what is left has it
abbrev pub invariant-pairs : goal.invariant-pairs
invariant-pairs l = list_any (is_pair l.fn.key l.fn.value) (raw_pairs l.fn.query) ≡ list_any (is_pair l.fn.key l.fn.value) (raw_pairs_left l.name-iterator)
