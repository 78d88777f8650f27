use Rattle.std.proofs.Common.{◌≡◌, ◌&&◌, IsTrue, bytes_eq}
use Rattle.std.specs.List.{list_any}
use Rattle.form_urlencoded.specs.Form.{raw_pairs}
use Rattle.rule_eval.specs.Pairs.{Pair, pair_of, is_pair_found}
use Rattle.rule_eval.specs.Patterns.{finds}
use Rattle.rule_eval.specs.Views.{pattern_text}
use Rattle.rule_eval.proofs.Found.{ok_weaker, any_stands, is_found_so}
use Rattle.rule_eval.proofs.pairs.is_found_in_pairs.Goals as goal

pub returns : goal.returns
returns c =
    let key = c.args.key.now in
    let text = pattern_text c.args.pattern.now in
    let pairs = raw_pairs c.args.query.now in
    ok_weaker (λ r. r ≡ list_any (is_pair_found key text) pairs) _
    (λ r e. any_stands pair_of (λ (p : Pair). bytes_eq p.0 key && finds text p.1) (λ (p : Pair). (p.0 ≡ key) × IsTrue (finds text p.1)) (is_found_so key (finds text)) pairs r e) _ c.any_is_found.ensures
