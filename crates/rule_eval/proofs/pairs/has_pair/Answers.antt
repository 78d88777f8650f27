use Rattle.std.proofs.Common.{◌≡◌, ◌&&◌, bytes_eq}
use Rattle.std.specs.List.{list_any}
use Rattle.form_urlencoded.specs.Form.{raw_pairs}
use Rattle.rule_eval.specs.Pairs.{Pair, pair_of, is_pair}
use Rattle.rule_eval.proofs.Found.{ok_weaker, any_stands, is_pair_so}
use Rattle.rule_eval.proofs.pairs.has_pair.Goals as goal

pub returns : goal.returns
returns c =
    let key = c.args.key.now in
    let value = c.args.value.now in
    let pairs = raw_pairs c.args.query.now in
    ok_weaker (λ r. r ≡ list_any (is_pair key value) pairs) _
    (λ r e. any_stands pair_of (λ (p : Pair). bytes_eq p.0 key && bytes_eq p.1 value) (λ (p : Pair). (p.0 ≡ key) × (p.1 ≡ value)) (is_pair_so key value) pairs r e) _ c.any_is_pair.ensures
