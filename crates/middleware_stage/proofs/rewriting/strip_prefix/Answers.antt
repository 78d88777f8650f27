use Rattle.std.proofs.Common.{◌≡◌, ◌∙◌, List, ℕ, Option, Some, ap}
use Rattle.http_wire.specs.declared.message.Request.{Request}
use Rattle.middleware_stage.specs.Effects.{without_prefix, stripped}
use Rattle.rule_eval.proofs.Found.{ok_weaker}
use Rattle.middleware_stage.proofs.rewriting.strip_prefix.Goals as goal

pub returns-in-Some : goal.returns-in-Some
returns-in-Some c =
    let first = rw c.as_slice.ensures at c.in-Some.ensures.first in
    ok_weaker (λ (cut : Request). cut ≡ without_prefix (Some c.in-Some.prefix.now) c.args.request) (λ (cut : Request). cut ≡ stripped c.args.prefixes.now c.args.request)
    (λ cut e. e ∙ ap (λ (o : Option (List ℕ)). without_prefix o c.args.request) first) _ c.cut_prefix.ensures
