-- What `apply_stage` answers.
use Rattle.std.specs.Prelude.{◌≡◌, ℕ, Bool, true, false, List, Option, None}
use Rattle.dyn_config.specs.declared.middleware.MiddlewareDef.{MiddlewareDef}
use Rattle.http_wire.specs.declared.message.Request.{Request}
use Rattle.ip_net.specs.declared.ip.Ip.{Ip}
use Rattle.middleware_stage.specs.Effects.{IsPassed, IsStopped, IsRedirected, is_over}
use Rattle.middleware_stage.specs.declared.stage.StageFlow.{StageFlow}
use Rattle.middleware_stage.specs.declared.stage.StageFlow.TheVariants.{Pass, Stop}

abbrev pub Flows : MiddlewareDef → Request → Ip → StageFlow → Type 0
Flows def q peer (Pass q' limit) = IsPassed def q peer q' limit
Flows def q peer (Stop status location) = IsStopped def q peer status location

-- what a redirect answers, where this is its target
abbrev pub RedirectFlows : Option (List ℕ) → Bool → Request → StageFlow → Type 0
RedirectFlows target permanent q (Pass q' limit) = (target ≡ None) × (q' ≡ q) × (limit ≡ None)
RedirectFlows target permanent q (Stop status location) = IsRedirected target permanent q status location

-- what an allow-list answers, where the peer is in it or not
abbrev pub GuardFlows : Type 0 → Request → StageFlow → Type 0
GuardFlows Allowed q (Pass q' limit) = Allowed × (q' ≡ q) × (limit ≡ None)
GuardFlows Allowed q (Stop status location) = ¬ Allowed × (status ≡ 403) × (location ≡ None)

-- what `buffering` answers, where this is its limit
abbrev pub LimitFlows : Option ℕ → Request → StageFlow → Type 0
LimitFlows most q (Pass q' limit) = (is_over most q.framing ≡ false) × (q' ≡ q) × (limit ≡ most)
LimitFlows most q (Stop status location) = (is_over most q.framing ≡ true) × (status ≡ 413) × (location ≡ None)
