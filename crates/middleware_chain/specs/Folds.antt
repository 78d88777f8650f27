-- What a list of middlewares makes of a request and of a reply.
use Rattle.std.specs.Prelude.{◌≡◌, ℕ, ◌+◌, ◌⊎◌, min, List, [], ◌∷◌, Option, Some, None}
use Rattle.dyn_config.specs.declared.middleware.MiddlewareDef.{MiddlewareDef}
use Rattle.http_wire.specs.declared.message.Reply.{Reply}
use Rattle.http_wire.specs.declared.message.Request.{Request}
use Rattle.ip_net.specs.declared.ip.Ip.{Ip}
use Rattle.middleware_stage.specs.Effects.{IsPassed, IsReplied, IsStopped}
use Rattle.middleware_chain.specs.declared.flow.Flow.{Flow}
use Rattle.middleware_chain.specs.declared.flow.Flow.TheVariants.{Pass, Stop}

-- the lesser of two limits of a body, where there are any
abbrev pub least : Option ℕ → Option ℕ → Option ℕ
least None b = b
least (Some m) None = Some m
least (Some m) (Some n) = Some (min m n)

-- the middleware passes the request on as `next`, with its own limit of the body, and the rest is done to that
pub record PassesOn (def : MiddlewareDef) (q : Request) (peer : Ip) (Rest : Request → Option ℕ → Type 0) : Type 0 where
  pub next : Request
  pub own : Option ℕ
  pub passed : IsPassed def q peer next own
  pub rest : Rest next own

-- the middleware at this place stops the request
abbrev pub StopsAt : ℕ → MiddlewareDef → Request → Ip → Flow → Type 0
StopsAt n def q peer (Pass q' limit) = ⊥
StopsAt n def q peer (Stop place status location) = (place ≡ n) × IsStopped def q peer status location

-- what becomes of a request that these middlewares are asked of in turn, the first having the place n: the first that stops it
-- stops it there, and where each passes it on it has the least of their limits and of `limit`
abbrev pub ThroughFrom : ℕ → Option ℕ → List MiddlewareDef → Request → Ip → Flow → Type 0
ThroughFrom n limit [] q peer flow = flow ≡ Pass q limit
ThroughFrom n limit (def ∷ defs) q peer flow =
    StopsAt n def q peer flow ⊎ PassesOn def q peer (λ next own. ThroughFrom (n + 1) (least limit own) defs next peer flow)

abbrev pub Through : List MiddlewareDef → Request → Ip → Flow → Type 0
Through defs q peer flow = ThroughFrom 0 None defs q peer flow

-- the last middleware is asked of a reply first, and the first one last
abbrev pub BackThrough : List MiddlewareDef → Reply → Reply → Type 0
BackThrough [] a a' = a' ≡ a
BackThrough (def ∷ defs) a a' = (between : Reply) × BackThrough defs a between × IsReplied def between a'

-- each middleware passes the request on, and after all of them it is `next`
abbrev pub ArePassed : List MiddlewareDef → Request → Ip → Request → Type 0
ArePassed [] q peer next = next ≡ q
ArePassed (def ∷ defs) q peer next = PassesOn def q peer (λ q' own. ArePassed defs q' peer next)
