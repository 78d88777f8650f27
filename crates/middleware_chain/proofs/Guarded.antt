-- What an allow-list refuses stays refused.
use Rattle.std.proofs.Common.{◌≡◌, ◌∙◌, ℕ, ◌+◌, suc, List, [], ◌∷◌, ◌++◌, length, Option, Some, None, Bool, true, false, refl, sym, ap, subst, inl, inr, ⊎_elim, arith}
use Rattle.std.proofs.lemmas.Bool.{both_ways}
use Rattle.http_wire.specs.declared.message.Request.{Request}
use Rattle.ip_net.specs.declared.ip.Ip.{Ip}
use Rattle.dyn_config.specs.declared.middleware.MiddlewareDef.{MiddlewareDef}
use Rattle.dyn_config.specs.declared.middleware.MiddlewareDef.TheVariants.{AddPrefix, StripPrefix, ReplacePath, ReplacePathRegex, Headers, IpAllowList, Chain, Buffering, RedirectScheme, RedirectRegex, Unsupported}
use Rattle.middleware_stage.specs.Effects.{IsAllowed, IsPassed, IsRedirected, IsStopped, body_limit_of, is_over}
use Rattle.middleware_stage.specs.Redirects.{by_regex, by_scheme}
use Rattle.middleware_chain.specs.Folds.{ArePassed, PassesOn, StopsAt, Through, ThroughFrom, least}
use Rattle.middleware_chain.specs.declared.flow.Flow.{Flow}
use Rattle.middleware_chain.specs.declared.flow.Flow.TheVariants.{Pass, Stop}

no_redirect : (o : Option (List ℕ)) (permanent : Bool) (q : Request) (status : ℕ) (location : Option (List ℕ)) → o ≡ None → IsRedirected o permanent q status location → ⊥
no_redirect None permanent q status location e r = r
no_redirect (Some target) permanent q status location e r = absurd cc

-- a middleware doesn't pass a request on and stop it
never_both : (def : MiddlewareDef) (q next : Request) (peer : Ip) (own : Option ℕ) (status : ℕ) (location : Option (List ℕ))
    → IsPassed def q peer next own → IsStopped def q peer status location → ⊥
never_both (AddPrefix prefix) q next peer own status location p s = s
never_both (StripPrefix prefixes unsupported) q next peer own status location p s = s
never_both (ReplacePath path) q next peer own status location p s = s
never_both (ReplacePathRegex regex replacement) q next peer own status location p s = s
never_both (Headers request response unsupported) q next peer own status location p s = s
never_both (IpAllowList ranges unsupported) q next peer own status location p s = s.0 p.0
never_both (Chain names) q next peer own status location p s = s
never_both (Buffering max_body unsupported) q next peer own status location p s = both_ways (is_over (body_limit_of max_body) q.framing) p.0 s.0
never_both (RedirectScheme scheme port permanent) q next peer own status location p s = no_redirect (by_scheme scheme port q) permanent q status location p.0 s
never_both (RedirectRegex regex replacement permanent) q next peer own status location p s = no_redirect (by_regex regex replacement q) permanent q status location p.0 s
never_both Unsupported q next peer own status location p s = s

-- it passes it on as one request
one_next : (def : MiddlewareDef) (q a b : Request) (peer : Ip) (own other : Option ℕ) → IsPassed def q peer a own → IsPassed def q peer b other → a ≡ b
one_next (AddPrefix prefix) q a b peer own other x y = x.0 ∙ sym y.0
one_next (StripPrefix prefixes unsupported) q a b peer own other x y = x.0 ∙ sym y.0
one_next (ReplacePath path) q a b peer own other x y = x.0 ∙ sym y.0
one_next (ReplacePathRegex regex replacement) q a b peer own other x y = x.0 ∙ sym y.0
one_next (Headers request response unsupported) q a b peer own other x y = x.0 ∙ sym y.0
one_next (IpAllowList ranges unsupported) q a b peer own other x y = x.1 ∙ sym y.1
one_next (Chain names) q a b peer own other x y = absurd x
one_next (Buffering max_body unsupported) q a b peer own other x y = x.1 ∙ sym y.1
one_next (RedirectScheme scheme port permanent) q a b peer own other x y = x.1 ∙ sym y.1
one_next (RedirectRegex regex replacement permanent) q a b peer own other x y = x.1 ∙ sym y.1
one_next Unsupported q a b peer own other x y = absurd x

stop_at : (n : ℕ) (ranges : List (List ℕ)) (unsupported : Bool) (q : Request) (peer : Ip) (flow : Flow) → StopsAt n (IpAllowList ranges unsupported) q peer flow → flow ≡ Stop n 403 None
stop_at n ranges unsupported q peer (Pass q' limit) s = absurd s
stop_at n ranges unsupported q peer (Stop place status location) (here, stops) =
    let p : place ≡ n = here in
    let s : status ≡ 403 = stops.1 in
    let l : location ≡ None = stops.2 in
    cc

no_stop : (n : ℕ) (def : MiddlewareDef) (q next : Request) (peer : Ip) (own : Option ℕ) (flow : Flow) → IsPassed def q peer next own → StopsAt n def q peer flow → ⊥
no_stop n def q next peer own (Pass q' limit) p s = s
no_stop n def q next peer own (Stop place status location) p (here, stops) = never_both def q next peer own status location p stops

guard_first : (n : ℕ) (limit : Option ℕ) (ranges : List (List ℕ)) (unsupported : Bool) (back : List MiddlewareDef) (q : Request) (peer : Ip) (flow : Flow)
    → ¬ (IsAllowed ranges peer) → ThroughFrom n limit (IpAllowList ranges unsupported ∷ back) q peer flow → flow ≡ Stop n 403 None
guard_first n limit ranges unsupported back q peer flow out (inl s) = stop_at n ranges unsupported q peer flow s
guard_first n limit ranges unsupported back q peer flow out (inr p) = absurd (out p.passed.0)

guard_from : (front : List MiddlewareDef) (n : ℕ) (limit : Option ℕ) (back : List MiddlewareDef) (ranges : List (List ℕ)) (unsupported : Bool) (q next : Request) (peer : Ip) (flow : Flow)
    → ArePassed front q peer next → ¬ (IsAllowed ranges peer)
    → ThroughFrom n limit (front ++ IpAllowList ranges unsupported ∷ back) q peer flow → flow ≡ Stop (n + length front) 403 None
guard_from [] n limit back ranges unsupported q next peer flow passed out t =
    let same : n ≡ n + 0 = omega arith in
    guard_first n limit ranges unsupported back q peer flow out t ∙ ap (λ (k : ℕ). Stop k 403 None) same
guard_from (def ∷ front) n limit back ranges unsupported q next peer flow passed out (inl s) = absurd (no_stop n def q passed.next peer passed.own flow passed.passed s)
guard_from (def ∷ front) n limit back ranges unsupported q next peer flow passed out (inr p) =
    let same : p.next ≡ passed.next = one_next def q p.next passed.next peer p.own passed.own p.passed passed.passed in
    let P : Request → Type 0 = λ r. ThroughFrom (n + 1) (least limit p.own) (front ++ IpAllowList ranges unsupported ∷ back) r peer flow in
    let told = guard_from front (n + 1) (least limit p.own) back ranges unsupported passed.next next peer flow passed.rest out (subst P same p.rest) in
    let places : n + 1 + length front ≡ n + suc (length front) = omega arith in
    told ∙ ap (λ (k : ℕ). Stop k 403 None) places

pub guarded : (front back : List MiddlewareDef) (ranges : List (List ℕ)) (unsupported : Bool) (q next : Request) (peer : Ip) (flow : Flow)
    → ArePassed front q peer next → ¬ (IsAllowed ranges peer) → Through (front ++ IpAllowList ranges unsupported ∷ back) q peer flow → flow ≡ Stop (length front) 403 None
guarded front back ranges unsupported q next peer flow passed out t =
    let places : 0 + length front ≡ length front = omega arith in
    guard_from front 0 None back ranges unsupported q next peer flow passed out t ∙ ap (λ (k : ℕ). Stop k 403 None) places
