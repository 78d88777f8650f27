-- The one server of a service.
use Rattle.std.proofs.Common.{◌≡◌, ℕ, ◌<◌, ◌≤◌, List, [], ◌∷◌, length, get_or, Option, Some, None, MatchOption, sym, ap, ◌∙◌, subst, arith, All, Bool, IsTrue, ◌↔◌}
use Rattle.px_base.specs.declared.server.Server.{Server}
use Rattle.dyn_config.specs.declared.service.ServerDef.{ServerDef}
use Rattle.dyn_config.specs.declared.service.BalancerDef.{BalancerDef}
use Rattle.service_graph.specs.Urls.{IsServerUrl, IsUrlFault}
use Rattle.service_graph.specs.Only.{IsServer, IsOnlyOf, NamesNone, HasOnly, IsFirstForm}
use Rattle.dyn_config.specs.declared.merged.Entry.{Entry}
use Rattle.dyn_config.specs.declared.merged.Merged.{Merged}
use Rattle.dyn_config.specs.declared.router.RouterDef.{RouterDef}
use Rattle.dyn_config.specs.declared.service.ServiceDef.{ServiceDef}
use Rattle.service_graph.specs.declared.url.UrlFault.{UrlFault}
use Rattle.service_graph.specs.declared.url.UrlFault.TheVariants.{Scheme, BadUrl}

pub no_url : (url : List ℕ) (f : UrlFault) (host : List ℕ) (port : ℕ) → IsUrlFault url f → ¬ (IsServerUrl url host port)
no_url url Scheme host port told = told.1 host port
no_url url BadUrl host port told = told.1 host port

one_of : (ds : List ServerDef) (d : ServerDef) → 1 ≤ length ds → length ds < 2 → d ≡ get_or ds 0 d → ds ≡ d ∷ []
one_of [] d some few at = absurd (omega (arith, some))
one_of (x ∷ []) d some few at = ap (λ y. y ∷ []) (sym at)
one_of (x ∷ y ∷ ds) d some few at = absurd (omega (arith, few))

-- a slice of one
pub one_alone : (servers items : List ServerDef) (d : ServerDef) → items ≡ servers → 1 ≤ length items → length items < 2 → d ≡ get_or items 0 d → servers ≡ d ∷ []
one_alone servers items d same some few at = sym same ∙ one_of items d some few at

same_def : (d e : ServerDef) → d ∷ [] ≡ e ∷ [] → d ≡ e
same_def d e h = cc

pub only_from : (b : BalancerDef) (d : ServerDef) → b.servers ≡ d ∷ [] → b.sticky ≡ None → b.health ≡ None → (found : Option Server)
    → MatchOption found ((s : Server) → ¬ (IsServer d s)) (IsServer d) → MatchOption found ((s : Server) → ¬ (IsOnlyOf b s)) (IsOnlyOf b)
only_from b d alone not_sticky not_probed None never = λ s is.
    let P : ServerDef → Type 0 = λ x. IsServer x s in
    never s (subst P (same_def is.def d (sym is.alone ∙ alone)) is.is_server)
only_from b d alone not_sticky not_probed (Some s) is = record { not_sticky = not_sticky; not_probed = not_probed; def = d; alone = alone; is_server = is }

-- the services decide, where nothing else stands against the configuration
pub first_form_from : (m : Merged) (routers : List (Entry RouterDef)) (services : List (Entry ServiceDef)) → routers ≡ m.routers → services ≡ m.services
    → m.middlewares ≡ [] → All NamesNone routers → (answer : Bool) → IsTrue answer ↔ All HasOnly services → IsTrue answer ↔ IsFirstForm m
first_form_from m routers services same_r same_s none unnamed answer decides =
    let P : List (Entry RouterDef) → Type 0 = λ es. All NamesNone es in
    let Q : List (Entry ServiceDef) → Type 0 = λ es. All HasOnly es in
    (λ t. record { undeclared = none; unnamed = subst P same_r unnamed; only = subst Q same_s (decides.0 t) }, λ form. decides.1 (subst Q (sym same_s) form.only))
