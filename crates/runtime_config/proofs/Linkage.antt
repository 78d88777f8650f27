-- The chain of each row.
use Rattle.std.proofs.Common.{◌≡◌, ◌∙◌, ◌≤◌, ℕ, zero, suc, List, [], ◌∷◌, Option, Some, None, Bool, true, false, slice_get, refl, sym, ap, subst}
use Rattle.std.specs.List.{AllZip}
use Rattle.std.proofs.lemmas.Bool.{false≢true}
use Rattle.middleware_chain.specs.Built.{AreChains}
use Rattle.middleware_chain.specs.Chained.{IsChainOf, defs_of}
use Rattle.middleware_chain.specs.Counts.{are_all_usable, flat_length}
use Rattle.middleware_chain.specs.Flattened.{IsFlattened}
use Rattle.middleware_chain.specs.Names.{MiddlewareEntry}
use Rattle.middleware_chain.specs.declared.chain.Chain.{Chain}
use Rattle.middleware_chain.specs.declared.chains.Chains.{Chains}
use Rattle.router_table.specs.Winner.{is_enabled_state}
use Rattle.router_table.specs.declared.fault.RouterFault.{RouterFault}
use Rattle.router_table.specs.declared.row.Row.{Row}
use Rattle.router_table.specs.declared.row.Search.{Search}
use Rattle.router_table.specs.declared.row.RouterState.{RouterState}
use Rattle.router_table.specs.declared.row.RouterState.TheVariants.{Enabled, Disabled}
use Rattle.runtime_config.specs.Linked.{AreLinked, HasUsableBy, IsLink, IsLinkBy, IsNamed, is_linked, link_in, link_at, stages_in}
use Rattle.runtime_config.specs.Runtime.{HasStages}

some_same : {X : Type 0} (x y : X) → Some x ≡ Some y → x ≡ y
some_same x y e = cc

-- what stands beside an element
pub zip_at : {A B : Type 0} (R : A → B → Type 0) (xs : List A) (ys : List B) (n : ℕ) (x : A) → AllZip R xs ys → slice_get xs n ≡ Some x
    → (y : B) × (slice_get ys n ≡ Some y) × R x y
zip_at {A} {B} R [] [] n x all at = absurd (cc)
zip_at {A} {B} R [] (b ∷ ys) n x all at = absurd all
zip_at {A} {B} R (a ∷ xs) [] n x all at = absurd all
zip_at {A} {B} R (a ∷ xs) (b ∷ ys) zero x all at = let P : A → Type 0 = λ z. R z b in (b, refl, subst P (some_same a x at) all.0)
zip_at {A} {B} R (a ∷ xs) (b ∷ ys) (suc n) x all at = zip_at R xs ys n x all.1 at

linked_by : (chains : Chains) (state : RouterState) (link : Option Chain) → IsLinkBy chains state link → is_enabled_state state ≡ true → is_linked chains link ≡ true
linked_by chains (Enabled service names search) None is on = absurd is
linked_by chains (Enabled service names search) (Some chain) is on = is.built
linked_by chains (Disabled fault) link is on = absurd (false≢true on)

-- each enabled router has its chain
pub all_linked : (chains : Chains) (rows : List Row) (links : List (Option Chain)) → AllZip (IsLink chains) rows links → AreLinked chains rows links
all_linked chains rows links all = λ number row at on.
    let beside = zip_at (IsLink chains) rows links number row all at in
    ap (λ (o : Option (Option Chain)). is_linked chains (link_in o)) beside.1 ∙ linked_by chains row.state beside.0 beside.2 on

stages_by : (all : List MiddlewareEntry) (spare : ℕ) (chains : Chains) (state : RouterState) (link : Option Chain) → AreChains all spare chains → IsLinkBy chains state link
    → HasStages all state (stages_in chains link)
stages_by all spare chains (Enabled service names search) None are is = absurd is
stages_by all spare chains (Enabled service names search) (Some chain) are is = is.flattened all spare are
stages_by all spare chains (Disabled fault) link are is = ap (stages_in chains) is

-- each enabled router has the middlewares that its names stand for
pub all_staged : (all : List MiddlewareEntry) (spare : ℕ) (chains : Chains) (rows : List Row) (links : List (Option Chain)) → AreChains all spare chains
    → AllZip (IsLink chains) rows links → (number : ℕ) (row : Row) → slice_get rows number ≡ Some row → HasStages all row.state (stages_in chains (link_at links number))
all_staged all spare chains rows links are zipped number row at =
    let beside = zip_at (IsLink chains) rows links number row zipped at in
    let P : Option (Option Chain) → Type 0 = λ o. HasStages all row.state (stages_in chains (link_in o)) in
    subst P (sym beside.1) (stages_by all spare chains row.state beside.0 are beside.2)

-- the same rows
pub zip_along : (chains : Chains) (items rows : List Row) (links : List (Option Chain)) → items ≡ rows → AllZip (IsLink chains) items links → AllZip (IsLink chains) rows links
zip_along chains items rows links same all = let P : List Row → Type 0 = λ rs. AllZip (IsLink chains) rs links in subst P same all

-- what a router in an enabled state names can be used
pub names_usable : (chains : Chains) (state : RouterState) (service : List ℕ) (names texts : List (List ℕ)) (search : Search) → state ≡ Enabled service names search → texts ≡ names
    → HasUsableBy chains state → (are_all_usable chains.middlewares texts ≡ true) × (flat_length chains.middlewares texts ≤ 64)
names_usable chains state service names texts search is same has =
    let own : HasUsableBy chains (Enabled service names search) = subst (HasUsableBy chains) is has in
    let P : List (List ℕ) → Type 0 = λ ts. flat_length chains.middlewares ts ≤ 64 in
    (ap (are_all_usable chains.middlewares) same ∙ own.0, subst P (sym same) own.1)

-- its chain
pub link_so : (chains : Chains) (state : RouterState) (service : List ℕ) (names texts : List (List ℕ)) (search : Search) (chain : Chain) → state ≡ Enabled service names search
    → texts ≡ names → IsChainOf chains chain
    → ((all : List MiddlewareEntry) (spare : ℕ) → AreChains all spare chains → IsFlattened all texts (defs_of chains chain)) → IsLinkBy chains state (Some chain)
link_so chains state service names texts search chain is same there flat =
    let P : RouterState → Type 0 = λ st. IsLinkBy chains st (Some chain) in
    let named : IsNamed chains names chain = record {
      built = there;
      flattened = λ all spare are. (let Q : List (List ℕ) → Type 0 = λ ts. IsFlattened all ts (defs_of chains chain) in subst Q same (flat all spare are));
    } in
    subst P (sym is) named

-- no chain for a disabled one
pub no_link : (chains : Chains) (state : RouterState) (fault : RouterFault) → state ≡ Disabled fault → IsLinkBy chains state None
no_link chains state fault is = let P : RouterState → Type 0 = λ st. IsLinkBy chains st None in subst P (sym is) refl
