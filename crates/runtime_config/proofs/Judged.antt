-- What is known of rows by what their routers were judged by.
use Rattle.std.proofs.Common.{◌≡◌, ◌∙◌, ℕ, ◌+◌, ◌≤◌, zero, suc, List, [], ◌∷◌, length, get_or, map, All, Option, Some, None, Bool, true, false, ◌&&◌, IsTrue, slice_get, nat_cmp, refl, sym, ap, subst, arith}
use Rattle.std.specs.List.{list_all}
use Rattle.std.specs.List.Sorted.{IsStrictlySortedBy}
use Rattle.std.specs.Cmp.Lexicographic.{slice_cmp}
use Rattle.std.proofs.lemmas.Bool.{false≢true}
use Rattle.std.proofs.lemmas.List.Elements.{All-cons, All-nil}
use Rattle.dyn_config.specs.Joined.{IsQualified}
use Rattle.middleware_chain.specs.Built.{AreChains, listed_name}
use Rattle.middleware_chain.specs.Counts.{Listed, are_all_usable, flat_length}
use Rattle.middleware_chain.specs.Names.{MiddlewareEntry, name_of as name_of_middleware}
use Rattle.middleware_chain.specs.declared.chains.Chains.{Chains}
use Rattle.router_table.specs.Rows.{AreRows, IsState}
use Rattle.router_table.specs.Settings.{Setting, RouterEntry, Usable, chain_length, chain_of, is_listed, is_usable}
use Rattle.router_table.specs.declared.row.Row.{Row}
use Rattle.router_table.specs.declared.row.RouterState.{RouterState}
use Rattle.router_table.specs.declared.row.RouterState.TheVariants.{Enabled, Disabled}
use Rattle.service_nodes.specs.Nodes.{node_number}
use Rattle.service_nodes.specs.declared.node.Node.{Node}
use Rattle.runtime_config.specs.Linked.{HasUsable, HasUsableBy, has_node, has_node_by}
use Rattle.runtime_config.specs.Usable.{name_of, usable_of}
use Rattle.runtime_config.proofs.Counting.{AreApart, length_same, usable_same}
use Rattle.runtime_config.proofs.Numbered.{listed_numbered}

both : (a b : Bool) → a ≡ true → b ≡ true → (a && b) ≡ true
both a b x y = rw (x, y) refl

first_of : (a b : Bool) → (a && b) ≡ true → a ≡ true
first_of true b e = refl
first_of false b e = e

rest_of : (a b : Bool) → (a && b) ≡ true → b ≡ true
rest_of true b e = e
rest_of false b e = absurd (false≢true e)

some_same : {X : Type 0} (x y : X) → Some x ≡ Some y → x ≡ y
some_same x y e = cc

has_node_so : (s : Setting) (left : ℕ) (e : RouterEntry) (nodes : List Node) (state : RouterState) → s.usable_services ≡ map name_of nodes → IsState s left e state
    → has_node_by nodes state ≡ true
has_node_so s left e nodes (Enabled service names search) same is =
    sym (listed_numbered 0 nodes service) ∙ ap (λ (u : List (List ℕ)). is_listed u service) (sym same) ∙ ap (is_listed s.usable_services) is.1 ∙ is.0.served.usable
has_node_so s left e nodes (Disabled fault) same is = refl

-- the service of each enabled router is a node
pub rows_led : (s : Setting) (left : ℕ) (es : List RouterEntry) (rows : List Row) (nodes : List Node) → s.usable_services ≡ map name_of nodes → AreRows s left es rows
    → IsTrue (list_all (has_node nodes) rows)
rows_led s left [] [] nodes same are = refl
rows_led s left [] (r ∷ rs) nodes same are = absurd are
rows_led s left (e ∷ es) [] nodes same are = absurd are
rows_led s left (e ∷ es) (r ∷ rs) nodes same (is, (after, leaves, rest)) =
    both (has_node nodes r) (list_all (has_node nodes) rs) (has_node_so s left e nodes r.state same is.state) (rows_led s after es rs nodes same rest)

pub node_at : (nodes : List Node) (rows : List Row) (n : ℕ) (row : Row) → IsTrue (list_all (has_node nodes) rows) → slice_get rows n ≡ Some row → has_node nodes row ≡ true
node_at nodes [] n row led at = absurd (cc)
node_at nodes (r ∷ rs) zero row led at = ap (has_node nodes) (sym (some_same r row at)) ∙ first_of (has_node nodes r) (list_all (has_node nodes) rs) led
node_at nodes (r ∷ rs) (suc n) row led at = node_at nodes rs n row (rest_of (has_node nodes r) (list_all (has_node nodes) rs) led) at

has_usable_so : (s : Setting) (left : ℕ) (e : RouterEntry) (chains : Chains) (state : RouterState) → s.usable_middlewares ≡ usable_of chains.middlewares
    → AreApart chains.middlewares → IsState s left e state → HasUsableBy chains state
has_usable_so s left e chains (Enabled service names search) same up is =
    let ms : List Listed = chains.middlewares in
    let P : List Usable → Type 0 = λ us. list_all (is_usable us) (chain_of e) ≡ true in
    let usable : are_all_usable ms names ≡ true = ap (are_all_usable ms) is.2 ∙ usable_same ms (chain_of e) up ∙ subst P same is.0.chained.usable in
    let long : flat_length ms names ≡ chain_length s.usable_middlewares (chain_of e) =
    ap (flat_length ms) is.2 ∙ length_same ms (chain_of e) up ∙ ap (λ (us : List Usable). chain_length us (chain_of e)) (sym same) in
    let Q : ℕ → Type 0 = λ n. n ≤ 64 in
    (usable, subst Q (sym long) is.0.chained.short)
has_usable_so s left e chains (Disabled fault) same up is = tt

-- the middlewares of each enabled router can be used, and are few
pub rows_usable : (s : Setting) (left : ℕ) (es : List RouterEntry) (rows : List Row) (chains : Chains) → s.usable_middlewares ≡ usable_of chains.middlewares
    → AreApart chains.middlewares → AreRows s left es rows → All (HasUsable chains) rows
rows_usable s left [] [] chains same up are = All-nil (HasUsable chains)
rows_usable s left [] (r ∷ rs) chains same up are = absurd are
rows_usable s left (e ∷ es) [] chains same up are = absurd are
rows_usable s left (e ∷ es) (r ∷ rs) chains same up (is, (after, leaves, rest)) =
    All-cons (HasUsable chains) r rs (has_usable_so s left e chains r.state same up is.state) (rows_usable s after es rs chains same up rest)

-- the names of a configuration's middlewares are apart
pub chains_apart : (all : List MiddlewareEntry) (spare : ℕ) (chains : Chains) → IsQualified all → AreChains all spare chains → AreApart chains.middlewares
chains_apart all spare chains qualified are =
    let P : List (List ℕ) → Type 0 = λ names. IsStrictlySortedBy (slice_cmp nat_cmp) names in
    subst P (sym are.names) qualified.0
