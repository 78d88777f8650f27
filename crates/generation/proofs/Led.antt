-- The service of each enabled router is among the nodes.
use Rattle.std.proofs.Common.{◌≡◌, ℕ, zero, suc, ◌<◌, ◌≤◌, List, [], ◌∷◌, length, get_or, map, slice_get, Some, None, Option, MatchOption, Bool, true, false, ◌&&◌, IsTrue, refl, sym, ap, ◌∙◌}
use Rattle.std.specs.List.{list_all}
use Rattle.std.proofs.lemmas.Bool.{false≢true}
use Rattle.std.proofs.lemmas.Option.{slice_get_read, slice_get_past}
use Rattle.router_table.specs.Settings.{Setting, RouterEntry, is_listed}
use Rattle.router_table.specs.Rows.{AreRows, IsState}
use Rattle.router_table.specs.Winner.{is_enabled_state}
use Rattle.router_table.specs.declared.fault.RouterFault.{RouterFault}
use Rattle.router_table.specs.declared.row.Row.{Row}
use Rattle.router_table.specs.declared.row.Search.{Search}
use Rattle.router_table.specs.declared.row.RouterState.{RouterState}
use Rattle.router_table.specs.declared.row.RouterState.TheVariants.{Enabled, Disabled}
use Rattle.generation.specs.Nodes.{name_of, has_node, has_node_by}
use Rattle.generation.specs.Meaning.{plan_of, aim_of, aim_by, aim_in, aim_named, IsEnabledAt}
use Rattle.generation.specs.declared.nodes.Node.{Node}
use Rattle.generation.specs.declared.nodes.Target.{Target}
use Rattle.generation.specs.declared.generation.Generation.{Generation}

pub some_same : {X : Type 0} (x y : X) → Some x ≡ Some y → x ≡ y
some_same x y e = cc

both : (a b : Bool) → a ≡ true → b ≡ true → (a && b) ≡ true
both a b x y = rw (x, y) refl

first_of : (a b : Bool) → (a && b) ≡ true → a ≡ true
first_of true b e = refl
first_of false b e = e

rest_of : (a b : Bool) → (a && b) ≡ true → b ≡ true
rest_of true b e = e
rest_of false b e = absurd (false≢true e)

has_node_so : (s : Setting) (left : ℕ) (e : RouterEntry) (nodes : List Node) (state : RouterState) → s.usable_services ≡ map name_of nodes → IsState s left e state
    → has_node_by nodes state ≡ true
has_node_so s left e nodes (Enabled service chain by) same is =
    ap (λ u. is_listed u service) (sym same) ∙ ap (is_listed s.usable_services) is.1 ∙ is.0.served.usable
has_node_so s left e nodes (Disabled f) same is = refl

-- in the rows of routers whose usable services are those of the nodes
pub rows_led : (s : Setting) (left : ℕ) (es : List RouterEntry) (rows : List Row) (nodes : List Node) → s.usable_services ≡ map name_of nodes → AreRows s left es rows
    → IsTrue (list_all (has_node nodes) rows)
rows_led s left [] [] nodes same are = refl
rows_led s left [] (r ∷ rs) nodes same are = absurd are
rows_led s left (e ∷ es) [] nodes same are = absurd are
rows_led s left (e ∷ es) (r ∷ rs) nodes same (is, (after, leaves, rest)) =
    both (has_node nodes r) (list_all (has_node nodes) rs) (has_node_so s left e nodes r.state same is.state) (rows_led s after es rs nodes same rest)

node_at : (nodes : List Node) (rows : List Row) (n : ℕ) (row : Row) → IsTrue (list_all (has_node nodes) rows) → slice_get rows n ≡ Some row → has_node nodes row ≡ true
node_at nodes [] n row led at = absurd (cc)
node_at nodes (r ∷ rs) zero row led at = ap (has_node nodes) (sym (some_same r row at)) ∙ first_of (has_node nodes r) (list_all (has_node nodes) rs) led
node_at nodes (r ∷ rs) (suc n) row led at = node_at nodes rs n row (rest_of (has_node nodes r) (list_all (has_node nodes) rs) led) at

-- the row that was read, or none
pub row_read : (items rows : List Row) (n : ℕ) (row : Row) → items ≡ rows → n < length items → row ≡ get_or items n row → slice_get rows n ≡ Some row
row_read items rows n row same below is = ap (λ (r : List Row). slice_get r n) (sym same) ∙ slice_get_read items (length items) n row refl below is

-- an enabled router's row leads where its service's name does
pub enabled_leads : {T : Type 0} (v : T → Target) (g : Generation) (n : ℕ) (row : Row) (service : List ℕ) (chain : List (List ℕ)) (by : Search) (o : Option T)
    → IsTrue (list_all (has_node g.nodes) g.table.rows) → slice_get g.table.rows n ≡ Some row → row.state ≡ Enabled service chain by
    → MatchOption o (is_listed (map name_of g.nodes) service ≡ false) (λ (t : T). aim_named g.nodes service ≡ aim_of (v t))
    → MatchOption o (¬ (IsEnabledAt (plan_of g).rows n)) (λ (t : T). IsEnabledAt (plan_of g).rows n × ((plan_of g).target n ≡ aim_of (v t)))
enabled_leads v g n row service chain by None led at is none =
    λ _. false≢true (sym none ∙ ap (has_node_by g.nodes) (sym is) ∙ node_at g.nodes g.table.rows n row led at)
enabled_leads v g n row service chain by (Some t) led at is found =
    ((row, at, ap is_enabled_state is), ap (aim_in g.nodes) at ∙ ap (aim_by g.nodes) is ∙ found)

pub disabled_there : (rows : List Row) (n : ℕ) (row : Row) (f : RouterFault) → slice_get rows n ≡ Some row → row.state ≡ Disabled f → ¬ (IsEnabledAt rows n)
disabled_there rows n row f at is (other, there, on) =
    let same : row ≡ other = some_same row other (sym at ∙ there) in
    let off : is_enabled_state other.state ≡ false = ap is_enabled_state (sym (ap (λ (r : Row). r.state) same) ∙ is) in
    false≢true (sym off ∙ on)

pub nothing_there : (items rows : List Row) (n : ℕ) → items ≡ rows → length items ≤ n → ¬ (IsEnabledAt rows n)
nothing_there items rows n same past (other, there, on) =
    let none : slice_get rows n ≡ None = ap (λ (r : List Row). slice_get r n) (sym same) ∙ slice_get_past items n past in
    let e : None ≡ Some other = sym none ∙ there in
    absurd (cc)

-- what is found by equal names among equal nodes
pub found_alike : {T : Type 0} (v : T → Target) (nodes others : List Node) (name other : List ℕ) (o : Option T) → nodes ≡ others → name ≡ other
    → MatchOption o (is_listed (map name_of nodes) name ≡ false) (λ (t : T). aim_named nodes name ≡ aim_of (v t))
    → MatchOption o (is_listed (map name_of others) other ≡ false) (λ (t : T). aim_named others other ≡ aim_of (v t))
found_alike v nodes others name other None e f h = ap (λ (n : List Node). is_listed (map name_of n) other) (sym e) ∙ ap (is_listed (map name_of nodes)) (sym f) ∙ h
found_alike v nodes others name other (Some t) e f h = ap (λ (n : List Node). aim_named n other) (sym e) ∙ ap (aim_named nodes) (sym f) ∙ h
