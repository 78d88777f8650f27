-- What a row says of its router.
use Rattle.std.proofs.Common.{◌≡◌, ◌∙◌, ℕ, zero, suc, ◌+◌, ◌<◌, ◌≤◌, List, [], ◌∷◌, length, get_or, Option, Some, None, Bool, true, false, IsTrue, is_some, slice_get, ◌-◌, cond, refl, sym, ap, subst, arith}
use Rattle.std.specs.Prelude.{bytes_eq}
use Rattle.std.specs.List.{list_all}
use Rattle.std.proofs.lemmas.Bool.{false≢true}
use Rattle.std.proofs.lemmas.Option.{slice_get_read, slice_get_past}
use Rattle.std.proofs.lemmas.Slice.Eq.{bytes_eq-Decides}
use Rattle.dyn_config.specs.declared.merged.Merged.{Merged}
use Rattle.dyn_config.specs.declared.middleware.MiddlewareDef.{MiddlewareDef}
use Rattle.middleware_chain.specs.Flattened.{IsFlattened}
use Rattle.middleware_chain.specs.Names.{MiddlewareEntry}
use Rattle.router_table.specs.Rows.{AreRows, IsRow, IsState}
use Rattle.router_table.specs.Settings.{RouterEntry, Setting, chain_of, service_of}
use Rattle.router_table.specs.Winner.{is_enabled, is_enabled_state}
use Rattle.router_table.specs.declared.fault.RouterFault.{RouterFault}
use Rattle.router_table.specs.declared.row.Row.{Row}
use Rattle.router_table.specs.declared.row.Search.{Search}
use Rattle.router_table.specs.declared.row.RouterState.{RouterState}
use Rattle.router_table.specs.declared.row.RouterState.TheVariants.{Enabled, Disabled}
use Rattle.service_nodes.specs.Nodes.{node_number, node_number_from}
use Rattle.service_nodes.specs.declared.node.Node.{Node}
use Rattle.runtime_config.specs.Linked.{has_node, has_node_by}
use Rattle.runtime_config.specs.Runtime.{HasStages, IsEnabledAt, IsRuntime, LeadsTo, judged_by, stages_of}
use Rattle.runtime_config.specs.Running.{RowRuns}
use Rattle.runtime_config.specs.declared.config.RuntimeConfig.{RuntimeConfig}
use Rattle.runtime_config.proofs.Judged.{node_at}

some_same : {X : Type 0} (x y : X) → Some x ≡ Some y → x ≡ y
some_same x y e = cc

-- the row that was read, or none
pub row_read : (items rows : List Row) (n : ℕ) (row : Row) → items ≡ rows → n < length items → row ≡ get_or items n row → slice_get rows n ≡ Some row
row_read items rows n row same below is = ap (λ (r : List Row). slice_get r n) (sym same) ∙ slice_get_read items (length items) n row refl below is

-- the service of an enabled router has a number
pub service_led : (nodes : List Node) (rows : List Row) (n : ℕ) (row : Row) (service name : List ℕ) (names : List (List ℕ)) (search : Search)
    → IsTrue (list_all (has_node nodes) rows) → slice_get rows n ≡ Some row → row.state ≡ Enabled service names search → name ≡ service → is_some (node_number nodes name) ≡ true
service_led nodes rows n row service name names search led at is same =
    ap (λ (text : List ℕ). is_some (node_number nodes text)) same ∙ sym (ap (has_node_by nodes) is) ∙ node_at nodes rows n row led at

pub disabled_there : (rows : List Row) (n : ℕ) (row : Row) (f : RouterFault) → slice_get rows n ≡ Some row → row.state ≡ Disabled f → ¬ (IsEnabledAt rows n)
disabled_there rows n row f at is (other, there, on) =
    let same : row ≡ other = some_same row other (sym at ∙ there) in
    let off : is_enabled_state other.state ≡ false = ap is_enabled_state (sym (ap (λ (r : Row). r.state) same) ∙ is) in
    false≢true (sym off ∙ on)

pub nothing_there : (items rows : List Row) (n : ℕ) → items ≡ rows → length items ≤ n → ¬ (IsEnabledAt rows n)
nothing_there items rows n same past (other, there, on) =
    let none : slice_get rows n ≡ None = ap (λ (r : List Row). slice_get r n) (sym same) ∙ slice_get_past items n past in
    let e : None ≡ Some other = sym none ∙ there in
    absurd (cc)

-- the router of a row
pub record RowOf (s : Setting) (es : List RouterEntry) (n : ℕ) (row : Row) : Type 0 where
  pub router : RouterEntry
  pub at : slice_get es n ≡ Some router
  pub before : ℕ
  pub is_row : IsRow s before router row

row_at : (s : Setting) (left : ℕ) (es : List RouterEntry) (rows : List Row) (n : ℕ) (row : Row) → AreRows s left es rows → slice_get rows n ≡ Some row → RowOf s es n row
row_at s left [] [] n row are at = absurd (cc)
row_at s left [] (r ∷ rs) n row are at = absurd are
row_at s left (e ∷ es) [] n row are at = absurd are
row_at s left (e ∷ es) (r ∷ rs) zero row (is, rest) at = record { router = e; at = refl; before = left; is_row = subst (IsRow s left e) (some_same r row at) is }
row_at s left (e ∷ es) (r ∷ rs) (suc n) row (is, (after, leaves, rest)) at =
    let later = row_at s after es rs n row rest at in
    record { router = later.router; at = later.at; before = later.before; is_row = later.is_row }

-- what an enabled state says
pub record EnabledAs (e : RouterEntry) (state : RouterState) : Type 0 where
  pub service : List ℕ
  pub names : List (List ℕ)
  pub search : Search
  pub is : state ≡ Enabled service names search
  pub service_is : service ≡ service_of e
  pub names_are : names ≡ chain_of e

enabled_as : (s : Setting) (left : ℕ) (e : RouterEntry) (state : RouterState) → IsState s left e state → is_enabled_state state ≡ true → EnabledAs e state
enabled_as s left e (Enabled service names search) is on =
    record { service = service; names = names; search = search; is = refl; service_is = is.1; names_are = is.2 }
enabled_as s left e (Disabled fault) is on = absurd (false≢true on)

-- the first node with a name
pub record NumberedNode (n k : ℕ) (nodes : List Node) (name : List ℕ) : Type 0 where
  pub step : ℕ
  pub node : Node
  pub at_is : k ≡ n + step
  pub here : slice_get nodes step ≡ Some node
  pub named : node.name ≡ name

numbered_by : (n k : ℕ) (node : Node) (nodes : List Node) (name : List ℕ) (b : Bool) → bytes_eq node.name name ≡ b
    → (node_number_from (n + 1) nodes name ≡ Some k → NumberedNode (n + 1) k nodes name)
    → cond b (Some n) (node_number_from (n + 1) nodes name) ≡ Some k → NumberedNode n k (node ∷ nodes) name
numbered_by n k node nodes name true e later h =
    let same : n ≡ k = some_same n k h in
    record { step = 0; node = node; at_is = omega (arith, same); here = refl; named = (bytes_eq-Decides node.name name).0 e }
numbered_by n k node nodes name false e later h =
    let found = later h in
    record { step = suc found.step; node = found.node; at_is = omega (arith, found.at_is); here = found.here; named = found.named }

none_some : (k : ℕ) → None ≡ Some k → ⊥
none_some k e = cc

pub numbered : (n k : ℕ) (nodes : List Node) (name : List ℕ) → node_number_from n nodes name ≡ Some k → NumberedNode n k nodes name
numbered n k [] name h = absurd (none_some k h)
numbered n k (node ∷ nodes) name h = numbered_by n k node nodes name (bytes_eq node.name name) refl (numbered (n + 1) k nodes name) h

pub the_number : (o : Option ℕ) → is_some o ≡ true → (k : ℕ) × (o ≡ Some k)
the_number None there = absurd (false≢true there)
the_number (Some k) there = (k, refl)

-- the row of an enabled router does what the router asks for
pub row_runs : (m : Merged) (r : RuntimeConfig) (number : ℕ) (row : Row) → IsRuntime m r → slice_get r.table.rows number ≡ Some row → is_enabled row ≡ true → RowRuns m r number row
row_runs m r number row is at on =
    let s : Setting = judged_by m r in
    let from = row_at s (256 - r.chains.built) m.routers r.table.rows number row is.rows at in
    let state = enabled_as s from.before from.router row.state from.is_row.state on in
    let led : is_some (node_number r.graph.nodes state.service) ≡ true = service_led r.graph.nodes r.table.rows number row state.service state.service state.names state.search r.led at state.is refl in
    let has = the_number (node_number r.graph.nodes state.service) led in
    let found = numbered 0 has.0 r.graph.nodes state.service has.1 in
    let staged : IsFlattened m.middlewares state.names (stages_of r number) =
    (let P : RouterState → Type 0 = λ other. HasStages m.middlewares other (stages_of r number) in subst P state.is (is.stages number row at)) in
    let Q : List (List ℕ) → Type 0 = λ names. IsFlattened m.middlewares names (stages_of r number) in
    let here : has.0 ≡ found.step = omega (arith, found.at_is) in
    record {
      router = from.router;
      declared = from.at;
      named = from.is_row.name;
      stages = subst Q state.names_are staged;
      at = has.0;
      node = found.node;
      leads = record {
        row = row;
        service = state.service;
        names = state.names;
        search = state.search;
        here = at;
        enabled = state.is;
        named = has.1;
        there = ap (slice_get r.graph.nodes) here ∙ found.here;
      };
      of_service = found.named ∙ state.service_is;
    }
