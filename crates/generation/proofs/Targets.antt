-- The row of an enabled router leads to the one server of its service.
use Rattle.std.proofs.Common.{◌≡◌, ◌≢◌, ℕ, zero, suc, ◌+◌, List, [], ◌∷◌, map, slice_get, Some, Contains, Bool, true, false, ◌||◌, cond, inl, inr, ◌⊎◌, refl, sym, ap, ◌∙◌, subst, arith}
use Rattle.std.specs.Prelude.{filter, bytes_eq}
use Rattle.std.proofs.lemmas.Bool.{false≢true, cases_Bool}
use Rattle.std.proofs.lemmas.Option.{slice_get_within, get_or_from_slice_get}
use Rattle.std.proofs.lemmas.Slice.Eq.{bytes_eq-Decides}
use Rattle.px_base.specs.declared.server.Server.{Server}
use Rattle.dyn_config.specs.declared.merged.Entry.{Entry}
use Rattle.dyn_config.specs.declared.merged.Merged.{Merged}
use Rattle.dyn_config.specs.declared.service.ServiceDef.{ServiceDef}
use Rattle.dyn_config.specs.declared.service.ServiceDef.TheVariants.{Balancer, Weighted, Mirroring, Failover, Unsupported}
use Rattle.conversation.specs.Plans.{Target as Aim}
use Rattle.router_table.specs.Settings.{Setting, RouterEntry, service_of, setting_of, is_listed}
use Rattle.router_table.specs.Faults.{IsServed}
use Rattle.router_table.specs.Rows.{AreRows, IsRow, IsState}
use Rattle.router_table.specs.Winner.{is_enabled, is_enabled_state}
use Rattle.router_table.specs.declared.row.Row.{Row}
use Rattle.router_table.specs.declared.row.RouterState.{RouterState}
use Rattle.router_table.specs.declared.row.RouterState.TheVariants.{Enabled, Disabled}
use Rattle.service_graph.specs.Urls.{IsHost}
use Rattle.service_graph.specs.Only.{IsOnlyServer}
use Rattle.generation.specs.Nodes.{IsNode, AreNodes, is_usable, name_of}
use Rattle.generation.specs.Meaning.{plan_of, aim_of, aim_by, aim_in, aim_named, nowhere}
use Rattle.generation.specs.Built.{IsBuilt}
use Rattle.generation.specs.Leads.{LeadsToItsServer, RowLeads}
use Rattle.generation.specs.declared.nodes.Node.{Node}
use Rattle.generation.proofs.Led.{some_same}
use Rattle.generation.specs.declared.generation.Generation.{Generation}
use Rattle.generation.specs.declared.building.Built.TheVariants as built

-- the router of a row
pub record Judged (s : Setting) (es : List RouterEntry) (n : ℕ) (row : Row) : Type 0 where
  pub router : RouterEntry
  pub at : slice_get es n ≡ Some router
  pub before : ℕ
  pub is_row : IsRow s before router row

row_at : (s : Setting) (left : ℕ) (es : List RouterEntry) (rows : List Row) (n : ℕ) (row : Row) → AreRows s left es rows → slice_get rows n ≡ Some row → Judged s es n row
row_at s left [] [] n row are at = absurd (cc)
row_at s left [] (r ∷ rs) n row are at = absurd are
row_at s left (e ∷ es) [] n row are at = absurd are
row_at s left (e ∷ es) (r ∷ rs) zero row (is, rest) at = record { router = e; at = refl; before = left; is_row = subst (IsRow s left e) (some_same r row at) is }
row_at s left (e ∷ es) (r ∷ rs) (suc n) row (is, (after, leaves, rest)) at =
    let later = row_at s after es rs n row rest at in
    record { router = later.router; at = later.at; before = later.before; is_row = later.is_row }

-- an enabled router is served, and leads where its service's name does
enabled_by : (s : Setting) (left : ℕ) (e : RouterEntry) (state : RouterState) → IsState s left e state → is_enabled_state state ≡ true
    → IsServed s e × ((nodes : List Node) → aim_by nodes state ≡ aim_named nodes (service_of e))
enabled_by s left e (Enabled service chain by) is on = (is.0.served, λ nodes. ap (aim_named nodes) is.1)
enabled_by s left e (Disabled f) is on = absurd (false≢true on)

-- the first node with a name
pub record Named (place : ℕ) (services : List (Entry ServiceDef)) (nodes : List Node) (name : List ℕ) : Type 0 where
  pub number : ℕ
  pub service : Entry ServiceDef
  pub at : slice_get services number ≡ Some service
  pub has_name : service.name ≡ name
  pub node : Node
  pub is_node : IsNode (place + number) service node
  pub aim : aim_named nodes name ≡ aim_of node.target

named_first : (place : ℕ) (e : Entry ServiceDef) (es : List (Entry ServiceDef)) (n : Node) (ns : List Node) (name : List ℕ) → IsNode place e n → bytes_eq n.name name ≡ true
    → Named place (e ∷ es) (n ∷ ns) name
named_first place e es n ns name is same = record {
  number = 0;
  service = e;
  at = refl;
  has_name = sym is.name ∙ (bytes_eq-Decides n.name name).0 same;
  node = n;
  is_node = (let here : place ≡ place + 0 = omega arith in subst (λ (p : ℕ). IsNode p e n) here is);
  aim = rw same refl;
}

named_later : (place : ℕ) (e : Entry ServiceDef) (es : List (Entry ServiceDef)) (n : Node) (ns : List Node) (name : List ℕ) → bytes_eq n.name name ≡ false
    → Named (place + 1) es ns name → Named place (e ∷ es) (n ∷ ns) name
named_later place e es n ns name apart later = record {
  number = suc later.number;
  service = later.service;
  at = later.at;
  has_name = later.has_name;
  node = later.node;
  is_node = (let there : (place + 1) + later.number ≡ place + suc later.number = omega arith in subst (λ (p : ℕ). IsNode p later.service later.node) there later.is_node);
  aim = rw apart later.aim;
}

or_right : (a b : Bool) → (a || b) ≡ true → a ≡ false → b ≡ true
or_right true b e apart = absurd (false≢true (sym apart))
or_right false b e apart = e

named_by : (place : ℕ) (services : List (Entry ServiceDef)) (nodes : List Node) (name : List ℕ) → AreNodes place services nodes → is_listed (map name_of nodes) name ≡ true
    → Named place services nodes name
named_by place [] [] name are listed = absurd (false≢true listed)
named_by place [] (n ∷ ns) name are listed = absurd are
named_by place (e ∷ es) [] name are listed = absurd are
named_by place (e ∷ es) (n ∷ ns) name are listed =
    elim (cases_Bool (bytes_eq n.name name)) [
      | inl same ↦ named_first place e es n ns name are.0 same
      | inr apart ↦ named_later place e es n ns name apart (named_by (place + 1) es ns name are.1 (or_right (bytes_eq n.name name) (is_listed (map name_of ns) name) listed apart))
    ]

-- what a filter keeps was there
kept_by : {X : Type 0} (b : Bool) (y : X) (kept : List X) (k : ℕ) (x : X) → slice_get (cond b (y ∷ kept) kept) k ≡ Some x
    → (y ≡ x) ⊎ ((i : ℕ) × (slice_get kept i ≡ Some x))
kept_by true y kept zero x at = inl (some_same y x at)
kept_by true y kept (suc k) x at = inr (k, at)
kept_by false y kept k x at = inr (k, at)

kept_at : {X : Type 0} (p : X → Bool) (xs : List X) (k : ℕ) (x : X) → slice_get (filter p xs) k ≡ Some x → (i : ℕ) × (slice_get xs i ≡ Some x)
kept_at p [] k x at = absurd (cc)
kept_at p (y ∷ ys) k x at =
    elim (kept_by (p y) y (filter p ys) k x at) [
      | inl same ↦ (0, ap Some same)
      | inr there ↦ (let later = kept_at p ys there.0 x there.1 in (suc later.0, later.1))
    ]

pub was_held : {X : Type 0} (p : X → Bool) (xs : List X) (k : ℕ) (x : X) → slice_get (filter p xs) k ≡ Some x → Contains xs x
was_held p xs k x at =
    let there = kept_at p xs k x at in
    (there.0, slice_get_within xs there.0 x there.1, get_or_from_slice_get xs there.0 x x there.1)

leads_by : (m : Merged) (router : RouterEntry) (nodes : List Node) (aim : Aim) → Named 0 (filter is_usable m.services) nodes (service_of router)
    → aim ≡ aim_named nodes (service_of router) → LeadsToItsServer m router aim
leads_by m router nodes aim found is =
    let same : aim ≡ aim_of found.node.target = is ∙ found.aim in
    let zero_on : 0 + found.number ≡ found.number = omega arith in
    let place : found.node.target.node ≡ found.number = found.is_node.place_is ∙ zero_on in
    record {
      service = found.service;
      named = found.has_name;
      declared = was_held is_usable m.services found.number found.service found.at;
      place = ap (slice_get (filter is_usable m.services)) (ap (λ (a : Aim). a.node) same ∙ place) ∙ found.at;
      server = found.is_node.server;
      only = found.is_node.only;
      host = ap (λ (a : Aim). a.host) same ∙ found.is_node.host;
      port = ap (λ (a : Aim). a.port) same ∙ found.is_node.port;
      pass_host = ap (λ (a : Aim). a.pass_host) same ∙ found.is_node.pass_host;
    }

-- the row of an enabled router leads to its server
pub row_leads : (number : ℕ) (m : Merged) (g : Generation) (n : ℕ) (row : Row) → IsBuilt number m (built.Generation g) → slice_get (plan_of g).rows n ≡ Some row
    → is_enabled row ≡ true → RowLeads m (plan_of g) n row
row_leads number m g n row is at on =
    let s = setting_of m (map name_of g.nodes) [] in
    let judged = row_at s 256 m.routers g.table.rows n row is.1.rows at in
    let enabled = enabled_by s judged.before judged.router row.state judged.is_row.state on in
    let found = named_by 0 (filter is_usable m.services) g.nodes (service_of judged.router) is.1.nodes enabled.0.usable in
    let aim : (plan_of g).target n ≡ aim_named g.nodes (service_of judged.router) = ap (aim_in g.nodes) at ∙ enabled.1 g.nodes in
    record {
      router = judged.router;
      declared = judged.at;
      named = judged.is_row.name;
      leads = leads_by m judged.router g.nodes ((plan_of g).target n) found aim;
    }

-- no host is empty
host_there : (host : List ℕ) → IsHost host → host ≢ []
host_there [] (inl name) e = omega (arith, name.0)
host_there [] (inr (inner, spelled, closed, is_ip)) e = absurd (cc)
host_there (b ∷ host) is e = absurd (cc)

server_there : (def : ServiceDef) (server : Server) → IsOnlyServer def server → server.host ≢ []
server_there (Balancer b) server only = host_there server.host only.is_server.url.2.is_host
server_there (Weighted w) server only = absurd only
server_there (Mirroring w) server only = absurd only
server_there (Failover w) server only = absurd only
server_there Unsupported server only = absurd only

leads_somewhere : (m : Merged) (router : RouterEntry) (aim : Aim) → LeadsToItsServer m router aim → aim ≢ nowhere
leads_somewhere m router aim leads e = server_there leads.service.def leads.server leads.only (sym leads.host ∙ ap (λ (a : Aim). a.host) e)

-- and so somewhere
pub row_leads_somewhere : (number : ℕ) (m : Merged) (g : Generation) (n : ℕ) (row : Row) → IsBuilt number m (built.Generation g) → slice_get (plan_of g).rows n ≡ Some row
    → is_enabled row ≡ true → (plan_of g).target n ≢ nowhere
row_leads_somewhere number m g n row is at on =
    let led = row_leads number m g n row is at on in
    leads_somewhere m led.router ((plan_of g).target n) led.leads
