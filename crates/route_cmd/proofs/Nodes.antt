-- The one server of the node to which a router leads.
use Rattle.std.proofs.Common.{◌≡◌, ◌∙◌, ℕ, ◌+◌, ◌<◌, ◌≤◌, suc, zero, List, [], ◌∷◌, length, Contains, Option, Some, None, Bool, true, false, ◌&&◌, ◌==◌, is_some, is_none, nat_lt, refl, sym, ap, subst, arith, zero-add, if◌then◌else◌}
use Rattle.std.specs.Prelude.{slice_get, bytes_eq}
use Rattle.std.specs.List.{AllZip, list_all}
use Rattle.std.proofs.lemmas.Bool.{false≢true, and_parts, ltb-true}
use Rattle.std.proofs.lemmas.Bool.Decides.{nat_tests}
use Rattle.std.proofs.lemmas.Option.{slice_get_within, get_or_from_slice_get}
use Rattle.std.proofs.lemmas.Slice.Eq.{bytes_eq-Decides}
use Rattle.std.proofs.lemmas.Slice.Zip.{AllZip-long}
use Rattle.px_base.specs.declared.server.Server.{Server}
use Rattle.dyn_config.specs.declared.merged.Entry.{Entry}
use Rattle.dyn_config.specs.declared.merged.Merged.{Merged}
use Rattle.dyn_config.specs.declared.service.BalancerDef.{BalancerDef}
use Rattle.dyn_config.specs.declared.service.ServerDef.{ServerDef}
use Rattle.dyn_config.specs.declared.service.ServiceDef.{ServiceDef}
use Rattle.dyn_config.specs.declared.service.ServiceDef.TheVariants.{Balancer, Weighted, Mirroring, Failover, Unsupported}
use Rattle.router_table.specs.declared.row.Row.{Row}
use Rattle.router_table.specs.declared.row.RouterState.{RouterState}
use Rattle.router_table.specs.declared.row.RouterState.TheVariants.{Enabled}
use Rattle.router_table.specs.declared.row.Search.{Search}
use Rattle.reference_graph.specs.Numbering.{number_of}
use Rattle.service_graph.specs.Only.{IsServer, IsOnlyServer}
use Rattle.service_faults.specs.References.{ServiceEntry}
use Rattle.service_nodes.specs.Nodes.{IsKindOf, IsNodeAt, IsServerOf as IsServerAt, node_number, node_number_from}
use Rattle.service_nodes.specs.declared.node.Node.{Node}
use Rattle.service_nodes.specs.declared.node.NodeKind.{NodeKind}
use Rattle.service_nodes.specs.declared.node.NodeKind.TheVariants as kind
use Rattle.runtime_config.specs.Runtime.{IsRuntime, LeadsTo as LeadsToNode}
use Rattle.runtime_config.specs.declared.config.RuntimeConfig.{RuntimeConfig}
use Rattle.route_cmd.specs.Services.{HaveOneServer, has_one_server, has_weight, is_of_one_server, is_one}
use Rattle.route_cmd.specs.Output.{IsServerOf, LeadsTo}
use Rattle.route_cmd.specs.Parts.{IsOfOne, IsOnly}

some_is : {X : Type 0} (a b : X) → Some a ≡ Some b → a ≡ b
some_is a b e = cc

-- a name's number is no less than that of the first of the nodes
before_by : (n k : ℕ) (b : Bool) (rest : Option ℕ) → (rest ≡ Some k → n + 1 ≤ k) → (if b then Some n else rest) ≡ Some k → n ≤ k
before_by n k true rest after e = let s : n ≡ k = some_is n k e in omega (arith, s)
before_by n k false rest after e = let l : n + 1 ≤ k = after e in omega (arith, l)

not_before : (n k : ℕ) (nodes : List Node) (name : List ℕ) → node_number_from n nodes name ≡ Some k → n ≤ k
not_before n k [] name e = absurd (false≢true (ap is_some e))
not_before n k (m ∷ nodes) name e = before_by n k (bytes_eq m.name name) (node_number_from (n + 1) nodes name) (not_before (n + 1) k nodes name) e

named_by : (n k : ℕ) (m : Node) (nodes : List Node) (name : List ℕ) (node : Node) (b : Bool) → bytes_eq m.name name ≡ b
    → ((j : ℕ) → node_number_from (n + 1) nodes name ≡ Some (n + 1 + j) → slice_get nodes j ≡ Some node → node.name ≡ name)
    → (if b then Some n else node_number_from (n + 1) nodes name) ≡ Some (n + k) → slice_get (m ∷ nodes) k ≡ Some node → node.name ≡ name
named_by n zero m nodes name node true same rest e here =
    ap (λ (x : Node). x.name) (sym (some_is m node here)) ∙ (bytes_eq-Decides m.name name).0 same
named_by n zero m nodes name node false same rest e here = let l : n + 1 ≤ n + 0 = not_before (n + 1) (n + 0) nodes name e in absurd (omega (arith, l))
named_by n (suc k) m nodes name node true same rest e here = let s : n ≡ n + suc k = some_is n (n + suc k) e in absurd (omega (arith, s))
named_by n (suc k) m nodes name node false same rest e here = let s : n + suc k ≡ n + 1 + k = omega arith in rest k (e ∙ ap Some s) here

named_from : (n k : ℕ) (nodes : List Node) (name : List ℕ) (node : Node) → node_number_from n nodes name ≡ Some (n + k) → slice_get nodes k ≡ Some node → node.name ≡ name
named_from n k [] name node e here = absurd (false≢true (ap is_some here))
named_from n k (m ∷ nodes) name node e here = named_by n k m nodes name node (bytes_eq m.name name) refl (λ j. named_from (n + 1) j nodes name node) e here

-- the node with a name's number has this name
node_named : (at : ℕ) (nodes : List Node) (name : List ℕ) (node : Node) → node_number nodes name ≡ Some at → slice_get nodes at ≡ Some node → node.name ≡ name
node_named at nodes name node e here = named_from 0 at nodes name node (e ∙ ap Some (sym (zero-add at))) here

-- each node is that of a declared service
node_at : (services : List ServiceEntry) (number : ℕ → Option ℕ) (order : List ℕ) (nodes : List Node) (at : ℕ) (node : Node)
    → AllZip (IsNodeAt services number) order nodes → slice_get nodes at ≡ Some node → (place : ℕ) × IsNodeAt services number place node
node_at services number [] [] at node zip here = absurd (false≢true (ap is_some here))
node_at services number [] (m ∷ nodes) at node zip here = absurd zip
node_at services number (x ∷ order) [] at node zip here = absurd zip
node_at services number (x ∷ order) (m ∷ nodes) zero node zip here = (x, subst (λ (y : Node). IsNodeAt services number x y) (some_is m node here) zip.0)
node_at services number (x ∷ order) (m ∷ nodes) (suc at) node zip here = node_at services number order nodes at node zip.1 here

of_one_at : (services : List ServiceEntry) (k : ℕ) (e : ServiceEntry) → list_all is_of_one_server services ≡ true → slice_get services k ≡ Some e → has_one_server e.def ≡ true
of_one_at [] k e all here = absurd (false≢true (ap is_some here))
of_one_at (x ∷ services) zero e all here =
    ap (λ (y : ServiceEntry). has_one_server y.def) (sym (some_is x e here)) ∙ (and_parts (is_of_one_server x) (list_all is_of_one_server services) all).0
of_one_at (x ∷ services) (suc k) e all here = of_one_at services k e (and_parts (is_of_one_server x) (list_all is_of_one_server services) all).1 here

none_is : {X : Type 0} (o : Option X) → is_none o ≡ true → o ≡ None
none_is None e = refl
none_is (Some x) e = absurd (false≢true e)

-- the servers of a balancer of one
long_one : (defs : List ServerDef) (servers : List Server) → AllZip IsServerAt defs servers → is_one defs ≡ true → length servers ≡ 1
long_one defs servers zip one =
    let l : length defs ≡ 1 = eq_is (length defs) (and_parts (length defs == 1) (list_all has_weight defs) one).0 in
    AllZip-long IsServerAt defs servers zip ∙ l
  where
    eq_is : (n : ℕ) → (n == 1) ≡ true → n ≡ 1
    eq_is n t = grind (arith, nat_tests)

the_one : (defs : List ServerDef) (s : Server) → AllZip IsServerAt defs (s ∷ []) → list_all has_weight defs ≡ true → (d : ServerDef) × ((defs ≡ d ∷ []) × IsServer d s)
the_one [] s zip weighs = absurd zip
the_one (d ∷ []) s zip weighs =
    let positive : 0 < d.weight = ltb-true 0 d.weight (and_parts (has_weight d) true weighs).0 in
    (d, (refl, record { positive = positive; weight = zip.0.weight; url = zip.0.url }))
the_one (d ∷ c ∷ defs) s zip weighs = absurd zip.1

-- what is known of the kind of a node, by its service: it is a balancer of one server, and that is the service's
abbrev OfService : ServiceDef → NodeKind → Type 0
OfService d k = IsOfOne k × ((s : Server) → IsOnly k s → IsOnlyServer d s)

kind_of : (d : ServiceDef) (k : NodeKind) → has_one_server d ≡ true → IsKindOf d k → OfService d k
kind_of (Balancer b) (kind.Balancer servers sticky pass_host health) one is =
    let (plain, few) = and_parts (is_none b.sticky && is_none b.health) (is_one b.servers) one in
    let (loose, unprobed) = and_parts (is_none b.sticky) (is_none b.health) plain in
    let weighs = (and_parts (length b.servers == 1) (list_all has_weight b.servers) few).1 in (
      long_one b.servers servers is.0 few,
      λ s only.
          let P : List Server → Type 0 = λ x. AllZip IsServerAt b.servers x in
          let (d, (alone, server)) = the_one b.servers s (subst P only is.0) weighs in
          record { not_sticky = none_is b.sticky loose; not_probed = none_is b.health unprobed; def = d; alone = alone; is_server = server },
    )
kind_of (Balancer b) (kind.Weighted children weights sticky) one is = absurd is
kind_of (Balancer b) (kind.Mirroring main mirrors percents max_body) one is = absurd is
kind_of (Balancer b) (kind.Failover main fallback) one is = absurd is
kind_of (Weighted w) k one is = absurd (false≢true one)
kind_of (Mirroring m) k one is = absurd (false≢true one)
kind_of (Failover f) k one is = absurd (false≢true one)
kind_of Unsupported k one is = absurd (false≢true one)

-- the node to which the router in a row leads
pub record LeadsWell (m : Merged) (row : Row) (node : Node) : Type 0 where
  pub of_one : IsOfOne node.kind
  pub server : (s : Server) → IsOnly node.kind s → IsServerOf m row s

same_row : (r row : Row) → Some r ≡ Some row → r ≡ row
same_row r row e = cc

leads_by : (state : RouterState) (service name : List ℕ) (names : List (List ℕ)) (search : Search) → state ≡ Enabled service names search → service ≡ name → LeadsTo state name
leads_by state service name names search is same = let P : RouterState → Type 0 = λ s. LeadsTo s name in subst P (sym is) same

pub leads_well : (m : Merged) (r : RuntimeConfig) (number at : ℕ) (row : Row) (node : Node) → IsRuntime m r → HaveOneServer m → LeadsToNode r number at node
    → slice_get r.table.rows number ≡ Some row → LeadsWell m row node
leads_well m r number at row node is form leads here =
    let (place, (e, declared, node_is)) = node_at m.services (number_of is.graph.nodes_are.order) is.graph.nodes_are.order r.graph.nodes at node is.graph.nodes_are.nodes_are leads.there in
    let one : has_one_server e.def ≡ true = of_one_at m.services place e form declared in
    let known : OfService e.def node.kind = kind_of e.def node.kind one node_is.kind in
    let named : leads.service ≡ e.name = sym (node_named at r.graph.nodes leads.service node leads.named leads.there) ∙ node_is.name in
    let same : leads.row ≡ row = same_row leads.row row (sym leads.here ∙ here) in
    let state : row.state ≡ Enabled leads.service leads.names leads.search = ap (λ (x : Row). x.state) (sym same) ∙ leads.enabled in
    record {
      of_one = known.0;
      server = λ s only. record {
        service = e;
        declared = (place, slice_get_within m.services place e declared, get_or_from_slice_get m.services place e e declared);
        named = leads_by row.state leads.service e.name leads.names leads.search state named;
        only = known.1 s only;
      };
    }
