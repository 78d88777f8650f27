-- The text of a configuration as it is served.
use Rattle.std.specs.Prelude.{◌≡◌, ℕ, ◌+◌, ◌⊎◌, Bool, true, false, not, List, [], ◌∷◌, ◌++◌, codes}
use Rattle.std.specs.Fmt.{decimal, signed_decimal}
use Rattle.px_base.specs.declared.server.Server.{Server}
use Rattle.dyn_config.specs.declared.merged.Entry.{Entry}
use Rattle.dyn_config.specs.declared.service.ServiceDef.{ServiceDef}
use Rattle.dyn_config.specs.declared.service.ServiceDef.TheVariants.{Balancer, Weighted, Mirroring, Failover, Unsupported}
use Rattle.router_table.specs.declared.row.Row.{Row}
use Rattle.router_table.specs.declared.row.RouterState.{RouterState}
use Rattle.router_table.specs.declared.row.RouterState.TheVariants.{Enabled, Disabled}
use Rattle.service_graph.specs.Only.{IsOnlyServer}
use Rattle.fault_text.specs.Routers.{router_fault_text}

-- whether a router is enabled, or why it isn't
abbrev pub state_text : RouterState → List ℕ
state_text (Enabled service chain search) = codes " enabled\n"
state_text (Disabled fault) = codes " disabled " ++ router_fault_text fault ++ codes "\n"

-- `router <row> <name> priority <p> enabled`, or `disabled` and the reason
abbrev pub row_text : ℕ → Row → List ℕ
row_text number r = codes "router " ++ decimal number ++ codes " " ++ r.name ++ codes " priority " ++ signed_decimal r.priority ++ state_text r.state

-- the lines of rows, the first of which has this number
abbrev pub rows_text : ℕ → List Row → List ℕ
rows_text number [] = []
rows_text number (r ∷ rs) = row_text number r ++ rows_text (number + 1) rs

-- `service <name> balancer node <i>`
abbrev pub node_text : ℕ → List ℕ → List ℕ
node_text place name = codes "service " ++ name ++ codes " balancer node " ++ decimal place ++ codes "\n"

-- `server <node> 0 <host>:<port> weight <w>`
abbrev pub server_text : ℕ → Server → List ℕ
server_text place s =
    codes "server " ++ decimal place ++ codes " 0 " ++ s.host ++ codes ":" ++ decimal s.port ++ codes " weight " ++ decimal s.weight ++ codes "\n"

abbrev pub balancer_text : ℕ → List ℕ → Server → List ℕ
balancer_text place name s = node_text place name ++ server_text place s

-- a name between two texts
abbrev pub between : List ℕ → List ℕ → List ℕ → List ℕ
between before name after = before ++ name ++ after

-- `service <name> disabled <reason>`
abbrev pub disabled_text : List ℕ → List ℕ
disabled_text name = between (codes "service ") name (codes " disabled Unsupported\n")

-- no option of a balancer asks for what is not supported
abbrev pub is_usable_def : ServiceDef → Bool
is_usable_def (Balancer b) = not b.unsupported
is_usable_def (Weighted w) = false
is_usable_def (Mirroring m) = false
is_usable_def (Failover f) = false
is_usable_def Unsupported = false

-- the service can be used, and this is its server
abbrev pub IsBalancer : Entry ServiceDef → Server → Type 0
IsBalancer e s = (is_usable_def e.def ≡ true) × IsOnlyServer e.def s

-- the lines of a service at this place among the nodes, and the place of the next node
abbrev pub PrintsService : ℕ → Entry ServiceDef → ℕ → List ℕ → Type 0
PrintsService place e after text =
    ((s : Server) × IsBalancer e s × (text ≡ balancer_text place e.name s) × (after ≡ place + 1))
    ⊎ (((s : Server) → ¬ (IsBalancer e s)) × (text ≡ disabled_text e.name) × (after ≡ place))

-- the lines of services, the first node of which has this place
abbrev pub PrintServices : ℕ → List (Entry ServiceDef) → List ℕ → Type 0
PrintServices place [] text = text ≡ []
PrintServices place (e ∷ es) text =
    (after : ℕ) × (lines rest : List ℕ) × PrintsService place e after lines × PrintServices after es rest × (text ≡ lines ++ rest)
