-- What `route` answers: its status and its text, by what its words say, the file and the input.
use Rattle.std.specs.Prelude.{◌≡◌, ◌≢◌, ℕ, ◌<◌, ◌≤◌, List, [], ◌∷◌, ◌++◌, length, Contains, codes, Option, Some, IfSome, slice_get, Err, Ok, ⊤}
use Rattle.std.specs.Fmt.{decimal}
use Rattle.httparse.specs.Grammar.{RequestHead, ReadsRequest, NeverHasRequest, MayBecomeRequest}
use Rattle.head_view.specs.Lines.{line_feeds}
use Rattle.head_view.specs.Scans.{HasHead}
use Rattle.ip_net.specs.declared.ip.Ip.{Ip}
use Rattle.px_base.specs.declared.server.Server.{Server}
use Rattle.dyn_config.specs.declared.config.Config.{Config}
use Rattle.dyn_config.specs.declared.merged.Entry.{Entry}
use Rattle.dyn_config.specs.declared.merged.Merged.{Merged}
use Rattle.dyn_config.specs.declared.service.ServiceDef.{ServiceDef}
use Rattle.dyn_config.specs.declared.middleware.MiddlewareDef.{MiddlewareDef}
use Rattle.middleware_chain.specs.Folds.{Through}
use Rattle.middleware_chain.specs.declared.flow.Flow.{Flow}
use Rattle.middleware_chain.specs.declared.flow.Flow.TheVariants.{Pass, Stop as Stopped}
use Rattle.file_provider.specs.Files.{IsFileConfig, WasRead, IsOver, file_limit}
use Rattle.file_provider.specs.declared.config.FileFault.{FileFault}
use Rattle.file_provider.specs.declared.config.FileFault.TheVariants as file_fault
use Rattle.fault_text.specs.Files.{file_fault_text}
use Rattle.provider_merge.specs.Merging.{IsFileAlone}
use Rattle.http_wire.specs.declared.message.Request.{Request}
use Rattle.http_wire.specs.declared.requests.HeadFault.{HeadFault}
use Rattle.http_wire.specs.declared.requests.HeadFault.TheVariants as fault
use Rattle.rule_eval.specs.Truth.{Asked}
use Rattle.router_table.specs.Winner.{NoWinner, IsWinner}
use Rattle.router_table.specs.declared.row.RouterState.{RouterState}
use Rattle.router_table.specs.declared.row.RouterState.TheVariants.{Enabled, Disabled}
use Rattle.router_table.specs.declared.row.Row.{Row}
use Rattle.service_graph.specs.Only.{IsOnlyServer}
use Rattle.runtime_config.specs.Runtime.{HasStages, IsCounted, IsRuntime}
use Rattle.runtime_config.specs.declared.config.RuntimeConfig.{RuntimeConfig}
use Rattle.route_cmd.specs.declared.answer.Stop.{Stop}
use Rattle.route_cmd.specs.declared.answer.Stop.TheVariants.{File, Input, Memory}
use Rattle.route_cmd.specs.Services.{HaveOneServer}
use Rattle.route_cmd.specs.Requests.{HasFault, IsFaultless, IsLater, IsTaken, asked_by, head_fault_name, request_text}

-- a line of text
abbrev pub line : List ℕ → List ℕ
line text = text ++ 10 ∷ []

-- how many bytes an input may have
abbrev pub input_limit : ℕ
input_limit = 16384

-- the line of a request that is forwarded
abbrev pub forward_text : List ℕ → List ℕ → ℕ → List ℕ
forward_text router host port = line (codes "forward " ++ router ++ codes " http://" ++ host ++ codes ":" ++ decimal port)

-- the line of a request that a middleware stops, by the middleware's place in the router's flattened chain
abbrev pub stop_text : List ℕ → ℕ → ℕ → List ℕ
stop_text router place status = line (codes "stop " ++ router ++ codes " " ++ decimal place ++ codes " " ++ decimal status)

-- the router of this state is enabled, and its service has this name
abbrev pub LeadsTo : RouterState → List ℕ → Type 0
LeadsTo (Enabled service chain search) name = service ≡ name
LeadsTo (Disabled fault) name = ⊥

-- where a row leads: to the one server of its service, by its URL
pub record IsServerOf (m : Merged) (row : Row) (s : Server) : Type 0 where
  pub service : Entry ServiceDef
  pub declared : Contains m.services service
  pub named : LeadsTo row.state service.name
  pub only : IsOnlyServer service.def s

-- the winner, and what the middlewares of its router make of the request
pub record Goes (m : Merged) (rows : List Row) (entry : List ℕ) (asked : Asked) (q : Request) (peer : Ip) (row : Row) (flow : Flow) : Type 0 where
  pub number : ℕ
  pub won : IsWinner rows entry asked peer number
  pub at : slice_get rows number ≡ Some row
  pub stages : List MiddlewareDef
  pub are_stages : HasStages m.middlewares row.state stages
  pub made : Through stages q peer flow

-- the line for a request: 404 where no router takes it; where the winner's middlewares stop it, at which of them and with which status;
-- else the server to which it goes
pub data Routed (m : Merged) (rows : List Row) (entry : List ℕ) (asked : Asked) (q : Request) (peer : Ip) (text : List ℕ) : Type 0 where
  nowhere : NoWinner rows entry asked peer → text ≡ line (codes "404") → Routed m rows entry asked q peer text
  stopped : (row : Row) (place status : ℕ) (location : Option (List ℕ)) → Goes m rows entry asked q peer row (Stopped place status location)
      → text ≡ stop_text row.name place status → Routed m rows entry asked q peer text
  forward : (row : Row) (next : Request) (limit : Option ℕ) (s : Server) → Goes m rows entry asked q peer row (Pass next limit) → IsServerOf m row s
      → text ≡ forward_text row.name s.host s.port → Routed m rows entry asked q peer text

-- the answer to a head, and to what stands behind it
pub data HeadAnswer (m : Merged) (rows : List Row) (entry : List ℕ) (peer : Ip) (h : RequestHead) (rest : List ℕ) (status : ℕ) (text : List ℕ) : Type 0 where
  faulty : (f : HeadFault) → HasFault h f → status ≡ 4 → text ≡ line (request_text (head_fault_name f)) → HeadAnswer m rows entry peer h rest status text
  later : IsFaultless h → IsLater h → status ≡ 4 → text ≡ line (codes "request Later") → HeadAnswer m rows entry peer h rest status text
  trailing : IsFaultless h → ¬ (IsLater h) → rest ≢ [] → status ≡ 4 → text ≡ line (codes "request Trailing") → HeadAnswer m rows entry peer h rest status text
  routed : IsFaultless h → ¬ (IsLater h) → rest ≡ [] → (q : Request) → IsTaken h peer q → Routed m rows entry (asked_by h q) q peer text → status ≡ 0
      → HeadAnswer m rows entry peer h rest status text

-- the answer to an input that keeps its limit
pub data Answered (m : Merged) (rows : List Row) (entry : List ℕ) (peer : Ip) (input : List ℕ) (status : ℕ) (text : List ℕ) : Type 0 where
  no_head : NeverHasRequest input → status ≡ 4 → text ≡ line (request_text (head_fault_name fault.BadHead)) → Answered m rows entry peer input status text
  part : ¬ (HasHead 100 input) → MayBecomeRequest input → status ≡ 4 → text ≡ line (codes "request Part") → Answered m rows entry peer input status text
  too_many : ¬ (HasHead 100 input) → 100 < line_feeds input → status ≡ 4 → text ≡ line (codes "request TooMany") → Answered m rows entry peer input status text
  head : (h : RequestHead) (rest : List ℕ) → ReadsRequest input h rest → length h.fields ≤ 100 → HeadAnswer m rows entry peer h rest status text
      → Answered m rows entry peer input status text

-- the answer to what is left of the input's source
pub data InputOutput (m : Merged) (rows : List Row) (entry : List ℕ) (peer : Ip) (input : Option (List ℕ)) (status : ℕ) (text : List ℕ) : Type 0 where
  long_input : IsOver input input_limit → status ≡ 8 → text ≡ line (codes "too long") → InputOutput m rows entry peer input status text
  answered : (bytes : List ℕ) → WasRead input input_limit bytes → Answered m rows entry peer bytes status text → InputOutput m rows entry peer input status text

-- the file's source was read, and the file is this configuration
pub record IsConfigured (file : Option (List ℕ)) (m : Merged) : Type 0 where
  pub bytes : List ℕ
  pub was_read : WasRead file file_limit bytes
  pub config : Config
  pub means : IsFileConfig bytes (Ok config)
  pub alone : IsFileAlone config m

-- the answer of `route` for an entry point and a peer under what is declared, by what is left of the input's source. `old` and `new` are
-- what the shop counted before and after.
pub data MergedOutput (entry : List ℕ) (peer : Ip) (old new : ℕ) (m : Merged) (input : Option (List ℕ)) (status : ℕ) (text : List ℕ) : Type 0 where
  later : ¬ (HaveOneServer m) → status ≡ 3 → text ≡ line (codes "config Later") → MergedOutput entry peer old new m input status text
  running : (r : RuntimeConfig) → HaveOneServer m → IsRuntime m r → IsCounted old new r → InputOutput m r.table.rows entry peer input status text
      → MergedOutput entry peer old new m input status text

-- the answer by what is left of the file's source and of the input's: the file comes first
pub data RouteOutput (entry : List ℕ) (peer : Ip) (old new : ℕ) (file input : Option (List ℕ)) (status : ℕ) (text : List ℕ) : Type 0 where
  long_file : IsOver file file_limit → status ≡ 8 → text ≡ line (codes "too long") → RouteOutput entry peer old new file input status text
  refused_file : (bytes : List ℕ) (f : FileFault) → WasRead file file_limit bytes → IsFileConfig bytes (Err f) → f ≢ file_fault.Memory
      → status ≡ 3 → text ≡ line (file_fault_text f) → RouteOutput entry peer old new file input status text
  configured : (m : Merged) → IsConfigured file m → MergedOutput entry peer old new m input status text → RouteOutput entry peer old new file input status text

-- why there is no answer: the file's source failed; or, under a file that is fine, the input's did
abbrev pub Stops : Option (List ℕ) → (file_failed input_failed : Type 0) → Stop → Type 0
Stops file file_failed input_failed File = file_failed
Stops file file_failed input_failed Input = (m : Merged) × IsConfigured file m × HaveOneServer m × input_failed
Stops file file_failed input_failed Memory = ⊤

-- the same, where the file is known
abbrev pub StopsInput : Type 0 → Stop → Type 0
StopsInput input_failed File = ⊥
StopsInput input_failed Input = input_failed
StopsInput input_failed Memory = ⊤
