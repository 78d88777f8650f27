-- The commands, and the words that they are.
use Rattle.std.specs.Prelude.{◌≡◌, ◌≢◌, ℕ, ◌≤◌, Bool, true, false, not, ◌&&◌, ◌||◌, List, [], ◌∷◌, length, map, All, codes, Option, Some, None, IsSomeAnd, bytes_eq}
use Rattle.ip_net.specs.declared.ip.Ip.{Ip}
use Rattle.ip_net.specs.declared.ip.Ip.TheVariants.{V4}
use Rattle.ip_net.specs.Texts.{Writes}
use Rattle.link_world.specs.declared.plan.Listen.{Listen}
use Rattle.link_world.specs.declared.plan.ServePlan.{ServePlan}
use Rattle.command_words.specs.declared.command.Command.{Command}
use Rattle.command_words.specs.declared.command.Command.TheVariants.{Route, Check, Replay, Serve}
use Rattle.command_words.specs.declared.command.CheckPlan.{CheckPlan}
use Rattle.command_words.specs.declared.command.RoutePlan.{RoutePlan}
use Rattle.command_words.specs.declared.sorting.Setting.{Setting}
use Rattle.command_words.specs.declared.sorting.Sorted.{Sorted}
use Rattle.command_words.specs.Cuts.{cut_at}
use Rattle.command_words.specs.Values.{values_of, Chosen, IsCount, IsAddress}
use Rattle.command_words.specs.Words.{sorted}

-- the options of `route` and of `serve`
abbrev pub is_route_option : List ℕ → Bool
is_route_option name = bytes_eq name (codes "entry") || bytes_eq name (codes "peer")

abbrev pub is_serve_option : List ℕ → Bool
is_serve_option name =
    bytes_eq name (codes "file") || bytes_eq name (codes "workers") || bytes_eq name (codes "requests") || bytes_eq name (codes "access")

-- each option is one of these
abbrev pub AreOptions : (List ℕ → Bool) → List Setting → Type 0
AreOptions is_option settings = All (λ s. is_option s.name ≡ true) settings

-- `route <config> [--entry <name>] [--peer <ip>]`, by default the entry point `web` and the peer 127.0.0.1
pub record IsRoute (s : Sorted) (plan : RoutePlan) : Type 0 where
  pub options : AreOptions is_route_option s.settings
  pub config : s.others ≡ plan.config ∷ []
  pub entry : Chosen (values_of (codes "entry") s.settings) (codes "web") (λ value entry. entry ≡ value) plan.entry
  pub peer : Chosen (values_of (codes "peer") s.settings) (V4 2130706433) Writes plan.peer

-- `check <config>`
pub record IsCheck (s : Sorted) (plan : CheckPlan) : Type 0 where
  pub none : s.settings ≡ []
  pub config : s.others ≡ plan.config ∷ []

-- an entry point's name: 1 to 255 visible bytes without `@`; it has no `=`, before the first of which it stands
pub record IsEntry (name : List ℕ) : Type 0 where
  pub some : 1 ≤ length name
  pub short : length name ≤ 255
  pub visible : All (λ b. (33 ≤ b) × (b ≤ 126) × (b ≢ 64)) name

-- the word names an entry point, and the address and the port at which clients come
abbrev pub IsListenAt : List ℕ → List ℕ → Ip → ℕ → Type 0
IsListenAt word entry ip port = IsSomeAnd (cut_at 61 word) (λ cut. (cut.before ≡ entry) × IsEntry entry × IsAddress cut.behind ip port)

abbrev pub IsListen : List ℕ → Listen → Type 0
IsListen word listen = IsListenAt word listen.entry listen.ip listen.port

-- each word is the listen at its place
abbrev pub AreListens : List (List ℕ) → List Listen → Type 0
AreListens [] [] = Unit {0}
AreListens [] (listen ∷ listens) = ⊥
AreListens (word ∷ words) [] = ⊥
AreListens (word ∷ words) (listen ∷ listens) = IsListen word listen × AreListens words listens

abbrev pub entry_of : Listen → List ℕ
entry_of listen = listen.entry

abbrev pub is_among : List ℕ → List (List ℕ) → Bool
is_among name [] = false
is_among name (other ∷ others) = bytes_eq other name || is_among name others

-- no name stands twice
abbrev pub are_apart : List (List ℕ) → Bool
are_apart [] = true
are_apart (name ∷ names) = not (is_among name names) && are_apart names

-- an option that may stand once, with a text
abbrev pub IsTextOption : List ℕ → List Setting → Option (List ℕ) → Type 0
IsTextOption name settings text = Chosen (values_of name settings) None (λ value t. t ≡ Some value) text

-- one with a number
abbrev pub IsCountOption : List ℕ → List Setting → Option ℕ → Type 0
IsCountOption name settings number = Chosen (values_of name settings) None (λ value n. IsSomeAnd n (IsCount value)) number

-- a number of workers that may be served by: one, so far
abbrev pub IsWorkers : List ℕ → ℕ → Type 0
IsWorkers text workers = IsCount text workers × (workers ≡ 1)

-- `--workers 1`, which may stand once
abbrev pub IsWorkersOption : List Setting → ℕ → Type 0
IsWorkersOption settings workers = Chosen (values_of (codes "workers") settings) 1 IsWorkers workers

-- `serve <name>=<ip>:<port> ... [--file <path>] [--workers 1] [--requests <n>] [--access <prefix>]`, with 1 to 16 listens of
-- distinct names; the file is asked for every 5,000 ms
pub record IsServe (s : Sorted) (plan : ServePlan) : Type 0 where
  pub options : AreOptions is_serve_option s.settings
  pub some : 1 ≤ length s.others
  pub most : length s.others ≤ 16
  pub listens : AreListens s.others plan.listens
  pub apart : are_apart (map entry_of plan.listens) ≡ true
  pub file : IsTextOption (codes "file") s.settings plan.poll.file
  pub consul : plan.poll.consul ≡ None
  pub period : plan.poll.period ≡ 5000
  pub workers : IsWorkersOption s.settings plan.workers
  pub requests : IsCountOption (codes "requests") s.settings plan.requests
  pub access : IsTextOption (codes "access") s.settings plan.access

-- the name of each command, which is the first word
abbrev pub name_of : Command → List ℕ
name_of (Route plan) = codes "route"
name_of (Check plan) = codes "check"
name_of Replay = codes "replay"
name_of (Serve plan) = codes "serve"

-- what the sorted words behind the name say
abbrev pub Says : Sorted → Command → Type 0
Says s (Route plan) = IsRoute s plan
Says s (Check plan) = IsCheck s plan
Says s Replay = (s.settings ≡ []) × (s.others ≡ [])
Says s (Serve plan) = IsServe s plan

-- the words are this command
abbrev pub IsCommand : List (List ℕ) → Command → Type 0
IsCommand words c = (rest : List (List ℕ)) × (s : Sorted) × (words ≡ name_of c ∷ rest) × (sorted rest ≡ Some s) × Says s c
