-- A script, as it is told to a system.
use Rattle.std.specs.Prelude.{◌≡◌, ◌≢◌, ◌⊎◌, ℕ, ◌≤◌, ◌+◌, ◌-◌, ◌==◌, Bool, true, false, List, [], ◌∷◌, ◌++◌, length, count_by, Option, Some, None, Result, Ok, Err}
use Rattle.std.specs.declared.sync.Arc.{Arc}
use Rattle.std.specs.declared.alloc.Global.{Global}
use Rattle.std.specs.Arc.{arc_value}
use Rattle.ip_net.specs.declared.ip.Ip.{Ip}
use Rattle.ip_net.specs.declared.ip.Ip.TheVariants.{V4, V6}
use Rattle.replay_script.specs.Escapes.{IsTextOf}
use Rattle.replay_script.specs.Lines.{IsLine}
use Rattle.replay_script.specs.declared.lines.LinkKind.{LinkKind}
use Rattle.replay_script.specs.declared.lines.LinkKind.TheVariants as on
use Rattle.replay_script.specs.declared.lines.Line.{Line}
use Rattle.replay_script.specs.declared.lines.Line.TheVariants as line
use Rattle.conversation.specs.Plans.{Plan}
use Rattle.generation.specs.Meaning.{plan_of}
use Rattle.generation.specs.declared.generation.Generation.{Generation}
use Rattle.conn_machine.specs.declared.conn.Conn.{Conn}
use Rattle.system_core.specs.Answers.{Answers}
use Rattle.system_core.specs.Issues.{plan_at}
use Rattle.system_core.specs.Views.{IsConnOf, plans_of}
use Rattle.system_core.specs.Takes.{pending_on}
use Rattle.system_core.specs.Shows.{Lawful}
use Rattle.system_core.specs.declared.event.Event.{Event}
use Rattle.system_core.specs.declared.event.Event.TheVariants as event
use Rattle.system_core.specs.declared.event.Refused.{Refused}
use Rattle.system_core.specs.declared.system.System.{System}
use Rattle.replay_cmd.specs.Script.{IsCut, IsBlock}
use Rattle.replay_cmd.specs.Configs.{DeclaresNone, IsGenerationOf, IsUnserved}
use Rattle.replay_cmd.specs.Output.{output_text}
use Rattle.replay_cmd.specs.Refusals.{refusal_text, IsFailureOf}
use Rattle.replay_cmd.specs.declared.run.Run.{Run}
use Rattle.replay_cmd.specs.declared.why.Failure.{Failure}
use Rattle.replay_cmd.specs.declared.why.Failure.TheVariants as failure
use Rattle.replay_cmd.specs.declared.why.Why.{Why}
use Rattle.replay_cmd.specs.declared.why.Why.TheVariants as why

-- what happens on a link, or is done for it
abbrev pub event_on : LinkKind → ℕ → Event
event_on on.End link = event.End link
event_on on.Fail link = event.Fail link
event_on on.Pin link = event.Pin link
event_on on.Look link = event.Look link
event_on on.Draw link = event.Draw link
event_on on.Dial link = event.Dial link

-- how many bytes a link takes: so many, or all that are pending for it
abbrev pub IsCountOf : System → ℕ → Option ℕ → ℕ → Type 0
IsCountOf s link (Some m) n = n ≡ m
IsCountOf s link None n = (i : ℕ) (c : Conn) → IsConnOf s link i c → n ≡ length (pending_on (link == c.client.link) c)

-- what a line tells the system, where it isn't a configuration
abbrev pub Means : System → Line → Event → Type 0
Means s line.Publish e = e ≡ event.Publish
Means s (line.Arrive entry peer) e = e ≡ event.Arrive entry.now peer
Means s (line.Bytes link text) e = (bytes : List ℕ) × IsTextOf text.now bytes × (e ≡ event.Bytes link bytes)
Means s (line.OnLink kind link) e = e ≡ event_on kind link
Means s (line.Took link count) e = (n : ℕ) × IsCountOf s link count n × (e ≡ event.Took link n)
Means s line.Stop e = e ≡ event.Stop
Means s _ e = ⊥

abbrev pub IsV6 : Ip → Type 0
IsV6 (V4 a) = ⊥
IsV6 (V6 a) = Unit {0}

-- why a line tells it nothing: its kind, or a text that stands for no bytes
abbrev pub IsUnmeant : Line → Why → Type 0
IsUnmeant (line.Arrive entry peer) w = IsV6 peer × (w ≡ why.Later)
IsUnmeant (line.Bytes link text) w = ((bytes : List ℕ) → ¬ (IsTextOf text.now bytes)) × (w ≡ why.Grammar)
IsUnmeant line.ConfigFile w = w ≡ why.Later
IsUnmeant (line.ConfigConsul root) w = w ≡ why.Later
IsUnmeant (line.Mark node server up) w = w ≡ why.Later
IsUnmeant (line.Tick now) w = w ≡ why.Later
IsUnmeant _ w = ⊥

abbrev pub FailsMeaning : Line → Failure → Type 0
FailsMeaning l (failure.Refused w) = IsUnmeant l w
FailsMeaning l failure.Memory = Unit {0}

-- the system takes the event, and stays lawful
pub record Accepts (e : Event) (s t : System) : Type 0 where
  pub answers : Answers s e (Ok tt) t
  pub lawful : (first : Plan) (es : List Event) → Lawful first es s → Lawful first (es ++ e ∷ []) t

-- the system refuses the event
abbrev pub Refuses : Event → System → Failure → Type 0
Refuses e s (failure.Refused w) = (r : Refused) × (t : System) × Answers s e (Err r) t × IsFailureOf r (failure.Refused w)
Refuses e s failure.Memory = Unit {0}

abbrev pub FailsLine : System → Line → Failure → Type 0
FailsLine s l (failure.Refused w) = IsUnmeant l w ⊎ ((e : Event) × Means s l e × Refuses e s (failure.Refused w))
FailsLine s l failure.Memory = Unit {0}

-- The block is the next configuration, or one that declares nothing and changes nothing. The shop counted `from` refusals
-- before it, and `to` after.
abbrev pub Configured : (from to : ℕ) → List ℕ → System → System → Type 0
Configured from to block s t = (DeclaresNone block × (t ≡ s) × (to ≡ from))
    ⊎ ((issue : Arc Generation Global) × IsGenerationOf from to (length (plans_of s.clients.timeline)) block (arc_value issue) × Accepts (event.Config issue) s t)

-- why a block is refused: it is no configuration or isn't served, or by the system
abbrev pub FailsBlock : System → List ℕ → Failure → Type 0
FailsBlock s block (failure.Refused w) = IsUnserved block w ⊎ ((issue : Arc Generation Global) × Refuses (event.Config issue) s (failure.Refused w))
FailsBlock s block failure.Memory = Unit {0}

-- the lines behind bars are the first configuration of the script
pub record HasConfigured (from to : ℕ) (old : Run) (text : List ℕ) (new : Run) (more : List ℕ) : Type 0 where
  pub unconfigured : old.configured ≡ false
  pub block : List ℕ
  pub is_block : IsBlock text block more
  pub configures : Configured from to block old.system new.system
  pub configured : new.configured ≡ true

-- why they are refused: a second configuration, or this block
abbrev pub FailsConfig : Run → List ℕ → Failure → Type 0
FailsConfig run text (failure.Refused w) =
    ((run.configured ≡ true) × (w ≡ why.Later)) ⊎ ((block : List ℕ) × (more : List ℕ) × IsBlock text block more × FailsBlock run.system block (failure.Refused w))
FailsConfig run text failure.Memory = Unit {0}

-- The next line, or the next configuration with its lines, is told. The shop counted `from` refusals before it, and `to`
-- after.
pub data Step (from to : ℕ) (old : Run) (text : List ℕ) (new : Run) (more : List ℕ) : Type 0 where
  blank : (l : List ℕ) → IsCut text l more → l ≡ [] → new ≡ old → to ≡ from → Step from to old text new more
  said : (l : List ℕ) (read : Line) (e : Event) → IsCut text l more → IsLine l read → Means old.system read e → Accepts e old.system new.system
      → new.configured ≡ old.configured → to ≡ from → Step from to old text new more
  configured : (l behind : List ℕ) → IsCut text l behind → IsLine l line.ConfigFile → HasConfigured from to old behind new more → Step from to old text new more

-- why the next line is refused
abbrev pub FailsStep : Run → List ℕ → Failure → Type 0
FailsStep run text (failure.Refused w) = (l more : List ℕ) × IsCut text l more × (l ≢ [])
    × ((((read : Line) → ¬ (IsLine l read)) × (w ≡ why.Grammar))
    ⊎ (((read : Line) × IsLine l read × FailsLine run.system read (failure.Refused w))
    ⊎ (IsLine l line.ConfigFile × FailsConfig run more (failure.Refused w))))
FailsStep run text failure.Memory = Unit {0}

-- Line after line is told, and this is left of the text. The shop, which counted `from` refusals at the start, counts so many
-- now.
pub data Replays (start : Run) (text : List ℕ) (from : ℕ) : Run → List ℕ → ℕ → Type 0 where
  begun : Replays start text from start text from
  next : (run : Run) (rest : List ℕ) (told : ℕ) (after : Run) (more : List ℕ) (to : ℕ) → Replays start text from run rest told → Step told to run rest after more
      → Replays start text from after more to

-- a system before its first event, under a configuration without routers
pub record IsStart (run : Run) : Type 0 where
  pub first : Plan
  pub empty : first.rows ≡ []
  pub lawful : Lawful first [] run.system
  pub unconfigured : run.configured ≡ false

abbrev pub feeds : List ℕ → ℕ
feeds text = count_by (λ b. b == 10) text

-- the number of the line at the front of what is left of a script
abbrev pub number_of : List ℕ → List ℕ → ℕ
number_of script rest = (feeds script - feeds rest) + 1

-- What is answered to a script: what the system has to show, or the first line that is refused. The shop counted `from`
-- refusals before, and `to` after.
pub data Replayed (from to : ℕ) (script : List ℕ) (status : ℕ) (text : List ℕ) : Type 0 where
  told : (start run : Run) → IsStart start → Replays start script from run [] to → status ≡ 0 → text ≡ output_text run.system
      → Replayed from to script status text
  refused : (start run : Run) (rest : List ℕ) (counted : ℕ) (w : Why) → IsStart start → Replays start script from run rest counted → counted ≤ to
      → FailsStep run rest (failure.Refused w) → status ≡ 4 → text ≡ refusal_text (number_of script rest) w → Replayed from to script status text
