-- A line of a script: its first word is a command, and what stands behind the blank after it says more.
use Rattle.std.specs.Prelude.{◌≡◌, ◌≢◌, ℕ, ◌≤◌, ◌<◌, ◌⊎◌, Bool, true, false, List, ◌∷◌, ◌++◌, length, All, codes, Option, Some, None}
use Rattle.ip_net.specs.declared.ip.Ip.{Ip}
use Rattle.ip_net.specs.Texts.{Writes}
use Rattle.px_base.specs.Decimals.{IsSpellingOf}
use Rattle.replay_script.specs.declared.lines.Command.{Command}
use Rattle.replay_script.specs.declared.lines.Command.TheVariants as command
use Rattle.replay_script.specs.declared.lines.LinkKind.{LinkKind}
use Rattle.replay_script.specs.declared.lines.LinkKind.TheVariants as on
use Rattle.replay_script.specs.declared.lines.Line.{Line}
use Rattle.replay_script.specs.declared.lines.Line.TheVariants as line

-- the text is cut at its first blank: this stands before it, and this behind it
pub record Cuts (text before behind : List ℕ) : Type 0 where
  pub text_is : text ≡ before ++ 32 ∷ behind
  pub no_blank : All (λ b. b ≢ 32) before

-- the name of each command
abbrev pub name_of : Command → List ℕ
name_of command.Config = codes "config"
name_of command.Publish = codes "publish"
name_of command.Arrive = codes "arrive"
name_of command.Bytes = codes "bytes"
name_of command.End = codes "end"
name_of command.Fail = codes "fail"
name_of command.Pin = codes "pin"
name_of command.Look = codes "look"
name_of command.Draw = codes "draw"
name_of command.Dial = codes "dial"
name_of command.Took = codes "took"
name_of command.Mark = codes "mark"
name_of command.Tick = codes "tick"
name_of command.Stop = codes "stop"

-- the command of an event that names a link and nothing else
abbrev pub link_command : LinkKind → Command
link_command on.End = command.End
link_command on.Fail = command.Fail
link_command on.Pin = command.Pin
link_command on.Look = command.Look
link_command on.Draw = command.Draw
link_command on.Dial = command.Dial

-- the command that each line begins with
abbrev pub command_of : Line → Command
command_of line.ConfigFile = command.Config
command_of (line.ConfigConsul root) = command.Config
command_of line.Publish = command.Publish
command_of (line.Arrive entry peer) = command.Arrive
command_of (line.Bytes link text) = command.Bytes
command_of (line.OnLink kind link) = link_command kind
command_of (line.Took link count) = command.Took
command_of (line.Mark node server up) = command.Mark
command_of (line.Tick now) = command.Tick
command_of line.Stop = command.Stop

-- a word: visible bytes, at least one
abbrev pub IsWord : List ℕ → Type 0
IsWord text = (1 ≤ length text) × All (λ b. (33 ≤ b) × (b ≤ 126)) text

-- an entry point and an address
abbrev pub IsArrival : List ℕ → List ℕ → Ip → Type 0
IsArrival text entry peer = (ip : List ℕ) × Cuts text entry ip × IsWord entry × Writes ip peer

-- the text is a number below 2 ^ 32, without leading zeros
abbrev pub IsSmallNumber : ℕ → List ℕ → Type 0
IsSmallNumber n text = IsSpellingOf n text × (n < 4294967296)

-- the number of a link, and a text
abbrev pub IsGift : List ℕ → ℕ → List ℕ → Type 0
IsGift text link given = (number : List ℕ) × Cuts text number given × IsSmallNumber link number

-- how many bytes: a number, or all
abbrev pub IsCount : List ℕ → Option ℕ → Type 0
IsCount text None = text ≡ codes "all"
IsCount text (Some n) = IsSpellingOf n text

-- the number of a link, and how many bytes it took
abbrev pub IsTaking : List ℕ → ℕ → Option ℕ → Type 0
IsTaking text link count = (number more : List ℕ) × Cuts text number more × IsSmallNumber link number × IsCount more count

abbrev pub up_text : Bool → List ℕ
up_text true = codes "up"
up_text false = codes "down"

-- the numbers of a node and of its server, and whether the server is up
abbrev pub IsMark : List ℕ → ℕ → ℕ → Bool → Type 0
IsMark text node server up =
    (a more b : List ℕ) × Cuts text a more × Cuts more b (up_text up) × IsSmallNumber node a × IsSmallNumber server b

-- what stands behind the command of a line
abbrev pub IsRest : List ℕ → Line → Type 0
IsRest text line.ConfigFile = text ≡ codes "file"
IsRest text (line.ConfigConsul root) = Cuts text (codes "consul") root.now
IsRest text line.Publish = ⊥
IsRest text (line.Arrive entry peer) = IsArrival text entry.now peer
IsRest text (line.Bytes link given) = IsGift text link given.now
IsRest text (line.OnLink kind link) = IsSmallNumber link text
IsRest text (line.Took link count) = IsTaking text link count
IsRest text (line.Mark node server up) = IsMark text node server up
IsRest text (line.Tick now) = IsSpellingOf now text
IsRest text line.Stop = ⊥

-- the lines that are one word
abbrev pub IsLone : Line → Type 0
IsLone line.Publish = Unit {0}
IsLone line.Stop = Unit {0}
IsLone _ = ⊥

-- the text is this line
abbrev pub IsLine : List ℕ → Line → Type 0
IsLine text line =
    (IsLone line × (text ≡ name_of (command_of line)))
    ⊎ ((rest : List ℕ) × Cuts text (name_of (command_of line)) rest × IsRest rest line)
