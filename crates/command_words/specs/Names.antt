-- The first word of a command.
use Rattle.std.specs.Prelude.{ℕ, List, codes}
use Rattle.command_words.specs.declared.read.Name.{Name}
use Rattle.command_words.specs.declared.read.Name.TheVariants.{Route, Check, Replay, Serve}

abbrev pub text_of : Name → List ℕ
text_of Route = codes "route"
text_of Check = codes "check"
text_of Replay = codes "replay"
text_of Serve = codes "serve"
