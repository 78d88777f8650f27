-- What is found at the front of a link's bytes.
use Rattle.std.specs.Prelude.{◌≡◌, ℕ, ◌-◌, List, ◌++◌, length, take, ⊤}
use Rattle.back_machine.specs.Replies.{head_limit, IsReplyAt, HasNoReply, IsBegun}
use Rattle.back_machine.specs.declared.reading.Found.{Found}
use Rattle.back_machine.specs.declared.reading.Found.TheVariants as found

-- what came before, and of the piece what a head has room for
abbrev pub window : List ℕ → List ℕ → List ℕ
window head piece = head ++ take (head_limit - length head) piece

-- what stands at the front of the bytes
abbrev pub Finds : List ℕ → List ℕ → Found → Type 0
Finds method gave (found.Head reply end) = IsReplyAt method gave reply end
Finds method gave found.Part = IsBegun gave
Finds method gave found.Bad = HasNoReply method gave

-- a head that isn't whole is kept
abbrev pub KeepsPart : List ℕ → List ℕ → Found → Type 0
KeepsPart gave head (found.Head reply end) = ⊤
KeepsPart gave head found.Part = head ≡ gave
KeepsPart gave head found.Bad = ⊤
