-- What the reading of a body says in the words of the grammar.
use Rattle.std.specs.Prelude.{◌≡◌, ℕ, true, List, [], ◌∷◌, Bool, take, drop}
use Rattle.body_codec.specs.Reading.{start, run, content, may_end}
use Rattle.body_codec.specs.Feeding.{Takes}
use Rattle.body_codec.specs.declared.reading.Framing.{Framing}
use Rattle.body_codec.specs.declared.phases.Phase.{Phase}

-- a body is read to its end, its content is what the grammar says
pub record IsRead (framing : Framing) (bytes body : List ℕ) : Type 0 where
  pub whole : may_end (run (start framing) bytes) ≡ true
  pub found : content (start framing) bytes ≡ body

-- one call of `feed` that took bytes
pub record Call : Type 0 where
  pub piece : List ℕ
  pub used : ℕ
  pub from : ℕ
  pub len : ℕ
  pub done : Bool

-- the bytes that it took, and the content that it gave
abbrev pub taken : Call → List ℕ
taken call = take call.used call.piece

abbrev pub gave : Call → List ℕ
gave call = take call.len (drop call.from call.piece)

-- calls one after another, from one phase to another
abbrev pub Calls : Phase → List Call → Phase → Type 0
Calls old [] new = old ≡ new
Calls old (call ∷ calls) new = (mid : Phase) × (Takes old call.piece call.used call.from call.len call.done mid × Calls mid calls new)
