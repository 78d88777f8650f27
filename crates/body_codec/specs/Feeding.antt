-- What one call of `feed` may answer.
use Rattle.std.specs.Prelude.{◌≡◌, ◌≢◌, ℕ, ◌+◌, ◌<◌, ◌≤◌, Bool, true, false, List, [], length, take, drop, ◌++◌, ◌↔◌, IsTrue, Result, Ok, Err}
use Rattle.body_codec.specs.Grammar.{IsBody, MayContinue}
use Rattle.body_codec.specs.Reading.{start, run, content, is_content, is_framing, IsPhase}
use Rattle.body_codec.specs.declared.reading.Framing.{Framing}
use Rattle.body_codec.specs.declared.reading.Framing.TheVariants as framed
use Rattle.body_codec.specs.declared.reading.BodyStep.{BodyStep}
use Rattle.body_codec.specs.declared.reading.BodyStep.TheVariants as steps
use Rattle.body_codec.specs.declared.reading.Reached.{Reached}
use Rattle.body_codec.specs.declared.phases.Phase.{Phase}
use Rattle.body_codec.specs.declared.phases.Phase.TheVariants.{Done, Bad}

-- the first `used` bytes were taken, and their content is the slice of `len` bytes at `from`
pub record Takes (old : Phase) (piece : List ℕ) (used from len : ℕ) (done : Bool) (new : Phase) : Type 0 where
  pub inside : used ≤ length piece
  pub state : run old (take used piece) ≡ new
  pub found : content old (take used piece) ≡ take len (drop from piece)
  pub within : from + len ≤ used
  pub good : new ≢ Bad
  pub ends : IsTrue done ↔ (new ≡ Done)
  pub progress : old ≢ Done → 0 < length piece → 0 < used

-- the body is bad with the byte at this place, and was good up to it if it was good before the piece
pub record Fails (old : Phase) (piece : List ℕ) (at : ℕ) (new : Phase) : Type 0 where
  pub within : at ≤ length piece
  pub inside : old ≢ Bad → at < length piece
  pub before : old ≢ Bad → run old (take at piece) ≢ Bad
  pub here : run old (take (at + 1) piece) ≡ Bad
  pub state : new ≡ Bad

-- what `feed` answers
abbrev pub Fed : Phase → List ℕ → BodyStep → Phase → Type 0
Fed old piece (steps.Took used from len done) new = Takes old piece used from len done new
Fed old piece (steps.Bad at) new = Fails old piece at new

-- the bytes that were taken in the words of the grammar, where others of the body came before
pub record TakesOfBody (framing : Framing) (seen piece : List ℕ) (used from len : ℕ) (done : Bool) : Type 0 where
  pub continues : MayContinue framing (seen ++ take used piece)
  pub whole : IsTrue done → IsBody framing (seen ++ take used piece) (content (start framing) seen ++ take len (drop from piece))
  pub ends : framing ≢ framed.ToEnd → (body : List ℕ) → IsBody framing (seen ++ take used piece) body → IsTrue done

-- no body continues with the byte at this place, and one with those before it, if one did before the
-- piece
pub record FailsBody (framing : Framing) (seen piece : List ℕ) (at : ℕ) : Type 0 where
  pub before : MayContinue framing seen → MayContinue framing (seen ++ take at piece)
  pub here : ¬ MayContinue framing (seen ++ take (at + 1) piece)

-- the answer in the words of the grammar
abbrev pub FedBody : Framing → List ℕ → List ℕ → BodyStep → Type 0
FedBody framing seen piece (steps.Took used from len done) = TakesOfBody framing seen piece used from len done
FedBody framing seen piece (steps.Bad at) = FailsBody framing seen piece at

-- the bytes up to this place are framing, and the next is content or stands past the end
pub record FramedTo (old : Phase) (piece : List ℕ) (at : ℕ) (new : Phase) : Type 0 where
  pub inside : at ≤ length piece
  pub state : run old (take at piece) ≡ new
  pub found : content old (take at piece) ≡ []
  pub good : new ≢ Bad
  pub valid : IsPhase new
  pub stops : at < length piece → is_framing new ≡ false

abbrev pub Framed : Phase → List ℕ → Result Reached ℕ → Type 0
Framed old piece (Ok reached) = FramedTo old piece reached.at reached.phase
Framed old piece (Err at) = Fails old piece at Bad

-- the first `len` bytes were taken, and all of them are content
pub record ContentTo (old : Phase) (rest : List ℕ) (len : ℕ) (new : Phase) : Type 0 where
  pub inside : len ≤ length rest
  pub state : run old (take len rest) ≡ new
  pub found : content old (take len rest) ≡ take len rest
  pub good : new ≢ Bad
  pub valid : IsPhase new
  pub progress : is_content old ≡ true → 0 < length rest → 0 < len
