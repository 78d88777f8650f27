-- What a machine keeps true of the steps that it was told, in every phase.
use Rattle.std.specs.Prelude.{◌≡◌, ℕ, ◌<◌, ◌⊎◌, Bool, true, List, [], ◌∷◌, ◌++◌, length, Option}
use Rattle.std.specs.List.{flat_map, AllByRecursion, Contains}
use Rattle.ip_net.specs.declared.ip.Ip.{Ip}
use Rattle.link_world.specs.Log.{LinkEvent, came, gave_end, given, taken, notes}
use Rattle.link_world.specs.declared.note.Note.{Note}
use Rattle.link_world.specs.declared.note.Look.{Look}
use Rattle.link_world.specs.declared.note.NodePick.{NodePick}
use Rattle.conversation.specs.Plans.{Plan}
use Rattle.conversation.specs.Steps.{Step, Choice, history, elsewhere, pins, looks, picks, spents, choices}
use Rattle.conversation.specs.Turns.{Turn, HasAnswer}
use Rattle.conversation.specs.Served.{of_all, item_of, reply_of, pin_of, looks_of, picks_of, spents_of, choices_of, backs_of, notes_of, IfLast, AreDistinct, AreNumbered, Rises, IsAnswered, IsWhole, TookReplies}

-- what the steps tell of the client's link, of other links and of the choices
pub record Told : Type 0 where
  pub events : List LinkEvent
  pub others : List ℕ
  pub pins : List Plan
  pub looks : List Look
  pub picks : List NodePick
  pub spents : List ℕ
  pub choices : List Choice

abbrev pub told : ℕ → List Step → Told
told link steps = record { events = history link steps; others = elsewhere link steps; pins = pins steps; looks = looks steps; picks = picks steps; spents = spents steps; choices = choices steps }

-- all of its reply is known: it is spelled whole, or its server gave a whole one
abbrev pub IsReplyKnown : Turn → Type 0
IsReplyKnown t = (t.whole ≡ true) ⊎ HasAnswer t

-- these bytes aren't the whole replies of the requests that are done and of this one
abbrev pub IsUntaken : List ℕ → List Turn → Turn → Type 0
IsUntaken took done t = length took < length (flat_map reply_of done ++ t.reply)

-- The client ended once it had taken the replies of the requests that are done. Where all of the last one's is known now,
-- it hadn't taken all of that.
pub record EndedIn (events : List LinkEvent) (done : List Turn) (last : Option Turn) : Type 0 where
  pub before : List LinkEvent
  pub after : List LinkEvent
  pub parts : events ≡ before ++ gave_end ∷ after
  pub covers : TookReplies done (taken before)
  pub untaken : IfLast (λ t. IsReplyKnown t → IsUntaken (taken before) done t) last

-- The client's bytes are these requests and this rest; what it took are their replies but for what is left, which is of
-- the last; their notes are told or wait, but for that of the last, of which `closed` is what is told or waits. No link is
-- told of but the client's and those that these requests were sent on.
pub record Holds (t : Told) (link : ℕ) (entry : List ℕ) (peer : Ip) (done : List Turn) (last : Option Turn) (rest left : List ℕ) (waiting closed ending : List Note) (over : Bool) (number next : ℕ) : Type 0 where
  pub arrived : (more : List LinkEvent) × (t.events ≡ came entry peer ∷ more)
  pub reads : given t.events ≡ of_all item_of done last ++ rest
  pub spells : taken t.events ++ left ≡ of_all reply_of done last
  pub covers : TookReplies done (taken t.events)
  pub noted : notes t.events ++ waiting ≡ (flat_map (notes_of link) done ++ closed) ++ ending
  pub pinned : t.pins ≡ of_all pin_of done last
  pub looked : t.looks ≡ of_all looks_of done last
  pub picked : t.picks ≡ of_all picks_of done last
  pub refused : t.spents ≡ of_all spents_of done last
  pub chosen : t.choices ≡ of_all choices_of done last
  pub own : AreDistinct (of_all backs_of done last)
  pub links : AllByRecursion (Contains (of_all backs_of done last)) t.others
  pub rising : Rises 0 t.pins number
  pub numbered : AreNumbered 1 done next
  pub numbered_last : IfLast (λ u. u.index ≡ next) last
  pub whole : AllByRecursion IsWhole done
  pub closes : over ≡ true → EndedIn t.events done last

-- each request is answered
pub record Sound (steps : List Step) (entry : List ℕ) (peer : Ip) (done : List Turn) (last : Option Turn) : Type 0 where
  pub all : AllByRecursion (IsAnswered steps entry peer) done
  pub one : IfLast (IsAnswered steps entry peer) last
