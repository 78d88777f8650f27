-- What a worker shares with the rest of the program, and what each call does to it. An equation with the old
-- meaning is also the whole frame: nothing else changes.
use Rattle.std.specs.Prelude.{◌≡◌, ◌≢◌, ◌⊎◌, ℕ, ◌+◌, ◌≤◌, List, [], ◌∷◌, ◌++◌, Option, Some, None}
use Rattle.std.specs.List.{AllByRecursion}
use Rattle.px_base.specs.Bytes.{one_more}
use Rattle.conversation.specs.Plans.{Plan}
use Rattle.wrr_deadlines.specs.Choice.{Draws}
use Rattle.wrr_deadlines.specs.declared.choice.Drawn.{Drawn}
use Rattle.wrr_deadlines.specs.declared.choice.Drawn.TheVariants as drawn
use Rattle.link_world.specs.declared.note.Look.{Look}
use Rattle.link_world.specs.declared.note.NodePick.{NodePick}

-- what is kept of one number
pub record Seat : Type 0 where
  -- the looks and the picks, in order
  pub looks : List Look
  pub picks : List NodePick
  -- how many pops were taken at each node, as it was last read there
  pub count : ℕ → ℕ

pub record Desk : Type 0 where
  -- the generations seen, the newest last
  pub generations : List Plan
  -- the pins, in order
  pub pins : List Plan
  -- how many of the pins were refused
  pub refused : ℕ
  -- the seat of each number that is attended
  pub attended : ℕ → Option Seat

-- how many more looks and picks can be kept
pub record Room : Type 0 where
  pub looks : ℕ
  pub picks : ℕ

-- each number is one more than the one before it
abbrev pub IsNumbered : List Plan → Type 0
IsNumbered ps = (before after : List Plan) (p q : Plan) → ps ≡ before ++ p ∷ q ∷ after → q.number ≡ p.number + 1

-- generations are only added, after those that were seen
abbrev pub Grew : List Plan → List Plan → Type 0
Grew old new = (more : List Plan) × (new ≡ old ++ more)

abbrev pub IsLast : List Plan → Plan → Type 0
IsLast ps p = (before : List Plan) × (ps ≡ before ++ p ∷ [])

-- no generation has a greater number
abbrev pub IsGreatest : List Plan → Plan → Type 0
IsGreatest ps p = AllByRecursion (λ q. q.number ≤ p.number) ps

-- the last of the generations seen was pinned
pub record Pinned (old : Desk) (issue : Plan) (new : Desk) : Type 0 where
  pub same : new ≡ record old { generations = new.generations; pins = new.pins }
  pub grew : Grew old.generations new.generations
  pub last : IsLast new.generations issue
  pub greatest : IsGreatest new.generations issue
  pub pins : new.pins ≡ old.pins ++ issue ∷ []

-- a refused pin adds none, or one that the number of refused pins counts
abbrev pub Counted : Desk → Desk → Type 0
Counted old new = ((new.pins ≡ old.pins) × (new.refused ≡ old.refused))
    ⊎ ((p : Plan) × (new.pins ≡ old.pins ++ p ∷ []) × (new.refused ≡ one_more old.refused))

pub record Refused (old new : Desk) : Type 0 where
  pub same : new ≡ record old { generations = new.generations; pins = new.pins; refused = new.refused }
  pub grew : Grew old.generations new.generations
  pub counted : Counted old new

-- the number now has this seat, or none
pub record Reseated (old : Desk) (number : ℕ) (given : Option Seat) (new : Desk) : Type 0 where
  pub same : new ≡ record old { attended = new.attended }
  pub seat : new.attended number ≡ given
  pub others : (n : ℕ) → n ≢ number → new.attended n ≡ old.attended n

-- nothing was done at it
abbrev pub empty_seat : Seat
empty_seat = record { looks = []; picks = []; count = λ node. 0 }

-- a seat, and an empty one where there is none
abbrev pub held : Option Seat → Seat
held None = empty_seat
held (Some seat) = seat

abbrev pub seat_at : Desk → ℕ → Seat
seat_at d number = held (d.attended number)

-- there is a seat
abbrev pub IsHeld : Option Seat → Type 0
IsHeld seat = seat ≡ Some (held seat)

abbrev pub IsAttended : Desk → ℕ → Type 0
IsAttended d number = IsHeld (d.attended number)

-- a number that had no seat has an empty one now
abbrev pub AttendDid : Desk → ℕ → Desk → Type 0
AttendDid old number new = Reseated old number (Some (seat_at old number)) new

abbrev pub with_look : Seat → Look → Seat
with_look seat look = record seat { looks = seat.looks ++ look ∷ [] }

-- one more look, of this mask at this node
abbrev pub LookDid : Desk → ℕ → ℕ → ℕ → Desk → Type 0
LookDid old number node mask new = Reseated old number (Some (with_look (seat_at old number) (record { node = node; mask = mask }))) new

abbrev pub RetireDid : Desk → ℕ → Desk → Type 0
RetireDid old number new = Reseated old number None new

-- the weights of a balancer of one server
abbrev pub one_server : List ℕ
one_server = 1 ∷ []

-- the pick that was drawn, if one was
abbrev pub pick_of : ℕ → Drawn → List NodePick
pick_of node (drawn.Pick pick) = record { node = node; pick = pick } ∷ []
pick_of node drawn.NoneUp = []
pick_of node drawn.Spent = []

-- how many pops are taken after a draw that read this many
abbrev pub count_after : ℕ → Drawn → ℕ
count_after count (drawn.Pick pick) = pick.to
count_after count drawn.NoneUp = count
count_after count drawn.Spent = count

-- What was drawn at a node: by the number of pops that was read there, which is no less than the one read before.
pub record DrawDid (old : Seat) (node mask : ℕ) (result : Drawn) (new : Seat) : Type 0 where
  pub count : ℕ
  pub rose : old.count node ≤ count
  pub drawn : Draws one_server mask count result
  pub looks : new.looks ≡ old.looks
  pub picks : new.picks ≡ old.picks ++ pick_of node result
  pub counted : new.count node ≡ count_after count result
  pub others : (n : ℕ) → n ≢ node → new.count n ≡ old.count n

-- the room is at most so many looks and picks less
abbrev pub RoomLeft : Room → ℕ → ℕ → Room → Type 0
RoomLeft old looks picks new = (old.looks ≤ new.looks + looks) × (old.picks ≤ new.picks + picks)
