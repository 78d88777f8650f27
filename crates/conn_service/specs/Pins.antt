-- What serving one connection does to a shared desk.
use Rattle.std.specs.Prelude.{◌≡◌, ℕ, ◌+◌, ◌-◌, ◌^◌, ◌≤◌, ◌<◌, min, List, [], ◌∷◌, ◌++◌, map, length}
use Rattle.std.specs.List.{flat_map, AllByRecursion, Contains}
use Rattle.conversation.specs.Plans.{Plan}
use Rattle.conversation.specs.Steps.{Step, pins}
use Rattle.wrr_deadlines.specs.Reduced.{period_len}
use Rattle.desk.specs.Desks.{Desk, Grew, seat_at, one_server}
use Rattle.conn_service.specs.Choices.{last_number, looks_under, picks_under, spents_under}

-- the number is at most each bound of the numbers of these
abbrev pub IsBelow : List Plan → ℕ → Type 0
IsBelow plans n = (m : ℕ) → AllByRecursion (λ (p : Plan). p.number ≤ m) plans → n ≤ m

-- so many more, but at the end of the numbers the same
abbrev pub counted_on : ℕ → ℕ → ℕ
counted_on n more = min (n + more) (2 ^ 64 - 1)

-- a pin that the connection was told of, or one that was refused
pub data Mark : Type 0 where
  kept : Plan → Mark
  refused : Plan → Mark

abbrev pub mark_plan : Mark → Plan
mark_plan (kept p) = p
mark_plan (refused p) = p

abbrev pub kept_by : Mark → List Plan
kept_by (kept p) = p ∷ []
kept_by (refused p) = []

abbrev pub refused_by : Mark → List Plan
refused_by (kept p) = []
refused_by (refused p) = p ∷ []

-- the pins since then are these of the connection, each once and in order, and the refused ones, which are counted
pub record Accounted (old new : Desk) (ours : List Plan) : Type 0 where
  pub marks : List Mark
  pub all : new.pins ≡ old.pins ++ map mark_plan marks
  pub own : flat_map kept_by marks ≡ ours
  pub counted : counted_on new.refused 0 ≡ counted_on old.refused (length (flat_map refused_by marks))

-- The desk after these steps of a connection, whose last pin had the number `from` before them and has `to` now. A
-- draw was refused only where a period more would pass 2^62 pops.
pub record DeskWent (old new : Desk) (from to : ℕ) (did : List Step) : Type 0 where
  pub grew : Grew old.generations new.generations
  pub held : AllByRecursion (Contains new.generations) (pins did)
  pub number : to ≡ last_number from did
  pub below : IsBelow old.generations from → IsBelow new.generations to
  pub pinned : Accounted old new (pins did)
  pub looks : (n : ℕ) → (seat_at new n).looks ≡ (seat_at old n).looks ++ looks_under n from did
  pub picks : (n : ℕ) → (seat_at new n).picks ≡ (seat_at old n).picks ++ picks_under n from did
  pub counts : (n node : ℕ) → (seat_at old n).count node ≤ (seat_at new n).count node
  pub spent : (n node : ℕ) → Contains (spents_under n from did) node → 2 ^ 62 < (seat_at new n).count node + period_len one_server
