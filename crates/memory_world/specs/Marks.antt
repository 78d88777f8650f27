-- What is meant of each link of a world in memory.
use Rattle.std.specs.Prelude.{◌≡◌, ◌≢◌, ℕ, zero, suc, ◌+◌, ◌==◌, ◌||◌, List, [], ◌∷◌, Bool, true, false, cond}
use Rattle.px_base.specs.Bytes.{one_more}
use Rattle.link_world.specs.Lately.{Lately}
use Rattle.memory_world.specs.declared.mark.Mark.{Mark}

-- of a link that never came
abbrev pub blank : Mark
blank = record { link = 0; faults = 0; is_open = false; is_dead = false; reads = 0; read_quiet = false; write_quiet = false; read_was_quiet = false; write_was_quiet = false }

-- a link came
abbrev pub has : List Mark → ℕ → Bool
has [] link = false
has (m ∷ marks) link = (m.link == link) || has marks link

-- what is meant of a link
abbrev pub mark_of : List Mark → ℕ → Mark
mark_of [] link = blank
mark_of (m ∷ marks) link = cond (m.link == link) m (mark_of marks link)

-- the first place of a link
abbrev pub IsFirst : List Mark → ℕ → ℕ → Type 0
IsFirst [] link at = ⊥
IsFirst (m ∷ marks) link zero = (m.link == link) ≡ true
IsFirst (m ∷ marks) link (suc at) = ((m.link == link) ≡ false) × IsFirst marks link at

-- how many links are open
abbrev pub open_count : List Mark → ℕ
open_count [] = 0
open_count (m ∷ marks) = open_count marks + cond m.is_open 1 0

abbrev pub after_read : Mark → Bool → Mark
after_read m quiet = record m { reads = one_more m.reads; read_quiet = quiet }

abbrev pub after_write : Mark → Bool → Mark
after_write m quiet = record m { write_quiet = quiet }

abbrev pub after_fault : Mark → Mark
after_fault m = record m { faults = one_more m.faults }

abbrev pub after_close : Mark → Mark
after_close m = record m { is_open = false }

abbrev pub after_wait : Mark → Mark
after_wait m = record m { reads = 0; read_quiet = false; write_quiet = false; read_was_quiet = m.read_quiet; write_was_quiet = m.write_quiet }

-- what is meant of one link is this now, and of the others what it was
pub record Put (old : List Mark) (link : ℕ) (m : Mark) (new : List Mark) : Type 0 where
  pub here : mark_of new link ≡ m
  pub others : (l : ℕ) → l ≢ link → mark_of new l ≡ mark_of old l
  pub has : (l : ℕ) → has new l ≡ has old l

-- a link that didn't come before is this now
pub record Added (old : List Mark) (link : ℕ) (m : Mark) (new : List Mark) : Type 0 where
  pub absent : mark_of old link ≡ blank
  pub here : mark_of new link ≡ m
  pub came : has new link ≡ true
  pub others : (l : ℕ) → l ≢ link → mark_of new l ≡ mark_of old l
  pub others_came : (l : ℕ) → l ≢ link → has new l ≡ has old l

abbrev pub lately_of : Bool → Bool → List Mark → Lately
lately_of clocked no_more marks = record {
  clocked = clocked;
  no_more = no_more;
  reads = λ l. (mark_of marks l).reads;
  read_quiet = λ l. (mark_of marks l).read_quiet;
  write_quiet = λ l. (mark_of marks l).write_quiet;
  read_was_quiet = λ l. (mark_of marks l).read_was_quiet;
  write_was_quiet = λ l. (mark_of marks l).write_was_quiet;
}
