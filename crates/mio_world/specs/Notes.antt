-- What becomes of a world's notes.
use Rattle.std.specs.Prelude.{◌≡◌, ℕ, List, Bool, true, false, not, ◌&&◌, nat_le, Option, Some, None}
use Rattle.std.specs.Io.KnownBytes.{Appends}
use Rattle.px_base.specs.Bytes.{Rose, one_more}
use Rattle.link_world.specs.NoteText.{note_line}
use Rattle.link_world.specs.declared.note.Note.{Note}
use Rattle.link_world.specs.declared.note.NoteBody.{NoteBody}
use Rattle.link_world.specs.declared.note.NoteBody.TheVariants.{Request, End}
use Rattle.mio_world.specs.declared.access.Access.{Access}
use Rattle.mio_world.specs.declared.access.Access.TheVariants as access
use Rattle.mio_world.specs.declared.notes.Notes.{Notes}

-- the note's text stands behind what the sink held; where no one asked for notes, nothing is to be done
abbrev pub Writes : {K : Type 0} → (K → Option (List ℕ)) → Access K → Note → Access K → Type 0
Writes held access.Nowhere note new = new ≡ access.Nowhere
Writes held access.Refused note new = ⊥
Writes held (access.Lines old) note access.Nowhere = ⊥
Writes held (access.Lines old) note access.Refused = ⊥
Writes held (access.Lines old) note (access.Lines new) = Appends (held old) (held new) (note_line note)

-- a note is refused: the file could not be opened, or the sink's count of faults rose
abbrev pub Refuses : {K : Type 0} → (K → ℕ) → Access K → Access K → Type 0
Refuses faults access.Nowhere new = ⊥
Refuses faults access.Refused new = new ≡ access.Refused
Refuses faults (access.Lines old) access.Nowhere = ⊥
Refuses faults (access.Lines old) access.Refused = ⊥
Refuses faults (access.Lines old) (access.Lines new) = Rose (faults old) (faults new)

abbrev pub noted_by : ℕ → NoteBody → ℕ
noted_by noted (Request r) = one_more noted
noted_by noted (End cause) = noted

-- how many requests were noted, after this note
abbrev pub noted_after : ℕ → Note → ℕ
noted_after noted note = noted_by noted note.body

abbrev pub first_notes : {K : Type 0} → Access K → Option ℕ → Notes K
first_notes access limit = record { access = access; limit = limit; noted = 0; refused = false }

abbrev pub is_reached : Option ℕ → ℕ → Bool
is_reached None noted = false
is_reached (Some limit) noted = nat_le limit noted

-- so many requests were noted that a stop is asked for, and no note was refused
abbrev pub is_due : {K : Type 0} → Notes K → Bool
is_due n = not n.refused && is_reached n.limit n.noted

-- a note was taken: it is written, and one of a request is counted; or it is the first that is refused; or one was refused before
pub data TakeDid {K : Type 0} (held : K → Option (List ℕ)) (faults : K → ℕ) (old : Notes K) (note : Note) (new : Notes K) : Type 0 where
  taken : old.refused ≡ false → Writes held old.access note new.access → new ≡ record old { access = new.access; noted = noted_after old.noted note }
      → TakeDid held faults old note new
  refused : old.refused ≡ false → Refuses faults old.access new.access → new ≡ record old { access = new.access; refused = true } → TakeDid held faults old note new
  refused_before : old.refused ≡ true → new ≡ old → TakeDid held faults old note new
