use Rattle.std.proofs.Common.{◌≡◌, take}
use Rattle.std.specs.List.{flat_map}
use Rattle.link_world.specs.NoteText.{note_line}
use Rattle.replay_cmd.proofs.output.notes_of.Given as goal

abbrev pub invariant-loop-note : goal.invariant-loop-note
invariant-loop-note l = l.text.items ≡ flat_map note_line (take l.note-index l.notes)
