use Rattle.std.proofs.Common.{◌≡◌}
use Rattle.conn_machine.specs.Reached.{notes_left, IsOpen}
use Rattle.system_core.specs.Drives.{Noted}
use Rattle.system_core.proofs.drive.tell_notes.Given as goal

abbrev pub invariant-loop-note : goal.invariant-loop-note
invariant-loop-note l = record {
  number : l.conn.current.number ≡ l.initial.conn.current.number;
  opens : IsOpen l.conn → IsOpen l.initial.conn;
  told : Noted l.initial.conn l.conn l.initial.notes.items l.notes.items;
}

abbrev pub decreases-loop-note : goal.decreases-loop-note
decreases-loop-note l = notes_left l.conn
