use Rattle.std.proofs.Common.{◌∙◌}
use Rattle.system_core.proofs.Driving.{noted_none, noted_more}
use Rattle.system_core.proofs.drive.tell_notes.Goals as goal

pub loop-note-preserved : goal.loop-note-preserved
loop-note-preserved c = record {
  number = c.take_note.ensures.number ∙ c.loop-note.invariant.number;
  opens = λ o. c.loop-note.invariant.opens (c.take_note.ensures.opens o);
  told = noted_more c.args.conn.now c.loop-note.conn c.take_note.new.self c.args.notes.now.items c.loop-note.notes.items c.push.new.self.items c.in-Some.note
      c.loop-note.invariant.told c.in_ok-push.ensures.items c.take_note.ensures.client c.take_note.ensures.prompt c.in-Some.ensures.reached;
}
