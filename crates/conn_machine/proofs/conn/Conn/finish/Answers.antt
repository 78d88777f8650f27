use Rattle.std.proofs.Common.{refl, sym, ap, ◌∙◌, ◌++◌, ◌∷◌, []}
use Rattle.link_world.specs.declared.note.Note.{Note}
use Rattle.conn_machine.proofs.Opens.{opened_at}
use Rattle.conn_machine.proofs.Turnings.{reached_closing, reached_left, reached_on, note_same}
use Rattle.conn_machine.proofs.conn.Conn.finish.Goals as goal

pub returns-in-Some-clause-reached : goal.returns-in-Some-clause-reached
returns-in-Some-clause-reached c = λ steps r. reached_closing {c = c.args.self.now} _ c.in-Some.cause refl (record {
  client = refl;
  input = c.drop_front.ensures;
  over = refl;
  number = refl;
  unpinned = refl;
  none = c.clear.ensures.items;
  notes = c.push_in_room.ensures ∙ ap (λ (n : Note). c.args.self.now.notes.items ++ n ∷ []) (c.request_note-note.ensures ∙ note_same c.args.self.now.client.link c.args.self.now.current c.replace-looks.result c.args.self.now.looks c.replace-picks.result c.args.self.now.picks c.replace-backs.result c.args.self.now.backs c.replace-looks.ensures.value c.replace-picks.ensures.value c.replace-backs.ensures.value);
}) c.requires.sent (sym c.end_after-end.ensures.end ∙ c.in-Some.is) (opened_at c.requires.waits r)

pub returns-then-self-clause-reached : goal.returns-then-self-clause-reached
returns-then-self-clause-reached c = λ steps r. reached_left {c = c.args.self.now} _ refl c.if-self.true (record {
  client = refl;
  input = c.drop_front.ensures;
  over = refl;
  number = refl;
  unpinned = refl;
  none = c.clear.ensures.items;
  notes = c.push_in_room.ensures ∙ ap (λ (n : Note). c.args.self.now.notes.items ++ n ∷ []) (c.request_note-note.ensures ∙ note_same c.args.self.now.client.link c.args.self.now.current c.replace-looks.result c.args.self.now.looks c.replace-picks.result c.args.self.now.picks c.replace-backs.result c.args.self.now.backs c.replace-looks.ensures.value c.replace-picks.ensures.value c.replace-backs.ensures.value);
}) c.requires.sent (sym c.end_after-end.ensures.end ∙ c.in-None.is) (opened_at c.requires.waits r)

pub returns-else-self-clause-reached : goal.returns-else-self-clause-reached
returns-else-self-clause-reached c = λ steps r. reached_on {c = c.args.self.now} _ c.requires.waits.phase refl refl (record {
  client = refl;
  input = c.drop_front.ensures;
  over = refl;
  number = refl;
  unpinned = refl;
  none = c.clear.ensures.items;
  notes = c.push_in_room.ensures ∙ ap (λ (n : Note). c.args.self.now.notes.items ++ n ∷ []) (c.request_note-note.ensures ∙ note_same c.args.self.now.client.link c.args.self.now.current c.replace-looks.result c.args.self.now.looks c.replace-picks.result c.args.self.now.picks c.replace-backs.result c.args.self.now.backs c.replace-looks.ensures.value c.replace-picks.ensures.value c.replace-backs.ensures.value);
}) c.requires.sent (sym c.end_after-end.ensures.end ∙ c.in-None.is) c.if-self.false (opened_at c.requires.waits r)
