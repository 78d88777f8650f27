use Rattle.conn_service.proofs.Farewells.{tells_none, tells_note, tells_refused, tells_then}
use Rattle.std.proofs.Common.{refl, ◌∙◌, subst, sym}
use Rattle.conn_machine.specs.declared.conn.Conn.{Conn}
use Rattle.conn_service.specs.Moments.{moment}
use Rattle.conn_service.specs.Went.{Went}
use Rattle.conn_service.proofs.Wents.{went_then, went_same, went_note, lost_note, at_err, not_open, keeps_note, still_kept, notes_then, stands_then, told_of}
use Rattle.conn_service.proofs.Leaves.{closes_same, closes_then, closes_event, closes_refused}
use Rattle.conn_service.proofs.service.tell.Goals as goal

pub returns-then-is_quiet-clause-went : goal.returns-then-is_quiet-clause-went
returns-then-is_quiet-clause-went g c = λ desk. went_same c.requires.linked

pub returns-then-is_quiet-clause-told : goal.returns-then-is_quiet-clause-told
returns-then-is_quiet-clause-told g c = c.is_quiet.ensures.none c.if-is_quiet.true

pub returns-then-is_quiet-clause-finished : goal.returns-then-is_quiet-clause-finished
returns-then-is_quiet-clause-finished g c = λ end. absurd (not_open c.args.conn.now.phase end (c.is_quiet.ensures.open c.if-is_quiet.true))

pub notes-init : goal.notes-init
notes-init g c = record { went = λ desk. went_same c.requires.linked; lately = refl; open_ = λ opened. refl; ending = λ end. end; cause = λ x e. e; tells = tells_none (g.W.World.seen c.args.world.now); links = closes_same refl }

pub returns-in_err-note-clause-lost : goal.returns-in_err-note-clause-lost
returns-in_err-note-clause-lost g c = λ desk. at_err c.from_residual.result (lost_note (c.notes.invariant.went desk) c.in_err-note.ensures.seen c.in_err-note.ensures.lately c.in-Some.ensures.unended)

pub returns-in_err-note-clause-lately : goal.returns-in_err-note-clause-lately
returns-in_err-note-clause-lately g c = c.in_err-note.ensures.lately ∙ c.notes.invariant.lately

pub notes-preserved : goal.notes-preserved
notes-preserved g c = record {
  went = λ desk.
      let before = c.notes.invariant.went desk in
      went_then before (went_note c.in-Some.note before.conn.linked (c.in-Some.ensures.of_link _ (stands_then before c.requires.tracked.1).reached)
      c.in_ok-note.ensures.seen c.in_ok-note.ensures.lately
      (keeps_note (still_kept c.args.conn.now c.notes.conn c.requires.kept c.notes.invariant.open_ c.notes.invariant.ending) c.take_note.ensures.open c.take_note.ensures.ending c.take_note.ensures.client c.take_note.ensures.number)
      c.in-Some.ensures.reached);
  lately = c.in_ok-note.ensures.lately ∙ c.notes.invariant.lately;
  open_ = notes_then c.args.conn.now c.notes.conn c.take_note.new.self c.notes.invariant.open_ c.take_note.ensures.open;
  ending = λ end. c.take_note.ensures.ending (c.notes.invariant.ending end);
  cause = λ x e. c.take_note.ensures.cause x (c.notes.invariant.cause x e);
  tells = tells_then (g.W.World.seen c.args.world.now) (g.W.World.seen c.notes.world) (g.W.World.seen c.note.new.self) c.notes.invariant.tells (tells_note (g.W.World.seen c.notes.world) c.in-Some.note tt (g.W.World.seen c.note.new.self) c.in_ok-note.ensures.seen);
  links = closes_then c.notes.invariant.links (closes_event c.in_ok-note.ensures.seen);
}

pub returns-clause-went : goal.returns-clause-went
returns-clause-went g c = λ desk. subst (λ (x : Conn). Went ⊥ (moment (g.W.World.seen c.args.world.now) (g.W.World.lately c.args.world.now) desk c.args.conn.now) (moment (g.W.World.seen c.notes.world) (g.W.World.lately c.notes.world) desk x))
    (sym c.in_default.ensures.none) (c.notes.invariant.went desk)

pub returns-clause-lately : goal.returns-clause-lately
returns-clause-lately g c = c.notes.invariant.lately

pub returns-clause-told : goal.returns-clause-told
returns-clause-told g c = c.in_default.ensures.drained.0

pub returns-clause-open : goal.returns-clause-open
returns-clause-open g c = notes_then c.args.conn.now c.notes.conn c.take_note.new.self c.notes.invariant.open_ c.take_note.ensures.open

pub returns-clause-finished : goal.returns-clause-finished
returns-clause-finished g c = λ end. (c.in_default.ensures.drained.0, told_of c.take_note.new.self.phase (c.take_note.ensures.ending (c.notes.invariant.ending end)) c.in_default.ensures.drained.1)

pub returns-then-is_quiet-clause-tells : goal.returns-then-is_quiet-clause-tells
returns-then-is_quiet-clause-tells g c = tells_none (g.W.World.seen c.args.world.now)

pub returns-in_err-note-clause-tells : goal.returns-in_err-note-clause-tells
returns-in_err-note-clause-tells g c = tells_then (g.W.World.seen c.args.world.now) (g.W.World.seen c.notes.world) (g.W.World.seen c.note.new.self) c.notes.invariant.tells (tells_refused (g.W.World.seen c.notes.world) c.in-Some.note _ (g.W.World.seen c.note.new.self) c.in_err-note.ensures.seen)

pub returns-clause-tells : goal.returns-clause-tells
returns-clause-tells g c = c.notes.invariant.tells

pub returns-then-is_quiet-clause-cause : goal.returns-then-is_quiet-clause-cause
returns-then-is_quiet-clause-cause g c = λ x e. e

pub returns-in_err-note-clause-cause : goal.returns-in_err-note-clause-cause
returns-in_err-note-clause-cause g c = λ x e. c.take_note.ensures.cause x (c.notes.invariant.cause x e)

pub returns-clause-cause : goal.returns-clause-cause
returns-clause-cause g c = λ x e. c.take_note.ensures.cause x (c.notes.invariant.cause x e)

pub returns-then-is_quiet-clause-links : goal.returns-then-is_quiet-clause-links
returns-then-is_quiet-clause-links g c = closes_same refl

pub returns-in_err-note-clause-links : goal.returns-in_err-note-clause-links
returns-in_err-note-clause-links g c = closes_then c.notes.invariant.links (closes_refused c.in_err-note.ensures.seen.2)

pub returns-clause-links : goal.returns-clause-links
returns-clause-links g c = c.notes.invariant.links
