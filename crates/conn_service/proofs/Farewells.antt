-- Links are closed and notes are told, and nothing else is done.
use Rattle.std.proofs.Common.{◌≡◌, ℕ, List, [], ◌∷◌, ◌++◌, Option, Some, None, refl, sym, ◌∙◌, ap, subst, inl, inr, Bool, true, false}
use Rattle.std.specs.Prelude.{Ok, Err}
use Rattle.std.specs.List.{AllByRecursion}
use Rattle.std.specs.declared.alloc.AllocError.{AllocError}
use Rattle.std.proofs.lemmas.List.{append-nil, append_assoc}
use Rattle.link_world.specs.declared.note.Note.{Note}
use Rattle.link_world.specs.Log.{Event, closed, on, noted}
use Rattle.link_world.specs.Seen.{Seen, CloseDid, NoteDid}
use Rattle.link_world.specs.declared.note.EndCause.{EndCause}
use Rattle.conn_machine.specs.Reached.{EndsBy, IsTold}
use Rattle.conn_machine.specs.declared.parts.Phase.{Phase}
use Rattle.conn_machine.specs.declared.parts.Phase.TheVariants.{Told}
use Rattle.conn_machine.specs.declared.conn.Conn.{Conn}
use Rattle.conn_service.specs.Went.{extended}
use Rattle.conn_service.specs.Released.{Released}
use Rattle.conn_service.specs.Farewell.{IsFarewell, OnlyTells}

all_both : (xs ys : List Event) → AllByRecursion IsFarewell xs → AllByRecursion IsFarewell ys → AllByRecursion IsFarewell (xs ++ ys)
all_both [] ys h k = k
all_both (x ∷ xs) ys h k = (h.0, all_both xs ys h.1 k)

once : (told : Option (List Event)) → told ≡ extended told []
once None = refl
once (Some log) = ap (λ (l : List Event). Some l) (sym (append-nil log))

twice : (told : Option (List Event)) (a b : List Event) → extended (extended told a) b ≡ extended told (a ++ b)
twice None a b = refl
twice (Some log) a b = ap (λ (l : List Event). Some l) (append_assoc log a b)

pub tells_none : (s : Seen) → OnlyTells s s
tells_none s = record { ran = []; log = once s.log; farewells = tt }

pub tells_same : (old new : Seen) → new ≡ old → OnlyTells old new
tells_same old new is = subst (λ (s : Seen). OnlyTells old s) (sym is) (tells_none old)

pub tells_then : (a b d : Seen) → OnlyTells a b → OnlyTells b d → OnlyTells a d
tells_then a b d p q = record {
  ran = p.ran ++ q.ran;
  log = q.log ∙ ap (λ (o : Option (List Event)). extended o q.ran) p.log ∙ twice a.log p.ran q.ran;
  farewells = all_both p.ran q.ran p.farewells q.farewells;
}

pub tells_close : (old : Seen) (link : ℕ) (new : Seen) → CloseDid old link new → OnlyTells old new
tells_close old link new did = by (old.is_open link) refl
  where
    by : (b : Bool) → old.is_open link ≡ b → OnlyTells old new
    by true is = record { ran = closed link old.now ∷ []; log = ap (λ (s : Seen). s.log) (did.0 is).same; farewells = (tt, tt) }
    by false is = tells_same old new (did.1 is)

pub tells_release : (c : Conn) (old : Seen) (link : ℕ) (new : Seen) → Released c link old new → OnlyTells old new
tells_release c old link new (inl (ex, same)) = tells_same old new same
tells_release c old link new (inr (over, did)) = tells_close old link new did

pub tells_note : (old : Seen) (note : Note) (x : Unit {0}) (new : Seen) → NoteDid old note (Ok x) new → OnlyTells old new
tells_note old note x new is = record { ran = on note.link old.now (noted note) ∷ []; log = ap (λ (s : Seen). s.log) is; farewells = (tt, tt) }

pub tells_refused : (old : Seen) (note : Note) (e : AllocError) (new : Seen) → NoteDid old note (Err e) new → OnlyTells old new
tells_refused old note e new (n, more, is) = record { ran = []; log = ap (λ (s : Seen). s.log) is ∙ once old.log; farewells = tt }

-- an end that is told, and its cause
pub told_by : (p : Phase) (cause : EndCause) → EndsBy cause p → IsTold p → p ≡ Told cause
told_by p cause (inl over) told = absurd (subst IsTold over told)
told_by p cause (inr is) told = is
