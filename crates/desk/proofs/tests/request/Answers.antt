use Rattle.std.proofs.Common.{ap, ◌∙◌, arith}
use Rattle.generation.specs.Meaning.{plan_of}
use Rattle.generation.specs.declared.generation.Generation.{Generation}
use Rattle.desk.proofs.Timelines.{last_among, held_some, attended_by}
use Rattle.desk.proofs.tests.request.Goals as goal

pub attend-requires : goal.attend-requires
attend-requires g c = last_among _ _ c.in_ok-issue.ensures.pinned.last

pub look-mask-requires-clause-attended : goal.look-mask-requires-clause-attended
look-mask-requires-clause-attended g c = attended_by (g.S.Shared.desk c.attend.new.self) _ _ _ (c.number-number.ensures ∙ ap (λ (x : Generation). (plan_of x).number) c.deref.ensures) c.in_ok-attend.ensures.attended.seat

pub draw-drawn-requires-clause-attended : goal.draw-drawn-requires-clause-attended
draw-drawn-requires-clause-attended g c = held_some _ _ c.look-mask.ensures.looked.seat

pub draw-drawn-requires-clause-room : goal.draw-drawn-requires-clause-room
draw-drawn-requires-clause-room g c = omega (arith, c.in_ok-attend.ensures.made.1, c.look-mask.ensures.room.1)
