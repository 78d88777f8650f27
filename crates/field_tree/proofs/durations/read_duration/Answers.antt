use Rattle.std.proofs.Common.{◌≡◌, [], refl, sym, ◌∙◌}
use Rattle.field_tree.specs.Durations.{IsWithinADay}
use Rattle.field_tree.proofs.Parts.{left_step, time_read, time_only, out_of_range, not_parts, nil_when}
use Rattle.field_tree.proofs.durations.read_duration.Goals as goal

pub loop-rest-preserved : goal.loop-rest-preserved
loop-rest-preserved c =
    left_step c.args.text.now c.loop-rest.rest.now c.after-rest.result.now c.loop-rest.total c.in-Some.part.millis c.saturating_add-total.result c.in-Some.part.len
    c.loop-rest.invariant c.in-Some.ensures c.saturating_add-total.ensures c.after-rest.ensures

pub returns-in-None-clause-duration : goal.returns-in-None-clause-duration
returns-in-None-clause-duration c =
    (refl, λ millis h _. not_parts c.args.text.now c.loop-rest.rest.now c.loop-rest.total millis c.loop-rest.invariant c.in-None.ensures h)

pub returns-then-is_within_a_day-clause-duration : goal.returns-then-is_within_a_day-clause-duration
returns-then-is_within_a_day-clause-duration c =
    let none : c.loop-rest.rest.now ≡ [] = nil_when c.loop-rest.rest.now (sym c.is_empty.ensures ∙ c.loop-rest-test.false) in
    let within : IsWithinADay c.loop-rest.total = c.is_within_a_day.ensures.0 c.if-is_within_a_day.true in
    time_read c.args.text.now c.loop-rest.rest.now c.loop-rest.total c.loop-rest.invariant none within.0 within.1

pub returns-then-is_within_a_day-clause-only : goal.returns-then-is_within_a_day-clause-only
returns-then-is_within_a_day-clause-only c other h =
    let none : c.loop-rest.rest.now ≡ [] = nil_when c.loop-rest.rest.now (sym c.is_empty.ensures ∙ c.loop-rest-test.false) in
    let within : IsWithinADay c.loop-rest.total = c.is_within_a_day.ensures.0 c.if-is_within_a_day.true in
    time_only c.args.text.now c.loop-rest.rest.now c.loop-rest.total other c.loop-rest.invariant none within.1 h

pub returns-else-is_within_a_day-clause-duration : goal.returns-else-is_within_a_day-clause-duration
returns-else-is_within_a_day-clause-duration c =
    let none : c.loop-rest.rest.now ≡ [] = nil_when c.loop-rest.rest.now (sym c.is_empty.ensures ∙ c.loop-rest-test.false) in (
      refl,
      λ millis h within. out_of_range c.args.text.now c.loop-rest.rest.now c.loop-rest.total millis c.loop-rest.invariant none
          (λ low high. let yes_ = c.is_within_a_day.ensures.1 (low, high) in let no_ = c.if-is_within_a_day.false in absurd (cc (yes_, no_))) h within,
    )
