use Rattle.std.proofs.Common.{◌∙◌, ap, sym, arith, length, ◌-◌, take}
use Rattle.httparse.specs.declared.spans.HeaderSpan.{HeaderSpan}
use Rattle.http_wire.proofs.Laid.{moves, ends_in, tail_fits, spelled_as, read_as}
use Rattle.http_wire.proofs.lines.edits.move_last.Goals as goal

pub turn_tail-requires : goal.turn_tail-requires
turn_tail-requires c =
    let begin = rw c.as_slice-2.ensures.value at c.bounds_of-start.ensures.start in
    let from = rw (c.as_slice-4.ensures.value, c.as_slice-5.ensures.value) at c.bounds_of-from.ensures.start in
    let below = tail_fits c.args.spans.now.items c.args.at (length c.args.spans.now.items - 1) (omega (arith, c.requires.within)) in
    omega (arith, begin, from, below, c.bounds_of-from.ensures.ordered, c.bounds_of-from.ensures.within, ap length c.as_slice-3.ensures.value, ap length c.as_mut_slice.ensures.value)

pub lay_out-requires : goal.lay_out-requires
lay_out-requires c =
    let begin = rw c.as_slice-2.ensures.value at c.bounds_of-start.ensures.start in
    let from = rw (c.as_slice-4.ensures.value, c.as_slice-5.ensures.value) at c.bounds_of-from.ensures.start in
    let to = rw (c.as_slice-4.ensures.value, c.as_slice-5.ensures.value) at c.bounds_of-from.ensures.end in
    let text = rw c.as_mut_slice.ensures.value at c.turn_tail.ensures in
    let spans = rw c.as_mut_slice-2.ensures.value at c.turn_tail-2.ensures in
    let room = sym (ap length c.as_mut_slice.ensures.value) ∙ c.as_mut_slice.ensures.len in
    let seats = sym (ap (length {A = HeaderSpan}) c.as_mut_slice-2.ensures.value) ∙ c.as_mut_slice-2.ensures.len in
    let moved = moves c.args.text.now.items c.turn_tail.new.items c.args.spans.now.items c.turn_tail-2.new.items c.args.text.now.len c.args.spans.now.len
    c.args.at c.bounds_of-start.result.0 c.bounds_of-from.result.0 c.bounds_of-from.result.1 c.requires.spelled c.requires.within begin from to text spans room seats in
    let last = ends_in c.args.text.now.items c.args.spans.now.items c.args.at c.requires.within in
    omega (arith, (moved last.0 last.1.0 last.1.1).2, ap length c.as_slice-6.ensures.value)

pub returns-clause-spelled : goal.returns-clause-spelled
returns-clause-spelled c =
    let begin = rw c.as_slice-2.ensures.value at c.bounds_of-start.ensures.start in
    let from = rw (c.as_slice-4.ensures.value, c.as_slice-5.ensures.value) at c.bounds_of-from.ensures.start in
    let to = rw (c.as_slice-4.ensures.value, c.as_slice-5.ensures.value) at c.bounds_of-from.ensures.end in
    let text = rw c.as_mut_slice.ensures.value at c.turn_tail.ensures in
    let spans = rw c.as_mut_slice-2.ensures.value at c.turn_tail-2.ensures in
    let room = sym (ap length c.as_mut_slice.ensures.value) ∙ c.as_mut_slice.ensures.len in
    let seats = sym (ap (length {A = HeaderSpan}) c.as_mut_slice-2.ensures.value) ∙ c.as_mut_slice-2.ensures.len in
    let moved = moves c.args.text.now.items c.turn_tail.new.items c.args.spans.now.items c.turn_tail-2.new.items c.args.text.now.len c.args.spans.now.len
    c.args.at c.bounds_of-start.result.0 c.bounds_of-from.result.0 c.bounds_of-from.result.1 c.requires.spelled c.requires.within begin from to text spans room seats in
    let last = ends_in c.args.text.now.items c.args.spans.now.items c.args.at c.requires.within in
    spelled_as _ _ c.lay_out.new.spans.items c.lay_out.ensures.laid (moved last.0 last.1.0 last.1.1).0

pub returns-clause-lines : goal.returns-clause-lines
returns-clause-lines c =
    let begin = rw c.as_slice-2.ensures.value at c.bounds_of-start.ensures.start in
    let from = rw (c.as_slice-4.ensures.value, c.as_slice-5.ensures.value) at c.bounds_of-from.ensures.start in
    let to = rw (c.as_slice-4.ensures.value, c.as_slice-5.ensures.value) at c.bounds_of-from.ensures.end in
    let text = rw c.as_mut_slice.ensures.value at c.turn_tail.ensures in
    let spans = rw c.as_mut_slice-2.ensures.value at c.turn_tail-2.ensures in
    let room = sym (ap length c.as_mut_slice.ensures.value) ∙ c.as_mut_slice.ensures.len in
    let seats = sym (ap (length {A = HeaderSpan}) c.as_mut_slice-2.ensures.value) ∙ c.as_mut_slice-2.ensures.len in
    let moved = moves c.args.text.now.items c.turn_tail.new.items c.args.spans.now.items c.turn_tail-2.new.items c.args.text.now.len c.args.spans.now.len
    c.args.at c.bounds_of-start.result.0 c.bounds_of-from.result.0 c.bounds_of-from.result.1 c.requires.spelled c.requires.within begin from to text spans room seats in
    λ front last is. read_as _ _ c.lay_out.new.spans.items c.lay_out.ensures.laid ∙ (moved front last is).1
