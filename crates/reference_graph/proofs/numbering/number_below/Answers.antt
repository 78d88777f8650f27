use Rattle.std.proofs.Common.{◌≡◌, ◌<◌, ◌∙◌, arith, length, false, subst, List, ℕ, Option}
use Rattle.reference_graph.specs.Numbering.{GoesDown, has_number}
use Rattle.reference_graph.proofs.NumberLemmas.{numbered_more, numbered_pushed, numbered_upto, has_number_read}
use Rattle.reference_graph.proofs.numbering.number_below.Goals as goal

pub loop-numbers-preserved : goal.loop-numbers-preserved
loop-numbers-preserved c =
    let P : List (Option ℕ) → Type 0 = λ ns. has_number ns c.next_below-at.result ≡ false in
    let Q : List (Option ℕ) → Type 0 = λ ns. GoesDown c.args.links.now (has_number ns) c.args.first c.next_below-at.ensures.down.0 c.next_below-at.result in
    let l : c.args.first < length c.loop-numbers.numbers.items = omega (arith, c.loop-numbers.invariant.long, c.requires.inside) in
    numbered_pushed c.args.links.now c.args.heights.now c.args.first c.next_below-at.result c.len.result c.loop-numbers.order.items c.push.new.self.items c.loop-numbers.numbers.items
    c.in_ok-push.ensures.items (omega (arith, c.len.ensures))
    (numbered_more c.args.links.now c.args.heights.now c.args.first c.next_below-at.result c.loop-numbers.order.items c.loop-numbers.numbers.items
    c.next_below-at.ensures.inside c.requires.sound c.next_below-at.ensures.sound
    (has_number_read c.loop-numbers.numbers.items c.args.first c.index.result.now l c.index.ensures ∙ c.loop-numbers-test.ensures)
    (subst P c.as_slice.ensures.value c.next_below-at.ensures.has_none) c.next_below-at.ensures.down.0 (subst Q c.as_slice.ensures.value c.next_below-at.ensures.down.1)
    c.loop-numbers.invariant)

pub returns : goal.returns
returns c =
    let l : c.args.first < length c.loop-numbers.numbers.items = omega (arith, c.loop-numbers.invariant.long, c.requires.inside) in
    numbered_upto c.args.links.now c.args.heights.now c.args.first c.loop-numbers.order.items c.loop-numbers.numbers.items c.loop-numbers.invariant
    (λ _. has_number_read c.loop-numbers.numbers.items c.args.first c.index.result.now l c.index.ensures ∙ c.loop-numbers-test.ensures)
