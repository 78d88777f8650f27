use Rattle.std.proofs.Common.{◌≡◌, arith, subst, length, List, Option, ℕ, true}
use Rattle.reference_graph.specs.Links.{is_among}
use Rattle.reference_graph.specs.Search.{IsMarked, IsUnderWay}
use Rattle.reference_graph.proofs.SearchLemmas.{popped_in, under_way_more, all_seen_at_end}
use Rattle.reference_graph.proofs.reaching.seen_from.Goals as goal

pub places_at-requires : goal.places_at-requires
places_at-requires c = c.loop-at.invariant.inside c.in-Some.at (popped_in c.loop-at.todo.items c.pop.new.self.items c.in-Some.at c.in-Some.ensures.items)

pub mark_all-requires : goal.mark_all-requires
mark_all-requires c = λ to h.
    let P : List (Option ℕ) → Type 0 = λ ps. is_among to ps ≡ true in
    let l = c.requires.within c.in-Some.at to (subst P c.places_at.ensures h) in
    let e = c.loop-at.invariant.long in
    omega (arith, l, e)

pub loop-at-preserved : goal.loop-at-preserved
loop-at-preserved c =
    let P : List (Option ℕ) → Type 0 = λ ps. IsMarked ps c.loop-at.seen.items c.pop.new.self.items c.mark_all.new.seen.items c.mark_all.new.todo.items in
    let Q : List ℕ → Type 0 = λ todo. IsUnderWay c.args.links.now c.args.from c.loop-at.seen.items todo in
    under_way_more c.args.links.now c.args.from c.in-Some.at c.loop-at.seen.items c.mark_all.new.seen.items c.pop.new.self.items c.mark_all.new.todo.items c.requires.within
    (subst Q c.in-Some.ensures.items c.loop-at.invariant) (subst P c.places_at.ensures c.in_ok-mark_all.ensures)

pub returns-clause-all : goal.returns-clause-all
returns-clause-all c =
    let e : length c.loop-at.todo.items ≡ 0 = omega (arith, c.in_default.ensures.cases) in
    all_seen_at_end c.args.links.now c.args.from c.loop-at.seen.items c.loop-at.todo.items e c.loop-at.invariant
