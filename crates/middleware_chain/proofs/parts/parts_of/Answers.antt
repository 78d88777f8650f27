use Rattle.std.proofs.Common.{◌≤◌, arith, subst, sym}
use Rattle.middleware_chain.specs.Names.{MiddlewareEntry}
use Rattle.middleware_chain.proofs.Parted.{part_next, parts_done, provider_at, refused_more}
use Rattle.middleware_chain.proofs.parts.parts_of.Goals as goal

pub part_of-requires : goal.part_of-requires
part_of-requires g c =
    let P : MiddlewareEntry → Type 0 = λ e. e.provider ≤ 1 in
    subst P (sym c.entry-item.is) (provider_at c.args.entries.now c.requires c.loop-entry.entry-index c.entry-item.result c.loop-entry-test.true)

pub loop-entry-preserved : goal.loop-entry-preserved
loop-entry-preserved g c = record {
  fewer = omega (arith, c.in_ok-part.ensures.fewer, c.loop-entry.invariant.fewer);
  parts = part_next c.args.entries.now c.args.left.now c.loop-entry.left c.part_of.new.left c.loop-entry.entry-index c.entry-item.result c.loop-entry.parts c.push.new.self c.in_ok-part.part
      c.loop-entry-test.true c.entry-item.is c.in_ok-part.ensures.part c.in_ok-part.ensures.left c.in_ok-push.ensures.ok c.loop-entry.invariant.parts;
  refused = refused_more (g.S.PatternShop.refusals c.args.shop.now) c.loop-entry.parts c.push.new.self c.in_ok-part.part (g.S.PatternShop.refusals c.loop-entry.shop) (g.S.PatternShop.refusals c.part_of.new.shop)
      c.loop-entry.invariant.refused c.in_ok-part.ensures.later c.in_ok-part.ensures.refused c.in_ok-push.ensures.ok;
  later = omega (arith, c.loop-entry.invariant.later, c.in_ok-part.ensures.later);
}

pub returns-clause-parts : goal.returns-clause-parts
returns-clause-parts g c =
    parts_done c.args.entries.now c.args.left.now c.loop-entry.left c.loop-entry.entry-index c.loop-entry.parts c.loop-entry-test.false c.loop-entry.invariant.parts
