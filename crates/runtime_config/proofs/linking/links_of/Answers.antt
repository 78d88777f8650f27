use Rattle.std.proofs.Common.{subst, sym}
use Rattle.router_table.specs.declared.row.Row.{Row}
use Rattle.service_nodes.proofs.Making.{zip_more, zip_all}
use Rattle.runtime_config.specs.Linked.{HasUsable, IsLink}
use Rattle.runtime_config.proofs.linking.links_of.Goals as goal

pub link_of-requires : goal.link_of-requires
link_of-requires c =
    let P : Row → Type 0 = λ row. HasUsable c.args.chains.now row in
    subst P (sym c.row-item.is) (c.requires c.loop-row.row-index c.row-item.result c.loop-row-test.true)

pub loop-row-preserved : goal.loop-row-preserved
loop-row-preserved c =
    let P : Row → Type 0 = λ row. IsLink c.args.chains.now row c.in_ok-link.link in
    zip_more (IsLink c.args.chains.now) c.args.rows.now c.loop-row.links c.push.new.self c.loop-row.row-index c.row-item.result c.in_ok-link.link
    c.loop-row-test.true c.in_ok-push.ensures.ok c.loop-row.invariant (subst P c.row-item.is c.in_ok-link.ensures)

pub returns : goal.returns
returns c = zip_all (IsLink c.args.chains.now) c.args.rows.now c.loop-row.links c.loop-row.row-index c.loop-row-test.false c.loop-row.invariant
