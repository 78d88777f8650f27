use Rattle.std.proofs.Common.{length, ap, sym, ◌∙◌, arith}
use Rattle.std.proofs.lemmas.Bool.{false≢true}
use Rattle.rule_eval.specs.Truth.{asked_of}
use Rattle.router_table.proofs.Won.{first_wins, none_wins, one_more_asked, next_row}
use Rattle.router_table.proofs.winning.winner.Goals as goal

pub returns-then-branch-clause-winner : goal.returns-then-branch-clause-winner
returns-then-branch-clause-winner c =
    let t = c.args.table.now in
    let i = c.loop-number.number-index in
    let next = next_row t.rows c.as_slice-rows.result.now t.order c.as_slice-number-items.result.now i c.index-rows-number.result c.as_slice-rows.ensures c.as_slice-number-items.ensures t.within c.loop-number-test.true c.index-rows-number.is in
    first_wins t.rows t.order c.args.entry.now (asked_of c.args.view.now) c.args.peer i _ c.index-rows-number.result t.all t.in_order c.loop-number.invariant next.0 next.1
    (c.in_ok-serves.ensures.truth.0 c.if-branch.true)

pub loop-number-preserved : goal.loop-number-preserved
loop-number-preserved c =
    let t = c.args.table.now in
    let i = c.loop-number.number-index in
    let next = next_row t.rows c.as_slice-rows.result.now t.order c.as_slice-number-items.result.now i c.index-rows-number.result c.as_slice-rows.ensures c.as_slice-number-items.ensures t.within c.loop-number-test.true c.index-rows-number.is in
    one_more_asked t.rows t.order c.args.entry.now (asked_of c.args.view.now) c.args.peer i _ c.index-rows-number.result c.loop-number.invariant next.0 next.1 (λ serves. false≢true (sym c.if-branch.false ∙ c.in_ok-serves.ensures.truth.1 serves))

pub returns-clause-winner : goal.returns-clause-winner
returns-clause-winner c =
    let t = c.args.table.now in
    none_wins t.rows t.order c.args.entry.now (asked_of c.args.view.now) c.args.peer c.loop-number.number-index (omega (arith, ap length c.as_slice-number-items.ensures, c.loop-number-test.false)) t.all c.loop-number.invariant
