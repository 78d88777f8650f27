use Rattle.std.proofs.Common.{All, map, ap, sym, ◌∙◌, subst}
use Rattle.std.proofs.lemmas.Result.{IfOk-weaker}
use Rattle.std.proofs.lemmas.List.Sorted.{All-permutation}
use Rattle.router_table.specs.Orders.{AreWithin, AreAll, AreInOrder, Rank, IsRank}
use Rattle.router_table.proofs.Ordered.{numbers_within, numbers_all, numbers_in_order}
use Rattle.router_table.proofs.order.order_of.Goals as goal

pub returns-clause-within : goal.returns-clause-within
returns-clause-within c =
    let rows = c.args.rows.now in
    let are : All (IsRank rows) c.sort.new.self.items = All-permutation (IsRank rows) c.in_ok-ranks.ranks.items c.sort.new.self.items c.in_ok-sort.ensures.permutation c.in_ok-ranks.ensures.are in
    IfOk-weaker c.numbers_of.result _ _ (λ order e. subst (AreWithin rows) (sym (e ∙ ap (map (λ (rank : Rank). rank.1)) c.as_slice.ensures.value)) (numbers_within rows c.sort.new.self.items are)) c.numbers_of.ensures

pub returns-clause-all : goal.returns-clause-all
returns-clause-all c =
    let rows = c.args.rows.now in
    IfOk-weaker c.numbers_of.result _ _ (λ order e. subst (AreAll rows) (sym (e ∙ ap (map (λ (rank : Rank). rank.1)) c.as_slice.ensures.value))
    (numbers_all rows c.in_ok-ranks.ranks.items c.sort.new.self.items c.in_ok-ranks.ensures.all c.in_ok-sort.ensures.permutation)) c.numbers_of.ensures

pub returns-clause-in_order : goal.returns-clause-in_order
returns-clause-in_order c =
    let rows = c.args.rows.now in
    let are : All (IsRank rows) c.sort.new.self.items = All-permutation (IsRank rows) c.in_ok-ranks.ranks.items c.sort.new.self.items c.in_ok-sort.ensures.permutation c.in_ok-ranks.ensures.are in
    IfOk-weaker c.numbers_of.result _ _ (λ order e. subst (AreInOrder rows) (sym (e ∙ ap (map (λ (rank : Rank). rank.1)) c.as_slice.ensures.value))
    (numbers_in_order rows c.sort.new.self.items are c.in_ok-sort.ensures.sorted c.requires.named)) c.numbers_of.ensures
