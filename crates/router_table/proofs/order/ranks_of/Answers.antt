use Rattle.std.proofs.Common.{◌≡◌, ◌++◌, ◌∷◌, [], sym, subst, refl, List, All, rules}
use Rattle.std.proofs.lemmas.List.Elements.{All-push}
use Rattle.std.proofs.lemmas.Option.{slice_get_read}
use Rattle.router_table.specs.Orders.{Rank, IsRank}
use Rattle.router_table.proofs.Ordered.{ranks_more, ranks_skip}
use Rattle.router_table.proofs.order.ranks_of.Goals as goal
use Rattle.router_table.proofs.order.ranks_of.Goals.{then-is_enabled+in_ok-push, else-is_enabled}

pub loop-number-preserved : goal.loop-number-preserved
loop-number-preserved c =
    elim c.if-is_enabled.branch [
      | then-is_enabled+in_ok-push w ↦
          let rows = c.args.rows.now in
          let at = slice_get_read rows _ c.loop-number.number c.index-rows-number.result refl c.loop-number-test.true c.index-rows-number.is in
          let rank : Rank = (record { 0 = c.index-rows-number.result.priority }, c.loop-number.number) in
          let grown : c.if-is_enabled.ranks.items ≡ c.loop-number.ranks.items ++ rank ∷ [] = search rules in
          let P : List Rank → Type 0 = λ ranks. All (IsRank rows) ranks in
          record {
            are = subst P (sym grown) (All-push (IsRank rows) c.loop-number.ranks.items rank c.loop-number.invariant.are (c.index-rows-number.result, at, refl));
            all = ranks_more rows c.loop-number.number c.index-rows-number.result rank c.loop-number.ranks.items c.if-is_enabled.ranks.items c.loop-number.invariant.all at refl grown;
          }
      | else-is_enabled w ↦
          let rows = c.args.rows.now in
          let at = slice_get_read rows _ c.loop-number.number c.index-rows-number.result refl c.loop-number-test.true c.index-rows-number.is in
          rw w.ranks-is (record {
            are = c.loop-number.invariant.are;
            all = ranks_skip rows c.loop-number.number c.index-rows-number.result c.loop-number.ranks.items c.loop-number.invariant.all at (sym w.if-is_enabled.ensures);
          })
    ]
