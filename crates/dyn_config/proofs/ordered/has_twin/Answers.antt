use Rattle.std.proofs.Common.{rules, ◌≡◌, Bool, true, false, nat_lt, sym, ap, ◌∙◌, arith}
use Rattle.std.specs.List.Sorted.{IsPartitionPoint}
use Rattle.std.proofs.lemmas.Bool.Decides.{nat_tests}
use Rattle.std.proofs.lemmas.List.Sorted.{IsPartitionPoint-from_clause}
use Rattle.dyn_config.specs.Walk.{is_less}
use Rattle.dyn_config.specs.Shapes.{order_of, sameness_of}
use Rattle.dyn_config.specs.declared.ordered.EntryRef.{EntryRef}
use Rattle.dyn_config.proofs.Twins.{parted, none_before, last_before}
use Rattle.dyn_config.proofs.ordered.has_twin.Goals as goal

pub returns-then-at-gt0 : goal.returns-then-at-gt0
returns-then-at-gt0 c =
    let order = c.args.order in
    let xs = c.args.entries.now in
    let key = c.args.key.now in
    let before : EntryRef → Bool = λ (y : EntryRef). is_less (order_of order y.key.now key) in
    let part : IsPartitionPoint (λ y. before y ≡ true) (λ y. before y ≡ false) xs c.partition_point-at.result =
    IsPartitionPoint-from_clause before xs c.partition_point-at.result c.partition_point-at.ensures.partitioned (parted order xs key c.requires) (λ a r q k. search rules) in
    c.are_one.ensures ∙ ap (λ (y : EntryRef). sameness_of order y.key.now key) (sym c.index-entries-at.is)
    ∙ last_before order xs key c.requires c.partition_point-at.result part c.index-entries-at.result c.if-at-gt0.true c.partition_point-at.ensures.bound c.index-entries-at.is

pub returns-else-at-gt0 : goal.returns-else-at-gt0
returns-else-at-gt0 c =
    let order = c.args.order in
    let xs = c.args.entries.now in
    let key = c.args.key.now in
    let before : EntryRef → Bool = λ (y : EntryRef). is_less (order_of order y.key.now key) in
    let part : IsPartitionPoint (λ y. before y ≡ true) (λ y. before y ≡ false) xs c.partition_point-at.result =
    IsPartitionPoint-from_clause before xs c.partition_point-at.result c.partition_point-at.ensures.partitioned (parted order xs key c.requires) (λ a r q k. search rules) in
    let none : nat_lt 0 c.partition_point-at.result ≡ false = grind (arith, nat_tests) in
    none ∙ none_before order xs key c.requires c.partition_point-at.result part (omega (arith, c.if-at-gt0.false))
