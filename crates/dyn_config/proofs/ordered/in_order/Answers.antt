use Rattle.std.proofs.Common.{rules, ◌≡◌, map, IsPermutation, subst}
use Rattle.std.specs.Ordering.{is_lt}
use Rattle.std.proofs.lemmas.List.Sorted.{ranks_by, IsPermutation-map}
use Rattle.std.proofs.lemmas.Fn.{always_returns_same}
use Rattle.dyn_config.specs.Shapes.{order_of}
use Rattle.dyn_config.specs.Ordered.{entry_view}
use Rattle.dyn_config.specs.declared.ordered.EntryRef.{EntryRef}
use Rattle.dyn_config.proofs.Twins.{order_total}
use Rattle.dyn_config.proofs.ordered.in_order.Goals as goal

pub returns-clause-all : goal.returns-clause-all
returns-clause-all c =
    subst (λ l. IsPermutation l (map entry_view c.sort_by.new.self.items)) c.in_ok-entries.ensures.entries
    (IsPermutation-map entry_view c.in_ok-entries.entries.items c.sort_by.new.self.items c.in_ok-sort_by.ensures.permutation)

pub returns-clause-ordered : goal.returns-clause-ordered
returns-clause-ordered c =
    c.in_ok-sort_by.ensures.sorted (λ (x y : EntryRef). is_lt (order_of c.args.order x.key.now y.key.now))
    (ranks_by (order_total c.args.order) (λ (e : EntryRef). e.key.now)) (always_returns_same _ (λ a r. is_lt r ≡ is_lt (order_of c.args.order a.0.now.key.now a.1.0.now.key.now)) _ (λ a r q k. search rules))
