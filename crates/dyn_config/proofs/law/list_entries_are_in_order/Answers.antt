use Rattle.std.proofs.Common.{[]}
use Rattle.dyn_config.specs.Readings.{by_number}
use Rattle.dyn_config.proofs.ByNumber.{up_sorted}
use Rattle.dyn_config.proofs.Sorted.{fold_moved, fold_up}
use Rattle.dyn_config.proofs.law.list_entries_are_in_order.Goals as goal

pub returns-clause-all : goal.returns-clause-all
returns-clause-all c = λ entries. fold_moved entries []

pub returns-clause-in_order : goal.returns-clause-in_order
returns-clause-in_order c = λ entries. up_sorted (by_number entries) (fold_up entries [] tt)
