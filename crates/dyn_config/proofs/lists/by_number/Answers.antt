use Rattle.std.proofs.Common.{Result, Ok, Err}
use Rattle.std.specs.Prelude.{IfOk}
use Rattle.dyn_config.proofs.Sorted.{sorted_is}
use Rattle.dyn_config.proofs.lists.by_number.Goals as goal

ok_both : {A E : Type 0} {P Q R : A → Type 0} (r : Result A E) → ((x : A) → P x → Q x → R x) → IfOk r P → IfOk r Q → IfOk r R
ok_both (Ok x) both p q = both x p q
ok_both (Err e) both p q = tt

pub returns : goal.returns
returns c = ok_both c.in_order.result (λ entries all ordered. sorted_is c.args.fields.now entries.items c.in_order.ensures.rising all ordered) c.in_order.ensures.all c.in_order.ensures.ordered
