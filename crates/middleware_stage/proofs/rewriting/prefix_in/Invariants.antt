use Rattle.std.proofs.Common.{◌≡◌, drop, nat_eq}
use Rattle.std.specs.List.{find, starts_with}
use Rattle.middleware_stage.proofs.rewriting.prefix_in.Given as goal

-- the first of all is the first of what is left
abbrev pub invariant-loop-prefix : goal.invariant-loop-prefix
invariant-loop-prefix l =
    find (λ prefix. starts_with nat_eq l.path prefix) l.prefix-items ≡ find (λ prefix. starts_with nat_eq l.path prefix) (drop l.prefix-index l.prefix-items)
