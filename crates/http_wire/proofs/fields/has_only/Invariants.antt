use Rattle.std.proofs.Common.{◌≡◌}
use Rattle.std.specs.List.{list_all}
use Rattle.head_view.proofs.Values.{values_from}
use Rattle.http_wire.specs.Fields.{is_same}
use Rattle.http_wire.proofs.fields.has_only.Given as goal

-- what is left decides
abbrev pub invariant-loop-line : goal.invariant-loop-line
invariant-loop-line l = list_all (λ v. is_same v l.value) (values_from l.buf l.name l.lines 0) ≡ list_all (λ v. is_same v l.value) (values_from l.buf l.name l.lines l.line-index)
