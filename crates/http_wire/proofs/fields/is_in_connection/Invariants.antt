use Rattle.std.proofs.Common.{◌≡◌, codes}
use Rattle.std.specs.List.{list_any}
use Rattle.head_view.proofs.Values.{values_from}
use Rattle.http_wire.specs.Fields.{lists}
use Rattle.http_wire.proofs.fields.is_in_connection.Given as goal

-- what is left decides
abbrev pub invariant-loop-line : goal.invariant-loop-line
invariant-loop-line l = list_any (lists l.name) (values_from l.buf (codes "Connection") l.lines 0) ≡ list_any (lists l.name) (values_from l.buf (codes "Connection") l.lines l.line-index)
