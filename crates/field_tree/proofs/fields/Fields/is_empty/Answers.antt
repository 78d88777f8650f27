use Rattle.std.proofs.Common.{◌==◌, length, refl}
use Rattle.field_tree.proofs.Tables.{none_when}
use Rattle.field_tree.proofs.fields.Fields.is_empty.Goals as goal

pub returns : goal.returns
returns g c = rw c.len.ensures.len (none_when c.args.self.now (length c.args.self.now == 0) refl)
