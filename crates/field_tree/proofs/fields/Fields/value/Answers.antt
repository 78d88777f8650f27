use Rattle.std.proofs.Common.{◌<◌, length, arith}
use Rattle.field_tree.proofs.Tables.{IsKeptAs, values_are, length_is, read_at}
use Rattle.field_tree.proofs.fields.Fields.value.Goals as goal

pub index-requires : goal.index-requires
index-requires g c =
    let kept : IsKeptAs c.self.inside.keys c.self.inside.values.items c.args.self.now = record { is = c.self.view_is; level = c.self.invariant.0; rising = c.self.invariant.1 } in
    let same = length_is c.self.inside.keys c.self.inside.values.items c.args.self.now kept in
    omega (arith, same, c.requires, c.self.inside.values.ok.0)

pub returns : goal.returns
returns g c =
    let kept : IsKeptAs c.self.inside.keys c.self.inside.values.items c.args.self.now = record { is = c.self.view_is; level = c.self.invariant.0; rising = c.self.invariant.1 } in
    let within : c.args.at < length c.self.inside.values.items = omega (arith, c.requires, length_is c.self.inside.keys c.self.inside.values.items c.args.self.now kept) in
    rw (values_are c.self.inside.keys c.self.inside.values.items c.args.self.now kept) (read_at c.self.inside.values.items c.args.at c.index.result.now within c.index.ensures)
