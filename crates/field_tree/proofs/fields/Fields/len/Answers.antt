use Rattle.std.proofs.Common.{arith}
use Rattle.field_tree.proofs.Tables.{IsKeptAs, length_is, rises}
use Rattle.field_tree.proofs.fields.Fields.len.Goals as goal

pub returns-clause-len : goal.returns-clause-len
returns-clause-len g c =
    let kept : IsKeptAs c.self.inside.keys c.self.inside.values.items c.args.self.now = record { is = c.self.view_is; level = c.self.invariant.0; rising = c.self.invariant.1 } in
    let same = length_is c.self.inside.keys c.self.inside.values.items c.args.self.now kept in omega (arith, same, c.len.ensures)

pub returns-clause-rising : goal.returns-clause-rising
returns-clause-rising g c =
    let kept : IsKeptAs c.self.inside.keys c.self.inside.values.items c.args.self.now = record { is = c.self.view_is; level = c.self.invariant.0; rising = c.self.invariant.1 } in
    rises c.self.inside.keys c.self.inside.values.items c.args.self.now kept
