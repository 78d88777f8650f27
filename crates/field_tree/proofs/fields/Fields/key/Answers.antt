use Rattle.std.proofs.Common.{◌≡◌, ◌<◌, length, get_or, sym, ap, ◌∙◌, arith}
use Rattle.field_tree.proofs.Tables.{IsKeptAs, keys_are, keys_length_is, read_at}
use Rattle.field_tree.proofs.fields.Fields.key.Goals as goal

pub bounds-as_slice-at : goal.bounds-as_slice-at
bounds-as_slice-at g c =
    let kept : IsKeptAs c.self.inside.keys c.self.inside.values.items c.args.self.now = record { is = c.self.view_is; level = c.self.invariant.0; rising = c.self.invariant.1 } in
    rw c.as_slice.ensures (omega (arith, c.requires, keys_length_is c.self.inside.keys c.self.inside.values.items c.args.self.now kept))

pub offset_bounds-as_slice-at : goal.offset_bounds-as_slice-at
offset_bounds-as_slice-at g c =
    let within : c.args.at < length c.as_slice.result.now = bounds-as_slice-at g c in
    omega (arith, within, c.as_slice.type_inv.1)

pub returns : goal.returns
returns g c =
    let kept : IsKeptAs c.self.inside.keys c.self.inside.values.items c.args.self.now = record { is = c.self.view_is; level = c.self.invariant.0; rising = c.self.invariant.1 } in
    let within : c.args.at < length c.self.inside.keys = omega (arith, c.requires, keys_length_is c.self.inside.keys c.self.inside.values.items c.args.self.now kept) in
    let read : c.as_slice-2.result.now ≡ get_or c.self.inside.keys c.args.at c.as_slice-2.result.now =
    let item : c.index-as_slice-at.result ≡ get_or c.self.inside.keys c.args.at c.index-as_slice-at.result =
    c.index-as_slice-at.is ∙ ap (λ ks. get_or ks c.args.at c.index-as_slice-at.result) c.as_slice.ensures in
    c.as_slice-2.ensures ∙ item ∙ ap (λ k. get_or c.self.inside.keys c.args.at k) (sym c.as_slice-2.ensures) in
    rw (keys_are c.self.inside.keys c.self.inside.values.items c.args.self.now kept) (read_at c.self.inside.keys c.args.at c.as_slice-2.result.now within read)
