use Rattle.std.proofs.Common.{◌≡◌, ◌<◌, ◌≤◌, length, true, false, get_or, sym, ap, ◌∙◌}
use Rattle.std.specs.Str.{bytes_eq}
use Rattle.std.specs.List.{slice_get}
use Rattle.field_tree.proofs.Tables.{IsKeptAs, rises, found, passed, ended}
use Rattle.field_tree.proofs.fields.Fields.get.Goals as goal

pub returns-then-is_same-clause-value : goal.returns-then-is_same-clause-value
returns-then-is_same-clause-value g c =
    let kept : IsKeptAs c.self.inside.keys c.self.inside.values.items c.args.self.now = record { is = c.self.view_is; level = c.self.invariant.0; rising = c.self.invariant.1 } in
    let within : c.loop-i.i < length c.self.inside.keys = rw c.as_slice-name-items.ensures at c.loop-i-test.true in
    let name : c.as_slice.result.now ≡ get_or c.self.inside.keys c.loop-i.i c.name-item.result =
    c.as_slice.ensures ∙ c.name-item.is ∙ ap (λ ks. get_or ks c.loop-i.i c.name-item.result) c.as_slice-name-items.ensures in
    let same : bytes_eq c.args.key.now (get_or c.self.inside.keys c.loop-i.i c.name-item.result) ≡ true =
    ap (λ n. bytes_eq c.args.key.now n) (sym name) ∙ sym c.is_same.ensures ∙ c.if-is_same.true in
    let here = found c.self.inside.keys c.self.inside.values.items c.args.self.now kept c.loop-i.i c.args.key.now c.name-item.result within same c.loop-i.invariant in
    c.at.ensures ∙ ap (λ vs. slice_get vs c.loop-i.i) c.deref.ensures.value ∙ here

pub returns-then-is_same-clause-rising : goal.returns-then-is_same-clause-rising
returns-then-is_same-clause-rising g c =
    let kept : IsKeptAs c.self.inside.keys c.self.inside.values.items c.args.self.now = record { is = c.self.view_is; level = c.self.invariant.0; rising = c.self.invariant.1 } in
    rises c.self.inside.keys c.self.inside.values.items c.args.self.now kept

pub loop-i-preserved : goal.loop-i-preserved
loop-i-preserved g c =
    let kept : IsKeptAs c.self.inside.keys c.self.inside.values.items c.args.self.now = record { is = c.self.view_is; level = c.self.invariant.0; rising = c.self.invariant.1 } in
    let within : c.loop-i.i < length c.self.inside.keys = rw c.as_slice-name-items.ensures at c.loop-i-test.true in
    let name : c.as_slice.result.now ≡ get_or c.self.inside.keys c.loop-i.i c.name-item.result =
    c.as_slice.ensures ∙ c.name-item.is ∙ ap (λ ks. get_or ks c.loop-i.i c.name-item.result) c.as_slice-name-items.ensures in
    let other : bytes_eq c.args.key.now (get_or c.self.inside.keys c.loop-i.i c.name-item.result) ≡ false =
    ap (λ n. bytes_eq c.args.key.now n) (sym name) ∙ sym c.is_same.ensures ∙ c.if-is_same.false in
    passed c.self.inside.keys c.self.inside.values.items c.args.self.now kept c.loop-i.i c.args.key.now c.name-item.result within other c.loop-i.invariant

pub returns-clause-value : goal.returns-clause-value
returns-clause-value g c =
    let kept : IsKeptAs c.self.inside.keys c.self.inside.values.items c.args.self.now = record { is = c.self.view_is; level = c.self.invariant.0; rising = c.self.invariant.1 } in
    let past : length c.self.inside.keys ≤ c.loop-i.i = rw c.as_slice-name-items.ensures at c.loop-i-test.false in
    ended c.self.inside.keys c.self.inside.values.items c.args.self.now kept c.loop-i.i c.args.key.now past c.loop-i.invariant

pub returns-clause-rising : goal.returns-clause-rising
returns-clause-rising g c =
    let kept : IsKeptAs c.self.inside.keys c.self.inside.values.items c.args.self.now = record { is = c.self.view_is; level = c.self.invariant.0; rising = c.self.invariant.1 } in
    rises c.self.inside.keys c.self.inside.values.items c.args.self.now kept
