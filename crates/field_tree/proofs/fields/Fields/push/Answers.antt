use Rattle.field_tree.proofs.Tables.{IsKeptAs, kept_push}
use Rattle.field_tree.proofs.fields.Fields.push.Goals as goal

pub invariant_of-self-in-Ok : goal.invariant_of-self-in-Ok
invariant_of-self-in-Ok g c =
    let kept : IsKeptAs c.self.inside.keys c.self.inside.values.items c.args.self.now = record { is = c.self.view_is; level = c.self.invariant.0; rising = c.self.invariant.1 } in
    let grown = kept_push c.self.inside.keys c.self.inside.values.items c.args.self.now c.args.key c.args.value kept c.requires in
    rw (c.in_ok-push.ensures.items, c.in-Ok.ensures.ok) (grown.level, grown.rising)

pub returns-in-Ok-clause-ok : goal.returns-in-Ok-clause-ok
returns-in-Ok-clause-ok g c =
    let kept : IsKeptAs c.self.inside.keys c.self.inside.values.items c.args.self.now = record { is = c.self.view_is; level = c.self.invariant.0; rising = c.self.invariant.1 } in
    let grown = kept_push c.self.inside.keys c.self.inside.values.items c.args.self.now c.args.key c.args.value kept c.requires in
    rw (c.in_ok-push.ensures.items, c.in-Ok.ensures.ok) grown.is
