use Rattle.http_wire.proofs.Spelled.{added}
use Rattle.http_wire.proofs.lines.add_field.Goals as goal

pub returns-in-Ok-clause-spelled : goal.returns-in-Ok-clause-spelled
returns-in-Ok-clause-spelled c =
    (added c.args.text.now.items c.args.spans.now.items c.args.name.now c.args.value.now c.push_field.new.text.items c.push_field.new.spans.items
    c.requires.spelled c.in-Ok.ensures.text c.in-Ok.ensures.spans).0

pub returns-in-Ok-clause-ok : goal.returns-in-Ok-clause-ok
returns-in-Ok-clause-ok c =
    (added c.args.text.now.items c.args.spans.now.items c.args.name.now c.args.value.now c.push_field.new.text.items c.push_field.new.spans.items
    c.requires.spelled c.in-Ok.ensures.text c.in-Ok.ensures.spans).1
