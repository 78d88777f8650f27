use Rattle.http_wire.specs.Fields.{trimmed}
use Rattle.http_wire.proofs.Codings.{elements_none, elements_cut, shorter}
use Rattle.http_wire.proofs.fields.after_comma.Goals as goal

pub returns-in-Some : goal.returns-in-Some
returns-in-Some c =
    let text = c.args.text.now in
    let first = c.in-Some.field-0-0.now in
    let rest = c.in-Some.rest.now in
    let cut = c.in-Some.ensures in
    (trimmed first, elements_cut text first rest cut.0 cut.1, shorter text first rest cut.0)

pub returns-in-None : goal.returns-in-None
returns-in-None c = elements_none c.args.text.now c.in-None.ensures
