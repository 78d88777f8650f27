use Rattle.std.proofs.Common.{List, ℕ, [], ◌∷◌, ◌∙◌, ap, codes, sym}
use Rattle.head_view.specs.Lines.{lines_at, values_of}
use Rattle.http_wire.proofs.Options.{only_one}
use Rattle.http_wire.proofs.fields.only_option.Goals as goal

pub returns-in-None : goal.returns-in-None
returns-in-None c =
    only_one (values_of (codes "Connection") (lines_at c.args.buf.now c.args.lines.now)) c.in-Some.value.now c.trim.result.now c.in-Some.ensures
    (c.in-None.ensures ∙ ap (λ (e : List ℕ). e ∷ []) (sym c.trim.ensures))
