use Rattle.std.proofs.Common.{◌↔◌, IsTrue, subst, sym, ap, ◌∙◌}
use Rattle.body_codec.specs.Grammar.{IsBody}
use Rattle.body_codec.specs.Reading.{start, content, may_end}
use Rattle.body_codec.proofs.Continuations.{ends_body}
use Rattle.body_codec.proofs.reading.Body.ends_here.Goals as goal

pub returns-clause-grammar : goal.returns-clause-grammar
returns-clause-grammar c = λ framing seen before.
    subst (λ ends. IsTrue ends ↔ IsBody framing seen (content (start framing) seen)) (sym (c.may_end.ensures ∙ ap may_end c.self.view_is)) (ends_body framing seen c.args.self.now before)
