use Rattle.std.proofs.Common.{rules, ap, sym, ◌∙◌, ◌≢◌}
use Rattle.conn_machine.proofs.Prompts.{prompt_else}
use Rattle.conn_machine.specs.declared.parts.Current.{Current}
use Rattle.conn_machine.specs.declared.parts.Stage.TheVariants.{Head}
use Rattle.conn_machine.proofs.conn.Conn.end.Goals as goal

pub returns-then-not-matches-clause-prompt : goal.returns-then-not-matches-clause-prompt
returns-then-not-matches-clause-prompt c = λ h.
    let other : c.close.new.self.stage ≢ Head = search rules in
    prompt_else (c.close.ensures.open ∙ sym c.requires) c.close.ensures.stage other (ap (λ (m : Current). m.back) c.close.ensures.current) c.close.ensures.pending h
