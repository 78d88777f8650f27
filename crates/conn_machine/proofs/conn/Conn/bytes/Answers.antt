use Rattle.std.proofs.Common.{rules, ap, sym, ◌∙◌, ◌≡◌, ◌≢◌}
use Rattle.conn_machine.proofs.Prompts.{prompt_else, keeps_away, away_shut}
use Rattle.conn_machine.specs.declared.parts.Current.{Current}
use Rattle.conn_machine.specs.declared.parts.Stage.TheVariants.{Head}
use Rattle.conn_machine.specs.declared.parts.Phase.TheVariants.{Open, Broken}
use Rattle.conn_machine.proofs.conn.Conn.bytes.Goals as goal

pub returns-in_err-feed-clause-server : goal.returns-in_err-feed-clause-server
returns-in_err-feed-clause-server c = keeps_away (away_shut (λ e. let f : Broken ≡ Open = sym c.in_err-feed.ensures.broken ∙ e in cc))

pub returns-then-not-matches-clause-prompt : goal.returns-then-not-matches-clause-prompt
returns-then-not-matches-clause-prompt c = λ h.
    let other : c.feed.new.self.stage ≢ Head = search rules in
    prompt_else (c.in_ok-feed.ensures.open ∙ sym c.requires) c.feed.ensures.stage other (ap (λ (m : Current). m.back) c.feed.ensures.current) c.feed.ensures.pending h
