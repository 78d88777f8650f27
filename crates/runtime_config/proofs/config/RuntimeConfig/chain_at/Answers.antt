use Rattle.std.proofs.Common.{List, Option, sym, ap, ◌∙◌}
use Rattle.std.proofs.lemmas.Bool.{false≢true}
use Rattle.middleware_chain.specs.declared.chain.Chain.{Chain}
use Rattle.runtime_config.specs.Linked.{is_linked, link_at}
use Rattle.runtime_config.proofs.config.RuntimeConfig.chain_at.Goals as goal

pub returns-clause-there : goal.returns-clause-there
returns-clause-there c = sym (c.in-Some.ensures ∙ ap (λ (links : List (Option Chain)). link_at links c.args.row) c.as_slice.ensures)

pub returns-clause-built : goal.returns-clause-built
returns-clause-built c =
    let (found, at, on) = c.requires in
    ap (is_linked c.args.self.now.chains) (c.in-Some.ensures ∙ ap (λ (links : List (Option Chain)). link_at links c.args.row) c.as_slice.ensures)
    ∙ c.args.self.now.linked c.args.row found at on

pub unreachable-requires : goal.unreachable-requires
unreachable-requires c =
    let (found, at, on) = c.requires in
    false≢true
    (ap (is_linked c.args.self.now.chains) (c.in-None.ensures ∙ ap (λ (links : List (Option Chain)). link_at links c.args.row) c.as_slice.ensures)
    ∙ c.args.self.now.linked c.args.row found at on)
