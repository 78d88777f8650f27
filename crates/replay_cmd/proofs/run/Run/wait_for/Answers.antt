use Rattle.std.proofs.Common.{ℕ, sym, subst, length}
use Rattle.generation.specs.declared.generation.Generation.{Generation}
use Rattle.system_core.specs.Views.{plans_of}
use Rattle.replay_cmd.specs.Configs.{IsGenerationOf}
use Rattle.replay_cmd.proofs.Telling.{waits_by}
use Rattle.replay_cmd.proofs.run.Run.wait_for.Goals as goal

pub returns-in_ok-issue-in-Some-clause-told : goal.returns-in_ok-issue-in-Some-clause-told
returns-in_ok-issue-in-Some-clause-told g c =
    let is = rw c.in-Some.is at c.in_ok-generation.ensures.means in
    let from = g.S.PatternShop.refusals c.args.shop.now in
    let to = g.S.PatternShop.refusals c.read_generation.new.shop in
    waits_by from to c.hear.result _ c.args.block.now c.args.self.now.system c.hear.new.self.system
    (subst (λ (x : Generation). IsGenerationOf from to (length (plans_of c.args.self.now.system.clients.timeline)) c.args.block.now x) (sym c.in_ok-issue-in-Some.ensures) (subst (λ (n : ℕ). IsGenerationOf from to n c.args.block.now c.in-Some.generation) c.published.ensures is))
    c.hear.ensures.heard
