use Rattle.std.proofs.Common.{refl, sym, ◌∙◌, ◌≡◌, ◌++◌, ◌∷◌, []}
use Rattle.conversation.specs.Plans.{Plan}
use Rattle.conn_machine.specs.Parts.{issue_plan}
use Rattle.system_core.specs.Views.{plans_of}
use Rattle.system_core.proofs.Coming.{shows_published, waiting_some}
use Rattle.system_core.proofs.system.System.publish.Goals as goal

pub returns-clause-ran : goal.returns-clause-ran
returns-clause-ran c = λ r shown.
    let w = waiting_some (issue_plan c.args.self.now.clients.timeline.waiting) (λ (p : Plan). plans_of c.publish.new.self.timeline ≡ plans_of c.args.self.now.clients.timeline ++ p ∷ [])
    (c.if-not-is_waiting.ensures.0 refl) c.in_ok-publish.ensures.plans in
    (_, (w.0, sym shown.waiting ∙ w.1, refl), shows_published r c.args.self.now _ w.0 w.2 c.in_ok-publish.ensures.waiting c.publish.ensures.conns refl refl refl refl shown)
