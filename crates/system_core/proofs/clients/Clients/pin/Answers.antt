use Rattle.std.proofs.Common.{◌≡◌, ◌≤◌, ℕ, Some, sym, subst, refl, length, map, ap, ◌∙◌, arith}
use Rattle.std.specs.Arc.{arc_value}
use Rattle.conversation.specs.Plans.{Plan}
use Rattle.conversation.specs.Steps.{pinned}
use Rattle.generation.specs.Meaning.{plan_of}
use Rattle.generation.specs.declared.generation.Generation.{Generation}
use Rattle.conn_machine.specs.declared.conn.Conn.{Conn}
use Rattle.system_core.specs.Issues.{plan_at}
use Rattle.system_core.specs.Drives.{DrivenAt}
use Rattle.system_core.proofs.clients.Clients.pin.Goals as goal

pub drive-requires-clause-told : goal.drive-requires-clause-told
drive-requires-clause-told c =
    let number : (plan_of (arc_value c.in_ok-issue.issue)).number ≡ length c.args.self.now.timeline.earlier.items =
    ap (λ (g : Generation). (plan_of g).number) c.in_ok-issue.ensures ∙ c.args.self.now.timeline.numbered in
    let low : c.requires.0.current.number ≤ length c.args.self.now.timeline.earlier.items = c.args.self.now.pinned c.args.place c.requires.0 c.requires.1 in
    (c.requires.0, c.requires.1, c.requires.2, subst (λ (n : ℕ). c.requires.0.current.number ≤ n) (sym number) low)

pub returns-clause-driven : goal.returns-clause-driven
returns-clause-driven c = (
  plan_at c.args.self.now.timeline.newest,
  (map plan_at c.args.self.now.timeline.earlier.items, refl),
  λ d at.
      subst (λ (g : Generation). DrivenAt c.args.place d (pinned (plan_of g)) c.args.self.now.conns.items c.drive.new.self.conns.items c.args.notes.now.items c.drive.new.notes.items)
      c.in_ok-issue.ensures (c.in_ok-drive.ensures.driven d at),
)
