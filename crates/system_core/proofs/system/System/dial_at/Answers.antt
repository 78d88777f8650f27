use Rattle.std.proofs.Common.{refl, ap, sym, ◌∙◌, ◌++◌, ◌∷◌, [], List, ℕ, ◌≡◌, Some, Option, subst, length, arith}
use Rattle.link_world.specs.Log.{dialled}
use Rattle.conversation.specs.Steps.{Step, happened}
use Rattle.conn_machine.specs.Events.{dial_step}
use Rattle.conn_machine.specs.declared.conn.Conn.{Conn}
use Rattle.conn_machine.specs.declared.parts.Aim.{Aim}
use Rattle.system_core.specs.Drives.{DrivenAt}
use Rattle.system_core.specs.declared.links.Link.{Link}
use Rattle.system_core.proofs.Choosing.{dials_at}
use Rattle.system_core.proofs.Places.{indexed}
use Rattle.system_core.proofs.system.System.dial_at.Goals as goal

pub returns : goal.returns
returns c =
    let k : Link = record { owner = c.args.owner; to = Some c.in_ok-to.to; sent = c.new.result } in
    let same : c.index.result.now ≡ c.requires.0 = indexed c.args.self.now.clients.conns.items c.args.owner c.requires.0 c.index.result.now c.requires.1 c.index.ensures in
    let aim_is : c.requires.0.current.aim ≡ Some c.in-Some.aim.now = ap (λ (y : Conn). y.current.aim) (sym same) ∙ sym c.in-Some.ensures.aim in
    let step_is : dial_step c.in_ok-link.link c.requires.0.current.aim ≡ happened c.in_ok-link.link (dialled c.in_ok-to.to.host c.in_ok-to.to.port) =
    ap (dial_step c.in_ok-link.link) aim_is ∙ ap (λ (h : List ℕ). happened c.in_ok-link.link (dialled h c.in-Some.aim.now.server.port)) (sym c.in_ok-to.ensures.host)
    ∙ ap (λ (p : ℕ). happened c.in_ok-link.link (dialled c.in_ok-to.to.host p)) (sym c.in_ok-to.ensures.port) in
    dials_at c.args.self.now _ c.args.owner c.in_ok-link.link c.requires.0 (record { owner = c.args.owner; to = Some c.in_ok-to.to; sent = c.new.result }) c.in_ok-to.to c.requires.1
    (record { timeline = c.drive.ensures.timeline; stopped = refl }) c.in_ok-link.ensures
    (c.push_reserved.ensures.items ∙ ap (λ (xs : List Link). xs ++ k ∷ []) c.reserve.ensures.items) refl refl c.new.ensures.items refl
    (subst (λ (s : Step). DrivenAt c.args.owner c.requires.0 s c.args.self.now.clients.conns.items c.drive.new.self.conns.items c.args.self.now.notes.items c.drive.new.notes.items) step_is
    (c.in_ok-drive.ensures.driven c.requires.0 c.requires.1))
