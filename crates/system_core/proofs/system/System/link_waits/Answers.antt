use Rattle.std.proofs.Common.{◌≡◌, refl, sym, subst, ap, ◌∙◌}
use Rattle.conn_machine.specs.declared.conn.Conn.{Conn}
use Rattle.conn_machine.specs.declared.event.EventKind.{EventKind}
use Rattle.conn_machine.specs.Events.{state_of}
use Rattle.system_core.specs.Answers.{MayHappen}
use Rattle.system_core.specs.declared.event.Kind.TheVariants as kinds
use Rattle.system_core.proofs.Places.{indexed, not_true}
use Rattle.system_core.proofs.system.System.link_waits.Goals as goal

pub returns-then-not-may_happen : goal.returns-then-not-may_happen
returns-then-not-may_happen c =
    let same : c.index-conn.result.now ≡ c.in-Some.ensures.0 =
    indexed c.args.self.now.clients.conns.items c.in-Some.place c.in-Some.ensures.0 c.index-conn.result.now c.in-Some.ensures.1.is_conn c.index-conn.ensures in (
      c.in-Some.place,
      c.in-Some.ensures.0,
      c.in-Some.ensures.1,
      (λ (may : MayHappen c.args.link c.args.shape c.in-Some.ensures.0). not_true (c.if-not-may_happen.ensures.1 (subst (λ (x : Conn). MayHappen c.args.link c.args.shape x) (sym same) may))),
      ap (λ (k : EventKind). kinds.Conn k) c.kind.ensures,
      c.state.ensures ∙ ap state_of same,
      refl,
    )

pub returns : goal.returns
returns c =
    let same : c.index-conn.result.now ≡ c.in-Some.ensures.0 =
    indexed c.args.self.now.clients.conns.items c.in-Some.place c.in-Some.ensures.0 c.index-conn.result.now c.in-Some.ensures.1.is_conn c.index-conn.ensures in
    (c.in-Some.ensures.0, c.in-Some.ensures.1, subst (λ (x : Conn). MayHappen c.args.link c.args.shape x) same (c.if-not-may_happen.ensures.0 refl))
