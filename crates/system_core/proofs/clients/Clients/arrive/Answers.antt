use Rattle.std.proofs.Common.{◌≡◌, ◌≤◌, ◌∙◌, ◌++◌, ◌∷◌, [], ℕ, List, ap, sym, subst, refl, length, arith}
use Rattle.conn_machine.specs.declared.conn.Conn.{Conn}
use Rattle.system_core.proofs.Driving.{NoneAbove, none_above_pushed}
use Rattle.system_core.proofs.clients.Clients.arrive.Goals as goal

pub invariant_of-self-2 : goal.invariant_of-self-2
invariant_of-self-2 c =
    let n : ℕ = length c.args.self.now.timeline.earlier.items in
    let conns : List Conn = c.args.self.now.conns.items in
    let are : c.push_reserved.new.self.items ≡ conns ++ c.in_ok-conn.conn ∷ [] = c.push_reserved.ensures.items ∙ ap (λ (xs : List Conn). xs ++ c.in_ok-conn.conn ∷ []) c.reserve.ensures.items in
    let zero_is : c.in_ok-conn.conn.current.number ≡ 0 = c.in_ok-conn.ensures.number in
    let low : c.in_ok-conn.conn.current.number ≤ n = omega arith in
    record { pinned = subst (λ (xs : List Conn). NoneAbove xs n) (sym are) (none_above_pushed conns n c.in_ok-conn.conn low c.args.self.now.pinned) }

pub returns-clause-came : goal.returns-clause-came
returns-clause-came c = record {
  conn = c.in_ok-conn.conn;
  conns_are = c.push_reserved.ensures.items ∙ ap (λ (xs : List Conn). xs ++ c.in_ok-conn.conn ∷ []) c.reserve.ensures.items;
  link_is = c.in_ok-conn.ensures.link;
  prompt = c.in_ok-conn.ensures.prompt;
  drained = c.in_ok-conn.ensures.drained;
  reached = c.in_ok-conn.ensures.reached;
}
