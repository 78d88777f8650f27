use Rattle.std.proofs.Common.{inl, inr, ℕ, List, ◌≡◌, ◌≤◌, length, arith, false, rules, subst}
use Rattle.conn_service.proofs.Lists.{not_false}
use Rattle.conn_service.proofs.client.room_for.Goals as goal

pub returns-then-not-is_open-clause-none : goal.returns-then-not-is_open-clause-none
returns-then-not-is_open-clause-none c = λ l h open_. let no_ : c.is_open.result ≡ false = search rules in absurd (not_false (c.is_open.ensures.1 open_) no_)

pub returns-then-conn-clause-none : goal.returns-then-conn-clause-none
returns-then-conn-clause-none c = λ l h open_. inl (search rules)

pub returns-then-reads-ge-READS-clause-none : goal.returns-then-reads-ge-READS-clause-none
returns-then-reads-ge-READS-clause-none c = λ l h open_. inr (inr (inr (omega (arith, h.client))))

pub returns-then-held-ge-ROOM-clause-none : goal.returns-then-held-ge-ROOM-clause-none
returns-then-held-ge-ROOM-clause-none c = λ l h open_. inr (inl (subst (λ (x : List ℕ). 32768 ≤ length x) c.as_slice-held.ensures.value c.if-held-ge-ROOM.true))
