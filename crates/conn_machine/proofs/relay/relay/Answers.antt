use Rattle.std.proofs.Common.{take, drop, ap, ◌∙◌, ◌≡◌, ◌++◌, ℕ, ◌+◌, ◌-◌, List, Bool, arith}
use Rattle.std.specs.Prelude.{is_some}
use Rattle.conn_machine.specs.Relays.{new_head}
use Rattle.conn_machine.proofs.relay.relay.Goals as goal

pub returns-clause-relays : goal.returns-clause-relays
returns-clause-relays c = λ message method took_ gave_ content x.
    let n : (c.in_ok-content.content.from + c.in_ok-content.content.len) - c.in_ok-content.content.from ≡ c.in_ok-content.content.len = omega arith in (
      take c.in_ok-content.content.len (drop c.in_ok-content.content.from c.args.piece.now),
      c.in_ok-content.ensures.reached message method took_ gave_ content x,
      c.in_ok-extend_from_slice.ensures.items
          ∙ ap (λ (l : List ℕ). l ++ take ((c.in_ok-content.content.from + c.in_ok-content.content.len) - c.in_ok-content.content.from) (drop c.in_ok-content.content.from c.args.piece.now))
          (c.in_ok-push_head.ensures ∙ ap (λ (l : List ℕ). l ++ new_head c.has_reply-had.result c.bytes.new.self.reply c.args.version c.args.close) c.reserve.ensures.items
          ∙ ap (λ (b : Bool). c.args.out.now.items ++ new_head b c.bytes.new.self.reply c.args.version c.args.close) c.has_reply-had.ensures)
          ∙ ap (λ (k : ℕ). (c.args.out.now.items ++ new_head (is_some c.args.back.now.reply) c.bytes.new.self.reply c.args.version c.args.close) ++ take k (drop c.in_ok-content.content.from c.args.piece.now)) n,
    )
