use Rattle.replay_script.proofs.Cutting.{never_cut, no_arrival_word, no_arrival_ip, not_from}
use Rattle.replay_script.proofs.lines.arrival.Goals as goal

pub returns-then-not-is_word : goal.returns-then-not-is_word
returns-then-not-is_word c = no_arrival_word c.args.text.now c.in_ok-entry.entry.now c.in_ok-entry.ip.now c.in_ok-entry.ensures (λ w. not_from c.is_word.result c.if-not-is_word.true (c.is_word.ensures.1 w))

pub returns-in_err-peer : goal.returns-in_err-peer
returns-in_err-peer c = rw c.from_residual-in_err-peer.ensures (no_arrival_ip c.args.text.now c.in_ok-entry.entry.now c.in_ok-entry.ip.now c.in_ok-entry.ensures c.in_err-peer.ensures.reads)

pub returns-in_err-entry : goal.returns-in_err-entry
returns-in_err-entry c = rw c.from_residual.ensures (λ entry peer r. never_cut c.args.text.now c.in_err-entry.ensures entry r.0 r.1)
