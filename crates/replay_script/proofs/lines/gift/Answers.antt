use Rattle.replay_script.proofs.Cutting.{never_cut, no_gift}
use Rattle.replay_script.proofs.lines.gift.Goals as goal

pub returns-in_err-link : goal.returns-in_err-link
returns-in_err-link c = rw c.from_residual-in_err-link.ensures (no_gift c.args.text.now c.in_ok-number.number.now c.in_ok-number.given.now c.in_ok-number.ensures c.in_err-link.ensures)

pub returns-in_err-number : goal.returns-in_err-number
returns-in_err-number c = rw c.from_residual.ensures (λ link given r. never_cut c.args.text.now c.in_err-number.ensures r.0 given r.1)
