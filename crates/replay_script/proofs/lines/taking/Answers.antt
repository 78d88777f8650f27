use Rattle.replay_script.proofs.Cutting.{never_cut, no_taking_link, no_taking_count}
use Rattle.replay_script.proofs.lines.taking.Goals as goal

pub returns-in_err-link : goal.returns-in_err-link
returns-in_err-link c = rw c.from_residual-in_err-link.ensures (no_taking_link c.args.text.now c.in_ok-number.number.now c.in_ok-number.more.now c.in_ok-number.ensures c.in_err-link.ensures)

pub returns-in_err-count : goal.returns-in_err-count
returns-in_err-count c = rw c.from_residual-in_err-count.ensures (no_taking_count c.args.text.now c.in_ok-number.number.now c.in_ok-number.more.now c.in_ok-number.ensures c.in_err-count.ensures)

pub returns-in_err-number : goal.returns-in_err-number
returns-in_err-number c = rw c.from_residual.ensures (λ link count r. never_cut c.args.text.now c.in_err-number.ensures r.0 r.1 r.2)
