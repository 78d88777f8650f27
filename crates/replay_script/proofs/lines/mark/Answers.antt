use Rattle.replay_script.proofs.Cutting.{never_cut, no_mark_node, no_mark_cut, no_mark_server, no_mark_up}
use Rattle.replay_script.proofs.lines.mark.Goals as goal

pub returns-in_err-node : goal.returns-in_err-node
returns-in_err-node c = rw c.from_residual-in_err-node.ensures (no_mark_node c.args.text.now c.in_ok-a.a.now c.in_ok-a.more.now c.in_ok-a.ensures c.in_err-node.ensures)

pub returns-in_err-b : goal.returns-in_err-b
returns-in_err-b c = rw c.from_residual-in_err-b.ensures (no_mark_cut c.args.text.now c.in_ok-a.a.now c.in_ok-a.more.now c.in_ok-a.ensures (never_cut c.in_ok-a.more.now c.in_err-b.ensures))

pub returns-in_err-server : goal.returns-in_err-server
returns-in_err-server c = rw c.from_residual-in_err-server.ensures (no_mark_server c.args.text.now c.in_ok-a.a.now c.in_ok-a.more.now c.in_ok-b.b.now c.in_ok-b.verdict.now c.in_ok-a.ensures c.in_ok-b.ensures c.in_err-server.ensures)

pub returns-in_err-up : goal.returns-in_err-up
returns-in_err-up c = rw c.from_residual-in_err-up.ensures (no_mark_up c.args.text.now c.in_ok-a.a.now c.in_ok-a.more.now c.in_ok-b.b.now c.in_ok-b.verdict.now c.in_ok-a.ensures c.in_ok-b.ensures c.in_err-up.ensures)

pub returns-in_err-a : goal.returns-in_err-a
returns-in_err-a c = rw c.from_residual.ensures (λ node server up r. never_cut c.args.text.now c.in_err-a.ensures r.0 r.1 r.3)
