use Rattle.command_words.proofs.Hosts.{no_inner_host}
use Rattle.command_words.proofs.numbers.bracketed_behind.Goals as goal

pub returns-in_err-ip : goal.returns-in_err-ip
returns-in_err-ip c =
    rw c.from_residual-in_err-ip.ensures
    (no_inner_host c.args.text.now (record { before = c.in_ok-host.host.now; behind = c.in_ok-host.number.now }) c.in_ok-host.ensures c.in_err-ip.ensures.reads)
