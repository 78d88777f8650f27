use Rattle.command_words.proofs.Hosts.{no_host}
use Rattle.command_words.proofs.numbers.plain_address.Goals as goal

pub returns-in_err-ip : goal.returns-in_err-ip
returns-in_err-ip c =
    rw c.from_residual-in_err-ip.ensures
    (no_host c.args.text.now (record { before = c.in_ok-host.host.now; behind = c.in_ok-host.number.now }) c.in_ok-host.ensures c.in_err-ip.ensures.reads)
