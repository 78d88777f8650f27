use Rattle.ip_net.proofs.Numbers.{print_read}
use Rattle.ip_net.proofs.text.prints_are_read.Goals as goal

pub returns : goal.returns
returns c = print_read
