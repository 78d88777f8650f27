use Rattle.rule_lang.proofs.Again.{read_again}
use Rattle.rule_lang.proofs.law.prints_are_read_again.Goals as goal

pub returns : goal.returns
returns c = read_again
