use Rattle.std.proofs.Common.{length}
use Rattle.rule_lang.proofs.Quotes.{Scanned}
use Rattle.rule_lang.proofs.scan.scan_quote.Given as goal

abbrev pub invariant-loop-rest : goal.invariant-loop-rest
invariant-loop-rest l = Scanned l.body l.rest l.at l.bad

abbrev pub decreases-loop-rest : goal.decreases-loop-rest
decreases-loop-rest l = length l.rest
