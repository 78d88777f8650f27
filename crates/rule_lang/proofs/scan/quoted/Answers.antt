use Rattle.std.proofs.Common.{inl, inr, refl}
use Rattle.rule_lang.proofs.Lexing.{quote_mark, quote_open, quote_bad}
use Rattle.rule_lang.proofs.scan.quoted.Goals as goal

pub returns-in-Closed-clause-finds : goal.returns-in-Closed-clause-finds
returns-in-Closed-clause-finds c = quote_mark c.args.text.now c.in-Closed.len c.requires.some c.requires.first c.in-Closed.ensures.reads

pub returns-in-BadEscape-clause-finds : goal.returns-in-BadEscape-clause-finds
returns-in-BadEscape-clause-finds c = inr (quote_bad c.args.text.now c.in-BadEscape.at c.requires.some c.requires.first c.in-BadEscape.ensures.reads)

pub returns-in-Unclosed-clause-finds : goal.returns-in-Unclosed-clause-finds
returns-in-Unclosed-clause-finds c = inl (inr (quote_open c.args.text.now c.requires.some c.requires.first c.in-Unclosed.ensures.reads), refl)
