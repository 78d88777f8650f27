use Rattle.std.proofs.Common.{inl, inr, refl}
use Rattle.rule_lang.proofs.Lexing.{raw_mark, raw_open}
use Rattle.rule_lang.proofs.scan.raw.Goals as goal

pub returns-in-Some-clause-finds : goal.returns-in-Some-clause-finds
returns-in-Some-clause-finds c =
    let (some, within, close, none) = c.in-Some.ensures.found in
    raw_mark c.args.text.now c.in-Some.at c.requires.first some within close none

pub returns-in-None-clause-finds : goal.returns-in-None-clause-finds
returns-in-None-clause-finds c = inl (inr (raw_open c.args.text.now c.requires.some c.requires.first c.in-None.ensures.none), refl)
