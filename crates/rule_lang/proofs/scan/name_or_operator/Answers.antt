use Rattle.std.proofs.Common.{ap, sym, ◌∙◌}
use Rattle.std.specs.Char.{is_ascii_alphabetic}
use Rattle.rule_lang.proofs.Lexing.{name_mark}
use Rattle.rule_lang.proofs.scan.name_or_operator.Goals as goal

pub returns-then-is_ascii_alphabetic-clause-finds : goal.returns-then-is_ascii_alphabetic-clause-finds
returns-then-is_ascii_alphabetic-clause-finds c =
    let letter = ap is_ascii_alphabetic (sym c.requires.first) ∙ sym c.is_ascii_alphabetic.ensures.value ∙ c.if-is_ascii_alphabetic.true in
    name_mark c.args.text.now c.letters.result c.letters.ensures.within c.requires.some letter c.letters.ensures.before c.letters.ensures.stop
