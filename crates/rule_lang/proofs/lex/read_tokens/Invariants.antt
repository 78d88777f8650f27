use Rattle.std.proofs.Common.{◌≡◌, ◌+◌, length}
use Rattle.rule_lang.specs.Tokens.{Lexes}
use Rattle.rule_lang.proofs.lex.read_tokens.Given as goal

abbrev pub invariant-tokens : goal.invariant-tokens
invariant-tokens l = record {
  lexes : Lexes 0 l.text l.tokens.items l.at l.rest;
  len : l.at + length l.rest ≡ length l.text;
}

abbrev pub decreases-tokens : goal.decreases-tokens
decreases-tokens l = length l.rest
