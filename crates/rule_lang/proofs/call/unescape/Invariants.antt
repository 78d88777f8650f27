use Rattle.std.proofs.Common.{◌≡◌, ◌++◌, false, drop}
use Rattle.rule_lang.specs.Values.{unescaped}
use Rattle.rule_lang.proofs.call.unescape.Given as goal

abbrev pub invariant-loop-byte : goal.invariant-loop-byte
invariant-loop-byte l = l.value.items ++ unescaped l.pending (drop l.byte-index l.body) ≡ unescaped false l.body
