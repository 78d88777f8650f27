use Rattle.std.proofs.Common.{◌≡◌, ◌++◌, drop}
use Rattle.generation_text.specs.Texts.{rows_text}
use Rattle.generation_text.proofs.rows.push_rows.Given as goal

abbrev pub invariant-loop-number : goal.invariant-loop-number
invariant-loop-number l = l.text.items ++ rows_text l.number (drop l.number l.rows) ≡ l.initial.text.items ++ rows_text 0 l.rows
