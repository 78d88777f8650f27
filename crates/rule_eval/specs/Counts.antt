-- What a shop counts.
use Rattle.std.specs.Prelude.{◌≡◌, ℕ}
use Rattle.px_base.specs.Bytes.{one_more}
use Rattle.rule_eval.specs.declared.building.PatternFault.{PatternFault}
use Rattle.rule_eval.specs.declared.building.PatternFault.TheVariants.{Syntax, TooBig, Memory}

-- the count of size refusals before and after a text was refused: one more where it was for its size, else the same
abbrev pub Counts : ℕ → ℕ → PatternFault → Type 0
Counts old new Syntax = new ≡ old
Counts old new TooBig = new ≡ one_more old
Counts old new Memory = new ≡ old
