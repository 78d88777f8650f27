use Rattle.std.proofs.Common.{◌≡◌, length}
use Rattle.command_words.specs.Values.{values_of}
use Rattle.command_words.proofs.lookup.first_value.Given as goal

abbrev pub invariant-loop-setting : goal.invariant-loop-setting
invariant-loop-setting l = values_of l.name l.settings ≡ values_of l.name l.rest

abbrev pub decreases-loop-setting : goal.decreases-loop-setting
decreases-loop-setting l = length l.rest
