use Rattle.std.proofs.Common.{◌≡◌, ◌+◌, ◌-◌, ◌^◌, min, take, drop}
use Rattle.std.specs.List.{prefix_len}
use Rattle.std.specs.Char.{is_ascii_digit}
use Rattle.std.specs.Str.Parse.{digits_value}
use Rattle.field_tree.proofs.durations.leading_digits.Given as goal

abbrev pub invariant-loop-len : goal.invariant-loop-len
invariant-loop-len l = (prefix_len is_ascii_digit l.text ≡ l.len + prefix_len is_ascii_digit (drop l.len l.text)) × (l.value ≡ min (digits_value 10 (take l.len l.text)) (2 ^ 64 - 1))
