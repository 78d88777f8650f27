-- A text cut at the first place of a byte.
use Rattle.std.specs.Prelude.{ℕ, ◌+◌, ◌==◌, List, take, drop, position, Option}
use Rattle.std.specs.Option.{option_map}

-- the text before the byte, and the text behind it
pub record Cut : Type 0 where
  pub before : List ℕ
  pub behind : List ℕ

-- the cut at the first such byte, where the text has one
abbrev pub cut_at : ℕ → List ℕ → Option Cut
cut_at byte text = option_map (λ at. record { before = take at text; behind = drop (at + 1) text }) (position (λ b. b == byte) text)
