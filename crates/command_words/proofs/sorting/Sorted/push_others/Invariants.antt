use Rattle.std.proofs.Common.{◌≡◌, ◌++◌, map, take, string_bytes}
use Rattle.command_words.proofs.sorting.Sorted.push_others.Given as goal

abbrev pub invariant-loop-word : goal.invariant-loop-word
invariant-loop-word l =
    (l.self.settings ≡ l.initial.self.settings)
    × (l.self.others ≡ l.initial.self.others ++ map string_bytes (take l.word-index l.words))
