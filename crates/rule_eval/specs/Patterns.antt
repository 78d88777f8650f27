-- What the text of a pattern stands for, over the grammar of `regex`.
use Rattle.std.specs.Prelude.{◌≡◌, ℕ, ◌<◌, ◌≤◌, ◌&&◌, Bool, List, Option, Some, IsSomeAnd, is_some, option_and_then, option_map, get_or, chars, IsUtf8}
use Rattle.std.specs.Str.{is_utf8}
use Rattle.regex_syntax.specs.Grammar.{read}
use Rattle.regex.specs.Patterns.{Re, default_config, find_str, find_all_str}
use Rattle.regex.specs.Replace.{replaced_by, group_bytes}
use Rattle.regex.specs.Templates.{written_after}
use Rattle.regex.specs.Strings.{regex_source, regex_config, IsReadFromSource}
use Rattle.regex.specs.declared.string.regex.Regex.{Regex}

-- the grammar reads the text as a pattern, which nests no deeper than 250
abbrev pub IsReadable : List ℕ → Type 0
IsReadable text = IsSomeAnd (read default_config (chars text)) (λ (found, _). found.depth ≤ 250)

-- the bytes are a text that the grammar reads so
abbrev pub IsPatternText : List ℕ → Type 0
IsPatternText bytes = IsUtf8 bytes × IsReadable bytes

-- the pattern that the text is has a match in the haystack, by the definition of `regex`
abbrev pub is_found_in : List ℕ → List ℕ → Bool
is_found_in text hay = is_some (option_and_then (λ p. find_str p.0.value hay 0) (read default_config (chars text)))

-- the bytes are UTF-8, and the pattern that the text is has a match in them
abbrev pub finds : List ℕ → List ℕ → Bool
finds text bytes = is_utf8 bytes && is_found_in text bytes

-- the compiled pattern has a match where the text has one, in each haystack of bytes
abbrev pub FindsAsRead : List ℕ → Re → Type 0
FindsAsRead text re =
    (hay : List ℕ) → ((k : ℕ) → get_or hay k 0 < 256) → is_some (find_str re hay 0) ≡ is_found_in text hay

-- the haystack with each match of the pattern that the text is replaced by what the template writes there
abbrev pub replaced_in : List ℕ → List ℕ → List ℕ → Option (List ℕ)
replaced_in text template hay =
    option_map (λ p. replaced_by (λ m. written_after p.1 (group_bytes hay m) template 0) hay 0 (find_all_str p.0.value hay))
    (read default_config (chars text))

-- so does the compiled pattern, under these names of groups
abbrev pub ReplacesAsRead : List ℕ → Re → List (Option (List ℕ)) → Type 0
ReplacesAsRead text re names =
    (template : List ℕ) (hay : List ℕ) → ((k : ℕ) → get_or hay k 0 < 256)
    → Some (replaced_by (λ m. written_after names (group_bytes hay m) template 0) hay 0 (find_all_str re hay)) ≡ replaced_in text template hay

-- the compiled pattern is what the grammar reads in the text
abbrev pub IsBuiltFrom : List ℕ → Regex → Type 0
IsBuiltFrom text r = (regex_source r ≡ text) × (regex_config r ≡ default_config) × IsReadFromSource r
