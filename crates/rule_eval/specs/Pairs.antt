-- The pairs of a query.
use Rattle.std.specs.Prelude.{ℕ, List, map, Bool, ◌&&◌, bytes_eq}
use Rattle.std.specs.Str.Lossy.{utf8_lossy}
use Rattle.form_urlencoded.specs.Form.{raw_pairs, decode}
use Rattle.rule_eval.specs.Patterns.{finds}

-- a name and a value
abbrev pub Pair : Type 0
Pair = List ℕ × List ℕ

-- the text that an encoded name or value stands for, with U+FFFD for what isn't UTF-8
abbrev pub text_of : List ℕ → List ℕ
text_of bytes = utf8_lossy (decode bytes)

-- the pair that an encoded one stands for
abbrev pub pair_of : Pair → Pair
pair_of p = (text_of p.0, text_of p.1)

-- the pairs of a query, in order
abbrev pub query_pairs : List ℕ → List Pair
query_pairs query = map pair_of (raw_pairs query)

-- an encoded pair stands for this name and this value
abbrev pub is_pair : List ℕ → List ℕ → Pair → Bool
is_pair key value p = bytes_eq (text_of p.0) key && bytes_eq (text_of p.1) value

-- an encoded pair stands for this name and a value in which the pattern is found
abbrev pub is_pair_found : List ℕ → List ℕ → Pair → Bool
is_pair_found key pattern p = bytes_eq (text_of p.0) key && finds pattern (text_of p.1)
