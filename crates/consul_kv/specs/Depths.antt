-- Keys with more slashes than a tree may have levels.
use Rattle.std.specs.Prelude.{ℕ, ◌+◌, ◌==◌, ◌&&◌, nat_lt, if◌then◌else◌, Bool, false, List, [], ◌∷◌, count_by, Option, Some, None}
use Rattle.serde_json.specs.Data.{Data}
use Rattle.consul_kv.specs.Keys.{is_counted, path_of}
use Rattle.consul_kv.specs.Elements.{key_in}

-- more than 255 slashes, so that building and dropping a tree never goes deeper. No key of the schema has so many below its root.
abbrev pub has_many_slashes : List ℕ → Bool
has_many_slashes path = nat_lt 255 (count_by (λ b. b == 47) path)

abbrev pub is_deep_key : List ℕ → Option (List ℕ) → Bool
is_deep_key root None = false
is_deep_key root (Some key) = is_counted root key && has_many_slashes (path_of root key)

-- the element's key counts, and has too many slashes below the root
abbrev pub is_deep : List ℕ → Data → Bool
is_deep root element = is_deep_key root (key_in element)

-- the place of the first such element, where the first of these has the place n
abbrev pub deep_from : ℕ → List ℕ → List Data → Option ℕ
deep_from n root [] = None
deep_from n root (d ∷ ds) = if is_deep root d then Some n else deep_from (n + 1) root ds

abbrev pub deep_place : List ℕ → List Data → Option ℕ
deep_place root elements = deep_from 0 root elements
