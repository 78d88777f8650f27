-- Names.
use Rattle.std.specs.Prelude.{ℕ, ◌==◌, Bool, not, ◌&&◌, nat_le, if◌then◌else◌, List, ◌++◌, length, codes}
use Rattle.std.specs.List.{list_all, list_any}

-- Visible ASCII, but `@`.
abbrev pub is_name_byte : ℕ → Bool
is_name_byte b = nat_le 33 b && nat_le b 126 && not (b == 64)

-- A name that may be declared.
abbrev pub is_name : List ℕ → Bool
is_name name = nat_le 1 (length name) && nat_le (length name) 255 && list_all is_name_byte name

-- What the names of a provider end with, the provider being 0 or 1.
abbrev pub suffix_of : ℕ → List ℕ
suffix_of provider = if provider == 0 then codes "@file" else codes "@consul"

-- The qualified name of a declared one.
abbrev pub qualified : ℕ → List ℕ → List ℕ
qualified provider name = name ++ suffix_of provider

-- The qualified name that a reference stands for.
abbrev pub referred : ℕ → List ℕ → List ℕ
referred provider text = if list_any (λ b. b == 64) text then text else qualified provider text
