-- The values of options, as texts, numbers, addresses and ports.
use Rattle.std.specs.Prelude.{◌≡◌, ℕ, ◌≤◌, ◌==◌, ◌⊎◌, true, List, [], ◌∷◌, length, Option, Some, None, IsSomeAnd, if◌then◌else◌, bytes_eq}
use Rattle.std.specs.List.{list_any}
use Rattle.std.specs.Str.Parse.{digits_value}
use denote.Ref.{Bor}
use Rattle.px_base.specs.Decimals.{IsDecimal}
use Rattle.ip_net.specs.declared.ip.Ip.{Ip}
use Rattle.ip_net.specs.Texts.{Writes}
use Rattle.command_words.specs.Cuts.{cut_at}
use Rattle.command_words.specs.declared.sorting.Setting.{Setting}

-- the values that an option is given, in order
abbrev pub values_of : List ℕ → List Setting → List (List ℕ)
values_of name [] = []
values_of name (s ∷ settings) = if bytes_eq s.name name then s.value ∷ values_of name settings else values_of name settings

-- an option that may stand once has the value that it is given, read as `P` says, or its default
abbrev pub Chosen : {A : Type 0} → List (List ℕ) → A → (List ℕ → A → Type 0) → A → Type 0
Chosen [] default P x = x ≡ default
Chosen (value ∷ []) default P x = P value x
Chosen (value ∷ again ∷ values) default P x = ⊥

-- the option stands twice or more
abbrev pub IsTwice : List (List ℕ) → Type 0
IsTwice values = (a b : List ℕ) × (more : List (List ℕ)) × (values ≡ a ∷ b ∷ more)

-- no value, or this one
abbrev pub IsListed : List (List ℕ) → Option (Bor (List ℕ)) → Type 0
IsListed values None = values ≡ []
IsListed values (Some value) = values ≡ value.now ∷ []

-- a number of 1 to 10 digits
pub record IsCount (text : List ℕ) (n : ℕ) : Type 0 where
  pub digits : IsDecimal text
  pub short : length text ≤ 10
  pub value : digits_value 10 text ≡ n

-- a port from 1 to 65535, in 1 to 10 digits
pub record IsPort (text : List ℕ) (port : ℕ) : Type 0 where
  pub number : IsCount text port
  pub low : 1 ≤ port
  pub high : port ≤ 65535

-- a port behind a colon
abbrev pub IsPortBehind : List ℕ → ℕ → Type 0
IsPortBehind [] port = ⊥
IsPortBehind (b ∷ bs) port = (b ≡ 58) × IsPort bs port

-- an address without colons, a colon and a port: `1.2.3.4:80`
abbrev pub IsPlainAddress : List ℕ → Ip → ℕ → Type 0
IsPlainAddress text ip port = IsSomeAnd (cut_at 58 text) (λ cut. Writes cut.before ip × IsPort cut.behind port)

-- an address with colons, `]`, a colon and a port: `::1]:80`
abbrev pub IsBracketedBehind : List ℕ → Ip → ℕ → Type 0
IsBracketedBehind text ip port =
    IsSomeAnd (cut_at 93 text) (λ cut. (list_any (λ b. b == 58) cut.before ≡ true) × Writes cut.before ip × IsPortBehind cut.behind port)

-- the same behind `[`
abbrev pub IsBracketed : List ℕ → Ip → ℕ → Type 0
IsBracketed [] ip port = ⊥
IsBracketed (b ∷ bs) ip port = (b ≡ 91) × IsBracketedBehind bs ip port

-- an address and a port; an IPv6 address stands in brackets
abbrev pub IsAddress : List ℕ → Ip → ℕ → Type 0
IsAddress text ip port = IsPlainAddress text ip port ⊎ IsBracketed text ip port
