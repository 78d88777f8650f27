-- The URL of a server: `http://`, a host, an optional colon and port, and an optional path.
use Rattle.std.specs.Prelude.{◌≡◌, ◌≢◌, ℕ, ◌≤◌, ◌⊎◌, Bool, true, false, ◌||◌, ◌==◌, List, [], ◌∷◌, ◌++◌, length, take, All, codes, IsTrue, bytes_eq, position, Option, Some, None}
use Rattle.std.specs.Str.Parse.{digits_value}
use Rattle.std.specs.Char.{is_ascii_alphanumeric}
use Rattle.std.specs.Net.Grammar.{IsIpv6Text}
use Rattle.std.specs.declared.net.ipv6_addr.Ipv6Addr.{Ipv6Addr}
use Rattle.px_base.specs.Decimals.{IsDecimal}
use Rattle.service_graph.specs.declared.url.UrlFault.{UrlFault}
use Rattle.service_graph.specs.declared.url.UrlFault.TheVariants.{Scheme, BadUrl}

-- a byte of a name
abbrev pub is_host_byte : ℕ → Bool
is_host_byte b = is_ascii_alphanumeric b || b == 46 || b == 45 || b == 95

-- 1 to 253 letters, digits, `.`, `-` and `_`
abbrev pub IsNameHost : List ℕ → Type 0
IsNameHost host = (1 ≤ length host) × (length host ≤ 253) × All (λ b. IsTrue (is_host_byte b)) host

-- an IPv6 address (RFC 4291 section 2.2)
abbrev pub IsIpv6 : List ℕ → Type 0
IsIpv6 text = (address : Ipv6Addr) × IsIpv6Text text address

-- an IPv6 address in brackets, of which the closing one is the first (RFC 3986 section 3.2.2)
abbrev pub IsInBrackets : List ℕ → Type 0
IsInBrackets host = (inner : List ℕ) × (host ≡ 91 ∷ inner ++ 93 ∷ []) × All (λ b. b ≢ 93) inner × IsIpv6 inner

abbrev pub IsHost : List ℕ → Type 0
IsHost host = IsNameHost host ⊎ IsInBrackets host

-- the digits spell this port
pub record IsPort (digits : List ℕ) (port : ℕ) : Type 0 where
  pub decimal : IsDecimal digits
  pub value : digits_value 10 digits ≡ port
  pub low : 1 ≤ port
  pub high : port ≤ 65535

-- what stands behind a host: nothing, which means port 80, or a colon and a port
abbrev pub IsPortPart : List ℕ → ℕ → Type 0
IsPortPart text port = ((text ≡ []) × (port ≡ 80)) ⊎ ((digits : List ℕ) × (text ≡ 58 ∷ digits) × IsPort digits port)

-- a host and what stands behind it
pub record IsAuthority (text host : List ℕ) (port : ℕ) : Type 0 where
  pub is_host : IsHost host
  pub after : List ℕ
  pub text_is : text ≡ host ++ after
  pub is_port : IsPortPart after port

abbrev pub is_slash : ℕ → Bool
is_slash b = b == 47

-- what stands before that place, or all where there is none
abbrev pub before_place : Option ℕ → List ℕ → List ℕ
before_place None text = text
before_place (Some at) text = take at text

-- the authority is what stands before the first slash
abbrev pub authority_text : List ℕ → List ℕ
authority_text text = before_place (position is_slash text) text

-- the URL names this server
abbrev pub IsServerUrl : List ℕ → List ℕ → ℕ → Type 0
IsServerUrl url host port = (rest : List ℕ) × (url ≡ codes "http://" ++ rest) × IsAuthority (authority_text rest) host port

abbrev pub begins : List ℕ → List ℕ → Bool
begins front text = bytes_eq front (take (length front) text)

-- a URL of a server that another protocol is spoken to
abbrev pub has_other_scheme : List ℕ → Bool
has_other_scheme url = begins (codes "https://") url || begins (codes "h2c://") url

-- why a text is no URL of a server
abbrev pub IsUrlFault : List ℕ → UrlFault → Type 0
IsUrlFault url Scheme = (has_other_scheme url ≡ true) × ((host : List ℕ) (port : ℕ) → ¬ (IsServerUrl url host port))
IsUrlFault url BadUrl = (has_other_scheme url ≡ false) × ((host : List ℕ) (port : ℕ) → ¬ (IsServerUrl url host port))
