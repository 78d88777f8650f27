-- When a rule is true of a request.
use Rattle.std.specs.Prelude.{◌≡◌, ℕ, ◌⊎◌, List, ◌++◌, Any, IsTrue}
use Rattle.std.specs.Str.{str_to_ascii_lowercase, str_to_ascii_uppercase}
use Rattle.rule_lang.specs.declared.matcher.Matcher.{Matcher}
use Rattle.rule_lang.specs.declared.matcher.Matcher.TheVariants.{Header, HeaderRegexp, Host, HostRegexp, Method, Path, PathPrefix, PathRegexp, Query, QueryRegexp, ClientIp}
use Rattle.rule_lang.specs.Trees.{Tree, call, negation, both, either}
use Rattle.ip_net.specs.declared.ip.Ip.{Ip}
use Rattle.ip_net.specs.Texts.{WritesNet}
use Rattle.ip_net.specs.Width.{InNetwork}
use Rattle.head_view.specs.Lines.{Line, values_of}
use Rattle.head_view.specs.Views.{view_lines}
use Rattle.head_view.specs.declared.views.RequestView.{RequestView}
use Rattle.rule_eval.specs.Patterns.{finds}
use Rattle.px_base.specs.Bytes.{without_dot}
use Rattle.rule_eval.specs.Pairs.{Pair, query_pairs}

-- what a rule is asked of, beside the peer: the method, the host for rules, the path, the query's
-- pairs, and the field lines as they were received
pub record Asked : Type 0 where
  pub method : List ℕ
  pub host : List ℕ
  pub path : List ℕ
  pub pairs : List Pair
  pub lines : List Line

abbrev pub asked_of : RequestView → Asked
asked_of v = record { method = v.method.now; host = v.host.now; path = v.path.now; pairs = query_pairs v.query.now; lines = view_lines v }

-- the peer's address is in a network that the text writes, in whatever way it does
abbrev pub IsPeerIn : List ℕ → Ip → Type 0
IsPeerIn text peer = (ip : Ip) × ((bits : ℕ) × ∥ WritesNet text ip bits ∥₁ × InNetwork ip bits peer)

-- a call of this matcher with these values is true
abbrev pub IsMet : Matcher → List ℕ → List ℕ → Asked → Ip → Type 0
IsMet Header key value asked peer = Any (λ v. v ≡ value) (values_of key asked.lines)
IsMet HeaderRegexp key value asked peer = Any (λ v. IsTrue (finds value v)) (values_of key asked.lines)
IsMet Host key value asked peer = str_to_ascii_lowercase asked.host ≡ str_to_ascii_lowercase (without_dot value)
IsMet HostRegexp key value asked peer = IsTrue (finds value (str_to_ascii_lowercase asked.host))
IsMet Method key value asked peer = asked.method ≡ str_to_ascii_uppercase value
IsMet Path key value asked peer = asked.path ≡ value
IsMet PathPrefix key value asked peer = (rest : List ℕ) × (asked.path ≡ value ++ rest)
IsMet PathRegexp key value asked peer = IsTrue (finds value asked.path)
IsMet Query key value asked peer = Any (λ (p : Pair). (p.0 ≡ key) × (p.1 ≡ value)) asked.pairs
IsMet QueryRegexp key value asked peer = Any (λ (p : Pair). (p.0 ≡ key) × IsTrue (finds value p.1)) asked.pairs
IsMet ClientIp key value asked peer = IsPeerIn value peer

-- the rule is true
abbrev pub Truth : Tree → Asked → Ip → Type 0
Truth (call matcher key value) asked peer = IsMet matcher key value asked peer
Truth (negation r) asked peer = ¬ (Truth r asked peer)
Truth (both r s) asked peer = Truth r asked peer × Truth s asked peer
Truth (either r s) asked peer = Truth r asked peer ⊎ Truth s asked peer
