-- The host and the port of a server, and the text that spells them.
use Rattle.std.proofs.Common.{◌≡◌, ◌≢◌, ℕ, inl, inr, List, [], ◌∷◌, ◌++◌, get_or, All, refl, sym, ap, ◌∙◌, subst, IsTrue, codes, append_assoc, append-nil, arith, length, take, drop, ◌+◌, ◌-◌, ◌≤◌, false}
use Rattle.std.proofs.lemmas.List.{append_cancel_left, length-append, take-append-le, take_all}
use Rattle.std.proofs.lemmas.Bool.{false≢true}
use Rattle.std.proofs.lemmas.List.Elements.{All-head, All-tail, All-cons}
use Rattle.px_base.proofs.Cuts.{cut_same, cut_none}
use Rattle.service_graph.specs.Urls.{IsHost, IsNameHost, IsIpv6, IsPort, IsPortPart, IsAuthority, IsServerUrl, authority_text, has_other_scheme, is_host_byte}

-- the byte is no colon
abbrev pub NoColon : ℕ → Type 0
NoColon b = b ≢ 58

abbrev pub NotClosing : ℕ → Type 0
NotClosing b = b ≢ 93

-- a byte of a name is no colon
host_byte : (b : ℕ) → IsTrue (is_host_byte b) → b ≢ 58
host_byte b h e = let P : ℕ → Type 0 = λ x. IsTrue (is_host_byte x) in false≢true (subst P e h)

pub name_has_none : (host : List ℕ) → IsNameHost host → All NoColon host
name_has_none host h = λ k d l. host_byte (get_or host k d) (h.2 k d l)

no_bracket : (b : ℕ) → IsTrue (is_host_byte b) → b ≢ 91
no_bracket b h e = let P : ℕ → Type 0 = λ x. IsTrue (is_host_byte x) in false≢true (subst P e h)

-- a name doesn't begin with a bracket
pub name_no_bracket : (host rest : List ℕ) → IsNameHost host → host ≡ 91 ∷ rest → ⊥
name_no_bracket host rest h e =
    let P : List ℕ → Type 0 = λ t. All (λ b. IsTrue (is_host_byte b)) t in
    no_bracket 91 (All-head (λ b. IsTrue (is_host_byte b)) 91 rest (subst P e h.2)) refl

cons_head : (x y : ℕ) (xs ys : List ℕ) → x ∷ xs ≡ y ∷ ys → x ≡ y
cons_head x y xs ys e = cc

cons_tail : (x y : ℕ) (xs ys : List ℕ) → x ∷ xs ≡ y ∷ ys → xs ≡ ys
cons_tail x y xs ys e = cc

-- the cut at the first closing bracket is the only one
pub bracket_same : (a c x y : List ℕ) → All NotClosing a → All NotClosing c → a ++ 93 ∷ x ≡ c ++ 93 ∷ y → (a ≡ c) × (x ≡ y)
bracket_same [] [] x y pure_a pure_c e = (refl, cons_tail 93 93 x y e)
bracket_same [] (z ∷ c) x y pure_a pure_c e = absurd (All-head NotClosing z c pure_c (sym (cons_head 93 z x (c ++ 93 ∷ y) e)))
bracket_same (z ∷ a) [] x y pure_a pure_c e = absurd (All-head NotClosing z a pure_a (cons_head z 93 (a ++ 93 ∷ x) y e))
bracket_same (z ∷ a) (w ∷ c) x y pure_a pure_c e =
    let (same, rest) = bracket_same a c x y (All-tail NotClosing z a pure_a) (All-tail NotClosing w c pure_c) (cons_tail z w (a ++ 93 ∷ x) (c ++ 93 ∷ y) e) in
    let first : z ≡ w = cons_head z w (a ++ 93 ∷ x) (c ++ 93 ∷ y) e in
    (ap (λ t. z ∷ t) same ∙ ap (λ b. b ∷ c) first, rest)

-- where there is no closing bracket there is no cut
pub bracket_none : (a x text : List ℕ) → All NotClosing text → text ≡ a ++ 93 ∷ x → ⊥
bracket_none [] x text pure e = let P : List ℕ → Type 0 = λ t. All NotClosing t in All-head NotClosing 93 x (subst P e pure) refl
bracket_none (z ∷ a) x text pure e =
    let P : List ℕ → Type 0 = λ t. All NotClosing t in bracket_none a x (a ++ 93 ∷ x) (All-tail NotClosing z (a ++ 93 ∷ x) (subst P e pure)) refl

no_part : (b : ℕ) (rest : List ℕ) (port : ℕ) → b ≢ 58 → ¬ (IsPortPart (b ∷ rest) port)
no_part b rest port apart (inl (none, eighty)) = let h : b ∷ rest ≡ [] = none in cc
no_part b rest port apart (inr (digits, same, is_port)) = apart (cons_head b 58 rest digits same)

name_cut_by : (text host digits h : List ℕ) (port : ℕ) → text ≡ h ++ 58 ∷ digits → All NoColon h → ((rest : List ℕ) → text ≢ 91 ∷ rest) → IsHost host
    → (after : List ℕ) → text ≡ host ++ after → IsPortPart after port → IsNameHost h × IsPort digits port × (host ≡ h)
name_cut_by text host digits h port e pure plain (inl name) after same (inl (none, eighty)) =
    let P : List ℕ → Type 0 = λ t. All NoColon t in
    let whole : text ≡ host = same ∙ ap (λ t. host ++ t) none ∙ append-nil host in
    absurd (cut_none h digits text (subst P (sym whole) (name_has_none host name)) e pure)
name_cut_by text host digits h port e pure plain (inl name) after same (inr (found, begins, is_port)) =
    let cuts = cut_same h digits host found pure (name_has_none host name) (sym e ∙ same ∙ ap (λ t. host ++ t) begins) in
    let Q : List ℕ → Type 0 = λ d. IsPort d port in
    (subst IsNameHost (sym cuts.0) name, subst Q (sym cuts.1) is_port, sym cuts.0)
name_cut_by text host digits h port e pure plain (inr (inner, spelled, closed, is_ip)) after same part =
    absurd (plain ((inner ++ 93 ∷ []) ++ after) (same ∙ ap (λ t. t ++ after) spelled))

-- a name cut at its colon: the host is what stands before it, and the port what stands behind it
pub name_cut : (text host digits h : List ℕ) (port : ℕ) → text ≡ h ++ 58 ∷ digits → All NoColon h → ((rest : List ℕ) → text ≢ 91 ∷ rest) → IsAuthority text host port
    → IsNameHost h × IsPort digits port × (host ≡ h)
name_cut text host digits h port e pure plain a = name_cut_by text host digits h port e pure plain a.is_host a.after a.text_is a.is_port

name_alone_by : (text host : List ℕ) (port : ℕ) → All NoColon text → ((rest : List ℕ) → text ≢ 91 ∷ rest) → IsHost host → (after : List ℕ) → text ≡ host ++ after
    → IsPortPart after port → IsNameHost text
name_alone_by text host port pure plain (inl name) after same (inl (none, eighty)) = subst IsNameHost (sym (same ∙ ap (λ t. host ++ t) none ∙ append-nil host)) name
name_alone_by text host port pure plain (inl name) after same (inr (found, begins, is_port)) =
    absurd (cut_none host found text pure (same ∙ ap (λ t. host ++ t) begins) (name_has_none host name))
name_alone_by text host port pure plain (inr (inner, spelled, closed, is_ip)) after same part =
    absurd (plain ((inner ++ 93 ∷ []) ++ after) (same ∙ ap (λ t. t ++ after) spelled))

-- a name without a colon: it is the host
pub name_alone : (text host : List ℕ) (port : ℕ) → All NoColon text → ((rest : List ℕ) → text ≢ 91 ∷ rest) → IsAuthority text host port → IsNameHost text
name_alone text host port pure plain a = name_alone_by text host port pure plain a.is_host a.after a.text_is a.is_port

-- a text that begins with a bracket begins with no name
name_front : (host rest after : List ℕ) → IsNameHost host → host ++ after ≡ 91 ∷ rest → ⊥
name_front [] rest after name e = omega (arith, name.0)
name_front (b ∷ host) rest after name e =
    no_bracket b (All-head (λ c. IsTrue (is_host_byte c)) b host name.2) (cons_head b 91 (host ++ after) rest e)

regroup : (inner after : List ℕ) → (91 ∷ inner ++ 93 ∷ []) ++ after ≡ 91 ∷ (inner ++ 93 ∷ after)
regroup inner after = ap (λ t. 91 ∷ t) (append_assoc inner (93 ∷ []) after)

address_cut_by : (text host h inner after : List ℕ) (port : ℕ) → text ≡ h ++ after → h ≡ 91 ∷ inner ++ 93 ∷ [] → All NotClosing inner → IsHost host
    → (found : List ℕ) → text ≡ host ++ found → IsPortPart found port → IsIpv6 inner × IsPortPart after port
address_cut_by text host h inner after port e spelled pure (inl name) found same part =
    absurd (name_front host (inner ++ 93 ∷ after) found name (sym same ∙ e ∙ ap (λ t. t ++ after) spelled ∙ regroup inner after))
address_cut_by text host h inner after port e spelled pure (inr (own, own_is, closed, is_ip)) found same part =
    let here : text ≡ 91 ∷ (inner ++ 93 ∷ after) = e ∙ ap (λ t. t ++ after) spelled ∙ regroup inner after in
    let there : text ≡ 91 ∷ (own ++ 93 ∷ found) = same ∙ ap (λ t. t ++ found) own_is ∙ regroup own found in
    let cuts = bracket_same inner own after found pure closed (cons_tail 91 91 (inner ++ 93 ∷ after) (own ++ 93 ∷ found) (sym here ∙ there)) in
    let Q : List ℕ → Type 0 = λ t. IsPortPart t port in
    (subst IsIpv6 (sym cuts.0) is_ip, subst Q (sym cuts.1) part)

-- an address cut behind its closing bracket
pub address_cut : (text host h inner after : List ℕ) (port : ℕ) → text ≡ h ++ after → h ≡ 91 ∷ inner ++ 93 ∷ [] → All NotClosing inner → IsAuthority text host port
    → IsIpv6 inner × IsPortPart after port
address_cut text host h inner after port e spelled pure a = address_cut_by text host h inner after port e spelled pure a.is_host a.after a.text_is a.is_port

address_none_by : (text host rest : List ℕ) (port : ℕ) → text ≡ 91 ∷ rest → All NotClosing text → IsHost host → (after : List ℕ) → text ≡ host ++ after → ⊥
address_none_by text host rest port e pure (inl name) after same = name_front host rest after name (sym same ∙ e)
address_none_by text host rest port e pure (inr (own, own_is, closed, is_ip)) after same =
    bracket_none (91 ∷ own) after text pure (same ∙ ap (λ t. t ++ after) own_is ∙ regroup own after)

-- without a closing bracket there is no address
pub address_none : (text host rest : List ℕ) (port : ℕ) → text ≡ 91 ∷ rest → All NotClosing text → ¬ (IsAuthority text host port)
address_none text host rest port e pure a = address_none_by text host rest port e pure a.is_host a.after a.text_is

-- there is room for the host with its brackets
pub address_room : (text rest inner after : List ℕ) → text ≡ 91 ∷ rest → rest ≡ inner ++ 93 ∷ after → length inner + 2 ≤ length text
address_room text rest inner after e cut =
    let m : length rest ≡ length inner + length (93 ∷ after) = ap length cut ∙ length-append inner (93 ∷ after) in
    omega (arith, ap length e, m)

-- the host with its brackets, and what stands behind it
pub address_host : (text rest inner after : List ℕ) → text ≡ 91 ∷ rest → rest ≡ inner ++ 93 ∷ after
    → (take (length inner + 2) text ≡ 91 ∷ inner ++ 93 ∷ []) × (text ≡ take (length inner + 2) text ++ after)
address_host text rest inner after e cut =
    let whole : text ≡ (91 ∷ inner ++ 93 ∷ []) ++ after = e ∙ ap (λ t. 91 ∷ t) cut ∙ sym (regroup inner after) in
    let long : length inner + 2 ≡ length (91 ∷ inner ++ 93 ∷ []) = omega (arith, length-append inner (93 ∷ [])) in
    let front : take (length inner + 2) text ≡ 91 ∷ inner ++ 93 ∷ [] =
    ap (λ t. take (length inner + 2) t) whole ∙ ap (λ n. take n ((91 ∷ inner ++ 93 ∷ []) ++ after)) long ∙ take-append-le (length (91 ∷ inner ++ 93 ∷ [])) (91 ∷ inner ++ 93 ∷ []) after (omega arith)
    ∙ take_all (length (91 ∷ inner ++ 93 ∷ [])) (91 ∷ inner ++ 93 ∷ []) (omega arith) in
    (front, whole ∙ ap (λ t. t ++ after) (sym front))

-- a URL of `http` whose authority names no server
pub http_only : (url rest authority : List ℕ) → url ≡ codes "http://" ++ rest → authority ≡ authority_text rest → ((host : List ℕ) (port : ℕ) → ¬ (IsAuthority authority host port))
    → (has_other_scheme url ≡ false) × ((host : List ℕ) (port : ℕ) → ¬ (IsServerUrl url host port))
http_only url rest authority e is never = (
  ap has_other_scheme e,
  λ host port u.
      let same : u.0 ≡ rest = append_cancel_left (codes "http://") u.0 rest (sym u.1 ∙ e) in
      let P : List ℕ → Type 0 = λ t. IsAuthority t host port in
      never host port (subst P (ap authority_text same ∙ sym is) u.2),
)

length_behind : (text rest : List ℕ) → text ≡ 91 ∷ rest → length rest ≤ length text - 1
length_behind text rest e = omega (arith, ap length e)

-- what stands behind the first byte
pub tail_is : (text rest : List ℕ) → text ≡ 91 ∷ rest → take (length text - 1) (drop 1 text) ≡ rest
tail_is text rest e =
    let n : length rest ≤ length text - 1 = length_behind text rest e in
    ap (λ t. take (length text - 1) (drop 1 t)) e ∙ take_all (length text - 1) rest n

pub pure_behind : (rest : List ℕ) → All NotClosing rest → All NotClosing (91 ∷ rest)
pure_behind rest pure = All-cons NotClosing 91 rest (λ e. absurd (omega (arith, e))) pure
