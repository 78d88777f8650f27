-- One address to a text, so what holds of the one that was read holds of each.
use Rattle.std.proofs.Common.{◌≡◌, ◌≢◌, ℕ, ◌+◌, ◌<◌, ◌++◌, ◌∷◌, List, length, take, drop, sym, ap, ap₂, refl, ◌∙◌, subst, Option, Some, None, MatchOption, inl, inr, arith, take_at, drop_at}
use Rattle.std.proofs.lemmas.Option.{none-some}
use Rattle.std.proofs.NetLemmas.Theorems.{IsIpText_unique}
use Rattle.std.specs.Net.Grammar.{IsIpText, IsNumber}
use Rattle.std.specs.declared.net.ip_addr.IpAddr.{IpAddr}
use Rattle.ip_net.specs.declared.ip.Ip.{Ip}
use Rattle.ip_net.specs.declared.net.Net.{Net}
use Rattle.ip_net.specs.Texts.{FirstBits, WritesNet, written_width}
use Rattle.ip_net.proofs.Slashes.{slashless_address, slash_place, slash_nowhere, slash_at}

-- the network of the bits of the address that a text writes
abbrev pub NetOf : IpAddr → ℕ → Option Net → Type 0
NetOf written prefix r =
    MatchOption r ((ip : Ip) (bits : ℕ) → ¬ (FirstBits written prefix ip bits)) (λ net. FirstBits written prefix net.ip net.bits)

abbrev pub WholeOf : List ℕ → Option Net → Type 0
WholeOf text r =
    MatchOption r
    ((written : IpAddr) (ip : Ip) (bits : ℕ) → IsIpText text written → ¬ (FirstBits written (written_width written) ip bits))
    (λ net. (written : IpAddr) × IsIpText text written × FirstBits written (written_width written) net.ip net.bits)

abbrev pub FirstOf : List ℕ → List ℕ → Option Net → Type 0
FirstOf address digits r =
    MatchOption r
    ((written : IpAddr) (prefix : ℕ) (ip : Ip) (bits : ℕ) → IsIpText address written → IsNumber 10 digits prefix → ¬ (FirstBits written prefix ip bits))
    (λ net. (written : IpAddr) × ((prefix : ℕ) × IsIpText address written × IsNumber 10 digits prefix × FirstBits written prefix net.ip net.bits))

abbrev pub ReadsNet : List ℕ → Option Net → Type 0
ReadsNet text r =
    MatchOption r ((ip : Ip) (bits : ℕ) → ¬ (WritesNet text ip bits)) (λ net. WritesNet text net.ip net.bits)

pub whole_of : (text : List ℕ) (a : IpAddr) (prefix : ℕ) (r : Option Net) → IsIpText text a → prefix ≡ written_width a → NetOf a prefix r → WholeOf text r
whole_of text a prefix None is all none = λ written ip bits other first.
    let P : IpAddr → Type 0 = λ w. FirstBits w (written_width w) ip bits in
    let Q : ℕ → Type 0 = λ n. FirstBits a n ip bits in
    none ip bits (subst Q (sym all) (subst P (IsIpText_unique text written a other is) first))
whole_of text a prefix (Some net) is all found =
    let Q : ℕ → Type 0 = λ n. FirstBits a n net.ip net.bits in
    (a, is, subst Q all found)

pub first_of : (address digits : List ℕ) (a : IpAddr) (prefix : ℕ) (r : Option Net) → IsIpText address a → IsNumber 10 digits prefix → NetOf a prefix r → FirstOf address digits r
first_of address digits a prefix None is number none = λ written n ip bits other value first.
    let P : IpAddr → Type 0 = λ w. FirstBits w n ip bits in
    let Q : ℕ → Type 0 = λ m. FirstBits a m ip bits in
    none ip bits (subst Q (sym value.1 ∙ number.1) (subst P (IsIpText_unique address written a other is) first))
first_of address digits a prefix (Some net) is number found = (a, (prefix, is, number, found))

some_same : (a b : ℕ) → ◌≡◌ {A = Option ℕ} (Some a) (Some b) → a ≡ b
some_same a b e = cc

-- two cuts at the same place are one
same_cut : (xs ys vs ws : List ℕ) → length xs ≡ length ys → xs ++ 47 ∷ vs ≡ ys ++ 47 ∷ ws → (xs ≡ ys) × (vs ≡ ws)
same_cut xs ys vs ws long e = (
  sym (take_at xs (47 ∷ vs) _ refl) ∙ ap₂ take long e ∙ take_at ys (47 ∷ ws) _ refl,
  ap (λ t. drop 1 t) (sym (drop_at xs (47 ∷ vs) _ refl) ∙ ap₂ drop long e ∙ drop_at ys (47 ∷ ws) _ refl),
)

-- a text without a slash is an address alone
pub net_whole : (text : List ℕ) (r : Option Net) → slash_place text ≡ None → WholeOf text r → ReadsNet text r
net_whole text None nowhere none = λ ip bits net.
    elim net.spelled [
      | inl (same, all) ↦
          let Q : ℕ → Type 0 = λ n. FirstBits net.written n ip bits in
          none net.written ip bits (subst (λ t. IsIpText t net.written) (sym same) net.is_address) (subst Q all net.first)
      | inr (digits, split, number) ↦
          none-some _ (sym nowhere ∙ ap slash_place split ∙ slash_at net.address_text digits (slashless_address _ _ net.is_address))
    ]
net_whole text (Some net) nowhere (written, is, first) = record {
  address_text = text;
  written = written;
  prefix = written_width written;
  is_address = is;
  spelled = inl (λ _. text, λ _. written_width written);
  first = first;
}

-- one with a slash is an address and a decimal
pub net_first : (text address digits : List ℕ) (r : Option Net) → text ≡ address ++ 47 ∷ digits → slash_place text ≡ Some (length address) → FirstOf address digits r → ReadsNet text r
net_first text address digits None cut at none = λ ip bits net.
    elim net.spelled [
      | inl (same, all) ↦ none-some _ (sym (slash_nowhere text (slashless_address text _ (subst (λ t. IsIpText t net.written) (sym same) net.is_address))) ∙ at)
      | inr (more, split, number) ↦
          let place = slash_at net.address_text more (slashless_address _ _ net.is_address) in
          let same_length : length net.address_text ≡ length address = some_same _ _ (sym place ∙ ap slash_place (sym split) ∙ at) in
          let parts = same_cut net.address_text address more digits same_length (sym split ∙ cut) in
          none net.written net.prefix ip bits (subst (λ t. IsIpText t net.written) parts.0 net.is_address) (subst (λ t. IsNumber 10 t net.prefix) parts.1 number) net.first
    ]
net_first text address digits (Some net) cut at (written, (prefix, is, number, first)) = record {
  address_text = address;
  written = written;
  prefix = prefix;
  is_address = is;
  spelled = inr (digits, cut, number);
  first = first;
}
