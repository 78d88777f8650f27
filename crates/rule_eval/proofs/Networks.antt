-- A text writes at most one network.
use Rattle.std.proofs.Common.{◌≡◌, ◌↔◌, ℕ, ◌∷◌, ◌++◌, List, length, take, drop, sym, ap, ap₂, refl, ◌∙◌, subst, Option, Some, Bool, true, IsTrue, inl, inr, arith, take_at, drop_at}
use Rattle.std.proofs.Math.Logic.{∥∥₁_elim}
use Rattle.std.proofs.lemmas.Option.{none-some}
use Rattle.std.proofs.Math.Bool.{Bool-set}
use Rattle.std.proofs.NetLemmas.Theorems.{IsIpText_unique}
use Rattle.std.specs.Net.Grammar.{IsIpText, IsNumber}
use Rattle.std.specs.declared.net.ip_addr.IpAddr.{IpAddr}
use Rattle.ip_net.specs.declared.ip.Ip.{Ip}
use Rattle.ip_net.specs.Texts.{FirstBits, WritesNet, WritesPrefix, written_width}
use Rattle.ip_net.specs.Width.{InNetwork}
use Rattle.ip_net.proofs.Slashes.{slashless_address, slash_place, slash_nowhere, slash_at}
use Rattle.rule_eval.specs.Truth.{IsPeerIn}

some_same : (a b : ℕ) → ◌≡◌ {A = Option ℕ} (Some a) (Some b) → a ≡ b
some_same a b e = cc

same_cut : (xs ys vs ws : List ℕ) → length xs ≡ length ys → xs ++ 47 ∷ vs ≡ ys ++ 47 ∷ ws → (xs ≡ ys) × (vs ≡ ws)
same_cut xs ys vs ws long e = (
  sym (take_at xs (47 ∷ vs) _ refl) ∙ ap₂ take long e ∙ take_at ys (47 ∷ ws) _ refl,
  ap (λ t. drop 1 t) (sym (drop_at xs (47 ∷ vs) _ refl) ∙ ap₂ drop long e ∙ drop_at ys (47 ∷ ws) _ refl),
)

-- one address and one prefix are one network
one_net : (v w : IpAddr) (p q : ℕ) (ip ip' : Ip) (bits bits' : ℕ) → v ≡ w → p ≡ q → FirstBits v p ip bits → FirstBits w q ip' bits' → (ip ≡ ip') × (bits ≡ bits')
one_net v w p q ip ip' bits bits' same alike f g =
    let h : FirstBits w q ip bits = subst (λ x. FirstBits x q ip bits) same (subst (λ n. FirstBits v n ip bits) alike f) in
    (sym h.ip_is ∙ g.ip_is, omega (arith, h.bits_are, g.bits_are))

-- the address text and the prefix of one text are one
one_spelling : (text a b : List ℕ) (v w : IpAddr) (m n p q : ℕ) → IsIpText a v → IsIpText b w → WritesPrefix text a m p → WritesPrefix text b n q → (a ≡ b) × (m ≡ n → p ≡ q)
one_spelling text a b v w m n p q is is' (inl (e, all)) (inl (e', all')) = (sym e ∙ e', λ k. all ∙ k ∙ sym all')
one_spelling text a b v w m n p q is is' (inl (e, all)) (inr (digits, split, number)) =
    absurd (none-some _ (sym (slash_nowhere text (slashless_address text v (subst (λ t. IsIpText t v) (sym e) is))) ∙ ap slash_place split ∙ slash_at b digits (slashless_address b w is')))
one_spelling text a b v w m n p q is is' (inr (digits, split, number)) (inl (e, all)) =
    absurd (none-some _ (sym (slash_nowhere text (slashless_address text w (subst (λ t. IsIpText t w) (sym e) is'))) ∙ ap slash_place split ∙ slash_at a digits (slashless_address a v is)))
one_spelling text a b v w m n p q is is' (inr (digits, split, number)) (inr (more, split', number')) =
    let long : length a ≡ length b = some_same _ _ (sym (slash_at a digits (slashless_address a v is)) ∙ ap slash_place (sym split) ∙ ap slash_place split' ∙ slash_at b more (slashless_address b w is')) in
    let parts = same_cut a b digits more long (sym split ∙ split') in
    let moved : IsNumber 10 more p = subst (λ d. IsNumber 10 d p) parts.1 number in
    (parts.0, λ k. sym moved.1 ∙ number'.1)

pub one_network : (text : List ℕ) (ip ip' : Ip) (bits bits' : ℕ) → WritesNet text ip bits → WritesNet text ip' bits' → (ip ≡ ip') × (bits ≡ bits')
one_network text ip ip' bits bits' a b =
    let spelling = one_spelling text a.address_text b.address_text a.written b.written (written_width a.written) (written_width b.written) a.prefix b.prefix a.is_address b.is_address a.spelled b.spelled in
    let same : a.written ≡ b.written = IsIpText_unique b.address_text a.written b.written (subst (λ t. IsIpText t a.written) spelling.0 a.is_address) b.is_address in
    one_net a.written b.written a.prefix b.prefix ip ip' bits bits' same (spelling.1 (ap written_width same)) a.first b.first

pub peer_is : (text : List ℕ) (ip : Ip) (bits : ℕ) (peer : Ip) (r : Bool) → ∥ WritesNet text ip bits ∥₁ → (IsTrue r ↔ InNetwork ip bits peer) → IsTrue r ↔ IsPeerIn text peer
peer_is text ip bits peer r written e = (
  (λ t. (ip, (bits, written, e.0 t))),
  (λ (other, (count, writes, within)).
      ∥∥₁_elim written (Bool-set r true) (λ w. ∥∥₁_elim writes (Bool-set r true) (λ v.
      let same = one_network text other ip count bits v w in
      e.1 (subst (λ n. InNetwork ip n peer) same.1 (subst (λ i. InNetwork i count peer) same.0 within))))),
)
