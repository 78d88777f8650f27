-- No address has a slash in its text, so the first slash of a network stands before its decimal.
use Rattle.std.proofs.Common.{◌≡◌, ◌≢◌, ℕ, zero, suc, ◌+◌, ◌-◌, ◌<◌, ◌≤◌, ◌^◌, ◌==◌, nat_lt, Bool, true, false, List, [], ◌∷◌, ◌++◌, length, take, drop, codes, arith, sym, ap, ap₂, ◌∙◌, refl, subst, Option, Some, None, inl, inr, ne_eqb, lt-ltb, le-ltb, decimal, length-append, add-one, get_or, eqb-true, take-append-drop, length-take-le, drop-cons}
use Rattle.std.proofs.lemmas.List.Quantifiers.{position-Some}
use Rattle.std.proofs.lemmas.Fmt.{decimal_is_IsNumeral}
use Rattle.std.proofs.lemmas.List.{take_rest}
use Rattle.std.specs.List.{position, position_or_len}
use Rattle.std.specs.Char.{digit_value}
use Rattle.std.specs.Str.Parse.{AllDigits}
use Rattle.std.specs.Net.Grammar.{IsDotted, IsGroup, IsGroupsAfter, IsGroups, IsColonHex, IsIpText}
use Rattle.std.specs.declared.net.ip_addr.IpAddr.{IpAddr}
use Rattle.std.specs.declared.net.ip_addr.IpAddr.TheVariants.{V4, V6}

-- the text has no slash
abbrev pub Slashless : List ℕ → Type 0
Slashless [] = Unit {0}
Slashless (c ∷ cs) = (c ≢ 47) × Slashless cs

slashless-append : (xs ys : List ℕ) → Slashless xs → Slashless ys → Slashless (xs ++ ys)
slashless-append [] ys h k = k
slashless-append (x ∷ xs) ys h k = (h.0, slashless-append xs ys h.1 k)

slashless_digits : (radix : ℕ) (ds : List ℕ) → radix ≤ 16 → AllDigits radix ds → Slashless ds
slashless_digits radix [] small h = tt
slashless_digits radix (c ∷ ds) small h =
    ((λ same. let at : digit_value 47 < radix = subst (λ x. digit_value x < radix) same h.0 in omega arith), slashless_digits radix ds small h.1)

slashless-decimal : (n : ℕ) → n < 256 → Slashless (decimal n)
slashless-decimal n fits = slashless_digits 10 (decimal n) (omega arith) (decimal_is_IsNumeral n (omega arith)).0.1

slashless_dotted : (text octets : List ℕ) → IsDotted text octets → Slashless text
slashless_dotted text octets h =
    let dot : Slashless (46 ∷ []) = ((λ e. omega arith), tt) in
    let (fit_a, fit_b, fit_c, fit_d) = h.fit in
    let front = slashless-append _ _ (slashless-append _ _ (slashless-decimal h.a fit_a) dot) (slashless-decimal h.b fit_b) in
    let more = slashless-append _ _ (slashless-append _ _ front dot) (slashless-decimal h.c fit_c) in
    subst Slashless (sym h.spelled) (slashless-append _ _ (slashless-append _ _ more dot) (slashless-decimal h.d fit_d))

slashless_groups : (ipv4 : Bool) (lead text segments : List ℕ) → Slashless lead → IsGroupsAfter ipv4 lead text segments → Slashless text
slashless_groups ipv4 lead text [] plain h = subst Slashless (sym h) tt
slashless_groups ipv4 lead text (s ∷ segments) plain h =
    elim h [
      | inl (group, rest, spelled, is_group, more) ↦
          let colon : Slashless (58 ∷ []) = ((λ e. omega arith), tt) in
          let after = slashless_groups ipv4 (58 ∷ []) rest segments colon more in
          let digits = slashless_digits 16 group (omega arith) is_group.0.0.1 in
          subst Slashless (sym spelled) (slashless-append _ _ (slashless-append _ _ plain digits) after)
      | inr (last, octets, _, spelled, dotted, _) ↦
          subst Slashless (sym spelled) (slashless-append _ _ plain (slashless_dotted last octets dotted))
    ]

slashless_colon_hex : (text segments : List ℕ) → IsColonHex text segments → Slashless text
slashless_colon_hex text segments h =
    elim h [
      | inl groups ↦ slashless_groups true [] text segments tt groups.0
      | inr elided ↦
          let colons : Slashless (58 ∷ 58 ∷ []) = ((λ e. omega arith), ((λ e. omega arith), tt)) in
          let head = slashless_groups false [] elided.head_text elided.head tt elided.head_groups in
          let tail = slashless_groups true [] elided.tail_text elided.tail tt elided.tail_groups in
          subst Slashless (sym elided.spelled) (slashless-append _ _ (slashless-append _ _ head colons) tail)
    ]

pub slashless_address : (text : List ℕ) (a : IpAddr) → IsIpText text a → Slashless text
slashless_address text (V4 a) h = slashless_dotted text _ h
slashless_address text (V6 a) h = slashless_colon_hex text _ h

-- where the first slash stands
abbrev pub slash_place : List ℕ → Option ℕ
slash_place text = position (λ b. b == 47) text

place_none : (xs : List ℕ) → Slashless xs → position_or_len (λ b. b == 47) xs ≡ length xs
place_none [] h = refl
place_none (x ∷ xs) h =
    let more = place_none xs h.1 in
    rw (ne_eqb x 47 h.0) (omega arith)

place_some : (xs ys : List ℕ) → Slashless xs → position_or_len (λ b. b == 47) (xs ++ 47 ∷ ys) ≡ length xs
place_some [] ys h = refl
place_some (x ∷ xs) ys h =
    let more = place_some xs ys h.1 in
    rw (ne_eqb x 47 h.0) (omega arith)

pub slash_nowhere : (xs : List ℕ) → Slashless xs → slash_place xs ≡ None
slash_nowhere xs h = rw (place_none xs h, le-ltb (length xs) (length xs) (omega arith))

pub slash_at : (xs ys : List ℕ) → Slashless xs → slash_place (xs ++ 47 ∷ ys) ≡ Some (length xs)
slash_at xs ys h =
    let inside : length xs < length (xs ++ 47 ∷ ys) = omega (arith, length-append xs (47 ∷ ys)) in
    rw (place_some xs ys h, lt-ltb (length xs) _ inside)

-- where the first slash stands at i, the text is what stands before it, a slash, and the rest
pub cut_at : (text front back : List ℕ) (i : ℕ) → slash_place text ≡ Some i → front ≡ take i text → back ≡ drop i text
    → (text ≡ front ++ 47 ∷ take (length back - 1) (drop 1 back)) × (i ≡ length front)
cut_at text front back i at is_front is_back =
    let (inside, passes, _) = position-Some (λ b. b == 47) text i 0 at in
    let here : get_or text i 0 ≡ 47 = eqb-true (get_or text i 0) 47 passes in
    let opened : back ≡ 47 ∷ drop (suc i) text = is_back ∙ drop-cons text i 0 inside ∙ ap (λ c. c ∷ drop (suc i) text) here in
    let rest : take (length back - 1) (drop 1 back) ≡ drop (suc i) text =
    take_rest back 1 ∙ ap (λ t. drop 1 t) opened in (
      sym (take-append-drop i text) ∙ ap₂ ◌++◌ (sym is_front) (sym is_back ∙ opened ∙ ap (λ t. 47 ∷ t) (sym rest)),
      sym (ap length is_front ∙ length-take-le i text (omega arith)),
    )
