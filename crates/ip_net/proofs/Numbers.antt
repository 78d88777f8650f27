-- The number that an address's parts write, and back.
use Rattle.std.proofs.Common.{◌≡◌, ◌≢◌, ℕ, zero, suc, ◌+◌, ◌-◌, ◌*◌, ◌/◌, ◌%◌, ◌^◌, ◌<◌, ◌≤◌, List, [], ◌∷◌, length, get_or, take, drop, arith, sym, ap, ◌∙◌, refl, Bool, true, false, subst}
use Rattle.std.proofs.Math.Nat as nat
use Rattle.std.proofs.lemmas.Bool.{false_from_ne_true}
use Rattle.std.proofs.lemmas.Nat.{from_be_bytes-to_be_bytes_4}
use Rattle.std.proofs.lemmas.Slice.Eq.{bytes_eq-Decides}
use Rattle.std.proofs.NetLemmas.Arrays.{eight_items}
use Rattle.std.specs.Int.{w32, w128, from_be_bytes, to_be_bytes}
use Rattle.std.specs.Net.Addr.{octets_of, segments_of, IsIpv4Mapped}
use Rattle.std.specs.declared.net.ip_addr.IpAddr.TheVariants as Written
use Rattle.std.proofs.NetLemmas.Texts.{IsDotted-ipv4_text, IsColonHex-ipv6_text}
use Rattle.ip_net.specs.declared.ip.Ip.{Ip}
use Rattle.ip_net.specs.declared.ip.Ip.TheVariants.{V4, V6}
use Rattle.ip_net.specs.Texts.{is_mapped, address_of, ip_print, Writes, Fits, IsUnmapped}

pub is_mapped-true : (segments : List ℕ) → IsIpv4Mapped segments → is_mapped segments ≡ true
is_mapped-true segments h = (bytes_eq-Decides (take 6 segments) (0 ∷ 0 ∷ 0 ∷ 0 ∷ 0 ∷ 0xffff ∷ [])).1 h

pub is_mapped-false : (segments : List ℕ) → (IsIpv4Mapped segments → ⊥) → is_mapped segments ≡ false
is_mapped-false segments never =
    false_from_ne_true (is_mapped segments) (λ h. never ((bytes_eq-Decides (take 6 segments) (0 ∷ 0 ∷ 0 ∷ 0 ∷ 0 ∷ 0xffff ∷ [])).0 h))

-- a number of eight 16-bit digits
abbrev pub joined : ℕ → ℕ → ℕ → ℕ → ℕ → ℕ → ℕ → ℕ → ℕ
joined a b c d e f g h = a * 2 ^ 112 + b * 2 ^ 96 + c * 2 ^ 80 + d * 2 ^ 64 + e * 2 ^ 48 + f * 2 ^ 32 + g * 2 ^ 16 + h

two_bytes : (s : ℕ) → s / 256 * 256 + s % 256 ≡ s
two_bytes s = omega arith

sixteen : (a₁ a₀ b₁ b₀ c₁ c₀ d₁ d₀ e₁ e₀ f₁ f₀ g₁ g₀ h₁ h₀ a b c d e f g h : ℕ)
    → a₁ * 256 + a₀ ≡ a → b₁ * 256 + b₀ ≡ b → c₁ * 256 + c₀ ≡ c → d₁ * 256 + d₀ ≡ d
    → e₁ * 256 + e₀ ≡ e → f₁ * 256 + f₀ ≡ f → g₁ * 256 + g₀ ≡ g → h₁ * 256 + h₀ ≡ h
    → from_be_bytes w128 (a₁ ∷ a₀ ∷ b₁ ∷ b₀ ∷ c₁ ∷ c₀ ∷ d₁ ∷ d₀ ∷ e₁ ∷ e₀ ∷ f₁ ∷ f₀ ∷ g₁ ∷ g₀ ∷ h₁ ∷ h₀ ∷ []) ≡ joined a b c d e f g h
sixteen a₁ a₀ b₁ b₀ c₁ c₀ d₁ d₀ e₁ e₀ f₁ f₀ g₁ g₀ h₁ h₀ a b c d e f g h p q r s t u v w = omega arith

-- what eight segments are worth
pub worth : (a b c d e f g h : ℕ) → from_be_bytes w128 (octets_of (a ∷ b ∷ c ∷ d ∷ e ∷ f ∷ g ∷ h ∷ [])) ≡ joined a b c d e f g h
worth a b c d e f g h =
    sixteen _ _ _ _ _ _ _ _ _ _ _ _ _ _ _ _ a b c d e f g h (two_bytes a) (two_bytes b) (two_bytes c) (two_bytes d) (two_bytes e) (two_bytes f) (two_bytes g) (two_bytes h)

-- where what stands before the last 32 bits is 0xffff, the segments are those of a mapped address
high_segments : (a b c d e f g h n : ℕ) → f < 2 ^ 16 → g < 2 ^ 16 → h < 2 ^ 16
    → n ≡ joined a b c d e f g h → n / 2 ^ 32 ≡ 0xffff → IsIpv4Mapped (a ∷ b ∷ c ∷ d ∷ e ∷ f ∷ g ∷ h ∷ [])
high_segments a b c d e f g h n fits_f fits_g fits_h is high =
    let top : n ≡ 4294967296 * 65535 + n % 4294967296 = omega arith in
    let below : n % 4294967296 < 4294967296 = omega arith in
    let is_a : a ≡ 0 = omega arith in
    let is_b : b ≡ 0 = omega arith in
    let is_c : c ≡ 0 = omega arith in
    let is_d : d ≡ 0 = omega arith in
    let is_e : e ≡ 0 = omega arith in
    let is_f : f ≡ 65535 = omega arith in
    cc

-- and those of a mapped address put 0xffff there
mapped_high : (a b c d e f g h n : ℕ) → g < 2 ^ 16 → h < 2 ^ 16 → n ≡ joined a b c d e f g h
    → IsIpv4Mapped (a ∷ b ∷ c ∷ d ∷ e ∷ f ∷ g ∷ h ∷ []) → n / 2 ^ 32 ≡ 0xffff
mapped_high a b c d e f g h n fits_g fits_h is mapped =
    let is_a : a ≡ 0 = ap (λ xs. get_or xs 0 0) mapped in
    let is_b : b ≡ 0 = ap (λ xs. get_or xs 1 0) mapped in
    let is_c : c ≡ 0 = ap (λ xs. get_or xs 2 0) mapped in
    let is_d : d ≡ 0 = ap (λ xs. get_or xs 3 0) mapped in
    let is_e : e ≡ 0 = ap (λ xs. get_or xs 4 0) mapped in
    let is_f : f ≡ 65535 = ap (λ xs. get_or xs 5 0) mapped in
    omega arith

-- the number of an address that isn't mapped doesn't look mapped
pub unmapped : (segments : List ℕ) (n : ℕ) → length segments ≡ 8 → ((k : ℕ) → get_or segments k 0 < 2 ^ 16)
    → n ≡ from_be_bytes w128 (octets_of segments) → (IsIpv4Mapped segments → ⊥) → n / 2 ^ 32 ≢ 0xffff
unmapped segments n eight fits is never high =
    let spread = eight_items segments eight in
    let value : n ≡ from_be_bytes w128 (octets_of (get_or segments 0 0 ∷ get_or segments 1 0 ∷ get_or segments 2 0 ∷ get_or segments 3 0 ∷ get_or segments 4 0 ∷ get_or segments 5 0 ∷ get_or segments 6 0 ∷ get_or segments 7 0 ∷ [])) =
    is ∙ ap (λ s. from_be_bytes w128 (octets_of s)) spread in
    never (subst IsIpv4Mapped (sym spread) (high_segments _ _ _ _ _ _ _ _ n (fits 5) (fits 6) (fits 7) (value ∙ worth _ _ _ _ _ _ _ _) high))

-- a quotient is two bytes and the quotient by 65536 times as much
low_two : (m : ℕ) → m ≡ m / 256 % 256 * 256 + m % 256 + m / 65536 * 65536
low_two m = omega arith

top : (m : ℕ) → m < 65536 → m ≡ m / 256 % 256 * 256 + m % 256
top m small = omega arith

digit : (n p q r : ℕ) → p * 256 ≡ q → p * 65536 ≡ r → n / p ≡ n / q % 256 * 256 + n / p % 256 + n / r * 65536
digit n p q r is_q is_r =
    let one : n / p / 256 ≡ n / q = rw (← is_q) (nat.div-div-eq-div-mul n p 256) in
    let two : n / p / 65536 ≡ n / r = rw (← is_r) (nat.div-div-eq-div-mul n p 65536) in
    low_two (n / p) ∙ ap (λ x. x % 256 * 256 + n / p % 256 + n / p / 65536 * 65536) one ∙ ap (λ x. n / q % 256 * 256 + n / p % 256 + x * 65536) two

chain : (n a b c d e f g h p q r s t u v : ℕ) → n ≡ h + p * 65536 → p ≡ g + q * 65536 → q ≡ f + r * 65536 → r ≡ e + s * 65536
    → s ≡ d + t * 65536 → t ≡ c + u * 65536 → u ≡ b + v * 65536 → v ≡ a → joined a b c d e f g h ≡ n
chain n a b c d e f g h p q r s t u v at_0 at_1 at_2 at_3 at_4 at_5 at_6 at_7 = omega arith

-- the highest two bytes of a number of 128 bits are its quotient
last : (n : ℕ) → n < 2 ^ 128 → n / 5192296858534827628530496329220096 / 256 ≡ n / 1329227995784915872903807060280344576
    → n / 5192296858534827628530496329220096 ≡ n / 1329227995784915872903807060280344576 % 256 * 256 + n / 5192296858534827628530496329220096 % 256
last n fits split =
    let m = n / 5192296858534827628530496329220096 in
    let small : m < 65536 = omega arith in
    rw (← split) (top m small)

-- a number of 128 bits is that of its segments
pub segments_of_number : (n : ℕ) → n < 2 ^ 128 → from_be_bytes w128 (octets_of (segments_of (to_be_bytes w128 n))) ≡ n
segments_of_number n fits =
    worth _ _ _ _ _ _ _ _
    ∙ chain n _ _ _ _ _ _ _ _ (n / 65536) (n / 4294967296) (n / 281474976710656) (n / 18446744073709551616) (n / 1208925819614629174706176) (n / 79228162514264337593543950336) (n / 5192296858534827628530496329220096)
    (low_two n)
    (digit n 65536 16777216 4294967296 refl refl)
    (digit n 4294967296 1099511627776 281474976710656 refl refl)
    (digit n 281474976710656 72057594037927936 18446744073709551616 refl refl)
    (digit n 18446744073709551616 4722366482869645213696 1208925819614629174706176 refl refl)
    (digit n 1208925819614629174706176 309485009821345068724781056 79228162514264337593543950336 refl refl)
    (digit n 79228162514264337593543950336 20282409603651670423947251286016 5192296858534827628530496329220096 refl refl)
    (last n fits (nat.div-div-eq-div-mul n 5192296858534827628530496329220096 256))

-- the bytes of a number are bytes
bytes_16 : (n k : ℕ) → get_or (segments_of (to_be_bytes w128 n)) k 0 < 2 ^ 16
bytes_16 n zero = omega arith
bytes_16 n (suc zero) = omega arith
bytes_16 n (suc (suc zero)) = omega arith
bytes_16 n (suc (suc (suc zero))) = omega arith
bytes_16 n (suc (suc (suc (suc zero)))) = omega arith
bytes_16 n (suc (suc (suc (suc (suc zero))))) = omega arith
bytes_16 n (suc (suc (suc (suc (suc (suc zero)))))) = omega arith
bytes_16 n (suc (suc (suc (suc (suc (suc (suc zero))))))) = omega arith
bytes_16 n (suc (suc (suc (suc (suc (suc (suc (suc k)))))))) = omega arith

bytes_4 : (n k : ℕ) → get_or (to_be_bytes w32 n) k 0 < 2 ^ 8
bytes_4 n zero = omega arith
bytes_4 n (suc zero) = omega arith
bytes_4 n (suc (suc zero)) = omega arith
bytes_4 n (suc (suc (suc zero))) = omega arith
bytes_4 n (suc (suc (suc (suc k)))) = omega arith

-- the print of an IPv4 address is read as it
print_v4 : (n : ℕ) → n < 2 ^ 32 → Writes (ip_print (V4 n)) (V4 n)
print_v4 n fits =
    (Written.V4 (record { octets = to_be_bytes w32 n }), IsDotted-ipv4_text (to_be_bytes w32 n) refl (bytes_4 n), ap V4 (from_be_bytes-to_be_bytes_4 n fits))

-- and that of an IPv6 address that isn't mapped
print_v6 : (n : ℕ) → n < 2 ^ 128 → n / 2 ^ 32 ≢ 0xffff → Writes (ip_print (V6 n)) (V6 n)
print_v6 n fits plain =
    let segments = segments_of (to_be_bytes w128 n) in
    let value = segments_of_number n fits in
    let no : is_mapped segments ≡ false =
    is_mapped-false segments (λ h. plain (mapped_high _ _ _ _ _ _ _ _ n (bytes_16 n 6) (bytes_16 n 7) (sym value ∙ worth _ _ _ _ _ _ _ _) h)) in
    let is : address_of (Written.V6 (record { segments = segments })) ≡ V6 n = rw no (ap V6 value) in
    (Written.V6 (record { segments = segments }), IsColonHex-ipv6_text segments refl (bytes_16 n), is)

pub print_read : (ip : Ip) → Fits ip → IsUnmapped ip → Writes (ip_print ip) ip
print_read (V4 n) fits plain = print_v4 n fits
print_read (V6 n) fits plain = print_v6 n fits plain
