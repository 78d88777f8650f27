-- How many bits an address has, and which addresses a network has.
use Rattle.std.specs.Prelude.{◌≡◌, ℕ, ◌-◌, ◌/◌, ◌^◌}
use Rattle.ip_net.specs.declared.ip.Ip.{Ip}
use Rattle.ip_net.specs.declared.ip.Ip.TheVariants.{V4, V6}

-- the bits of an address of this family
abbrev pub width : Ip → ℕ
width (V4 _) = 32
width (V6 _) = 128

-- the first bits of two numbers of so many bits are equal: what stands before the last bits is
abbrev pub ShareFirst : ℕ → ℕ → ℕ → ℕ → Type 0
ShareFirst all bits a b = a / 2 ^ (all - bits) ≡ b / 2 ^ (all - bits)

-- the address has the network's family and its first bits
abbrev pub InNetwork : Ip → ℕ → Ip → Type 0
InNetwork (V4 network) bits (V4 address) = ShareFirst 32 bits network address
InNetwork (V4 _) bits (V6 _) = ⊥
InNetwork (V6 _) bits (V4 _) = ⊥
InNetwork (V6 network) bits (V6 address) = ShareFirst 128 bits network address
