-- What a file's bytes are as TOML.
use Rattle.std.specs.Prelude.{◌≡◌, ℕ, List, Some, IsUtf8}
use Rattle.toml.specs.Data.{Members}
use Rattle.toml.specs.Parse.{parse_document}
use Rattle.file_provider.specs.declared.document.ReadTreeFault.{ReadTreeFault}
use Rattle.file_provider.specs.declared.document.ReadTreeFault.TheVariants.{NotToml, Memory}

-- the bytes are text, and the text is this document
abbrev pub IsDocument : List ℕ → Members → Type 0
IsDocument bytes t = IsUtf8 bytes × (parse_document bytes ≡ Some t)

-- P, where the bytes were refused as no TOML
abbrev pub IfNotToml : Type 0 → ReadTreeFault → Type 0
IfNotToml P NotToml = P
IfNotToml P Memory = Unit {0}
