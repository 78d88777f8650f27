-- Whose message it is.
use Rattle.std.specs.Prelude.{ℕ, ◌==◌, Bool, true, Option, Some, None}
use Rattle.provider_merge.specs.declared.message.Message.{Message}

-- it is the provider's, where there is one
abbrev pub is_of : ℕ → Option Message → Bool
is_of provider None = true
is_of provider (Some message) = message.provider == provider
