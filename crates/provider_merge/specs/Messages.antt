-- What a message changes.
use Rattle.std.specs.Prelude.{◌≡◌, ◌≢◌, ◌≤◌, ℕ, ◌==◌, if◌then◌else◌, Option, Some, None}
use Rattle.provider_merge.specs.declared.message.Message.{Message}
use Rattle.provider_merge.specs.declared.providers.Latest.{Latest}
use Rattle.provider_merge.specs.declared.latest.Changed.{Changed}
use Rattle.provider_merge.specs.declared.latest.Changed.TheVariants.{No, Yes}
use Rattle.dyn_config.specs.declared.config.Config.{Config}
use Rattle.dyn_config.specs.declared.merged.Merged.{Merged}
use Rattle.provider_merge.specs.Merging.{DeclaresNothing, IsMerged}

-- the latest message of a provider
abbrev pub message_of : Latest → ℕ → Option Message
message_of latest provider = if provider == 0 then latest.file else latest.consul

-- the message stands in its provider's place, and the other provider's is the same
pub record IsTaken (old : Latest) (message : Message) (new : Latest) : Type 0 where
  pub taken : message_of new message.provider ≡ Some message
  pub other : (provider : ℕ) → provider ≤ 1 → provider ≢ message.provider → message_of new provider ≡ message_of old provider

-- a first message is news where it declares something, a later one where it differs from the latest
abbrev pub IsNewsAfter : Option Message → Message → Type 0
IsNewsAfter None message = ¬ (DeclaresNothing message.config)
IsNewsAfter (Some held) message = held.config ≢ message.config

abbrev pub IsNews : Latest → Message → Type 0
IsNews latest message = IsNewsAfter (message_of latest message.provider) message

-- what is no news changes nothing; news replaces the latest message of its provider as a whole
abbrev pub IsAccepted : Latest → Message → Changed → Latest → Type 0
IsAccepted old message No new = ¬ (IsNews old message) × (new ≡ old)
IsAccepted old message Yes new = IsNews old message × IsTaken old message new

-- the configuration of a message, or the empty one where there is none
abbrev pub IsConfigOf : Option Message → Config → Type 0
IsConfigOf None config = DeclaresNothing config
IsConfigOf (Some message) config = config ≡ message.config

-- the union of the latest messages, under qualified names
abbrev pub IsMergedOf : Latest → Merged → Type 0
IsMergedOf latest merged =
    (file : Config) × (consul : Config) × IsConfigOf latest.file file × IsConfigOf latest.consul consul × IsMerged file consul merged
