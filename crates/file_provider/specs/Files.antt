-- What a file's bytes are as a configuration.
use Rattle.std.specs.Prelude.{◌≡◌, ◌≢◌, ℕ, ◌<◌, ◌≤◌, List, length, Option, IfSome, Result, Ok, Err}
use Rattle.toml.specs.Data.{Members}
use Rattle.field_tree.specs.declared.tree.Tree.{Tree}
use Rattle.field_tree.specs.declared.values.Style.TheVariants.{Typed}
use Rattle.dyn_config.specs.declared.config.Config.{Config}
use Rattle.dyn_config.specs.declared.fault.ConfigFault.TheVariants as config
use Rattle.dyn_config.specs.Decoding.{IsDecoded}
use Rattle.file_provider.specs.Shape.{table, fields_of}
use Rattle.file_provider.specs.View.{view}
use Rattle.file_provider.specs.Documents.{IsDocument}
use Rattle.file_provider.specs.declared.config.FileFault.{FileFault}
use Rattle.file_provider.specs.declared.config.FileFault.TheVariants as file
use Rattle.file_provider.specs.declared.config.PollFault.{PollFault}
use Rattle.file_provider.specs.declared.config.PollFault.TheVariants as poll

-- the tree is that of the document which the bytes are
abbrev pub IsTreeOf : List ℕ → Tree → Type 0
IsTreeOf bytes tree = (document : Members) × IsDocument bytes document × (view tree ≡ table (fields_of document))

-- the answer is that of decoding the tree of the bytes; they are no TOML text; or memory ran out
abbrev pub IsFileConfig : List ℕ → Result Config FileFault → Type 0
IsFileConfig bytes (Ok config) = (tree : Tree) × IsTreeOf bytes tree × IsDecoded Typed tree (Ok config)
IsFileConfig bytes (Err (file.Config fault)) = (fault ≢ config.Memory) × (tree : Tree) × IsTreeOf bytes tree × IsDecoded Typed tree (Err fault)
IsFileConfig bytes (Err file.NotToml) = (document : Members) → ¬ (IsDocument bytes document)
IsFileConfig bytes (Err file.Memory) = Unit {0}

-- a source gave these bytes to its end, and they keep the limit: all that it had left, where it tells that
pub record WasRead (left : Option (List ℕ)) (limit : ℕ) (bytes : List ℕ) : Type 0 where
  pub all : IfSome left (λ had. bytes ≡ had)
  pub fits : length bytes ≤ limit

-- a source had more left than the limit, where it tells that
abbrev pub IsOver : Option (List ℕ) → ℕ → Type 0
IsOver left limit = IfSome left (λ had. limit < length had)

-- how many bytes a configuration file may have
abbrev pub file_limit : ℕ
file_limit = 1048576

-- the answer on all the bytes, which were read to the source's end; the source failed; or it gave more than 1 MiB
abbrev pub IsPolled : Option (List ℕ) → (ended failed : Type 0) → Result Config PollFault → Type 0
IsPolled left ended failed (Ok config) = (bytes : List ℕ) × WasRead left file_limit bytes × ended × IsFileConfig bytes (Ok config)
IsPolled left ended failed (Err (poll.File fault)) =
    (fault ≢ file.Memory) × (bytes : List ℕ) × WasRead left file_limit bytes × ended × IsFileConfig bytes (Err fault)
IsPolled left ended failed (Err poll.ReadFault) = failed
IsPolled left ended failed (Err poll.TooLong) = IsOver left file_limit
IsPolled left ended failed (Err poll.Memory) = Unit {0}
