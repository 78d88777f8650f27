-- What the providers declare, as one.
use Rattle.std.specs.Prelude.{◌≡◌, ℕ, List, [], ◌++◌, map}
use Rattle.std.specs.List.Sorted.{IsPermutation}
use Rattle.dyn_config.specs.Names.{qualified}
use Rattle.dyn_config.specs.declared.config.Config.{Config}
use Rattle.dyn_config.specs.declared.merged.Entry.{Entry}
use Rattle.dyn_config.specs.declared.merged.Merged.{Merged}

-- what a provider declares under a name, under its qualified name
abbrev pub entry_of : {D : Type 0} → ℕ → List ℕ × D → Entry D
entry_of provider declared = record { name = qualified provider declared.0; provider = provider; def = declared.1 }

abbrev pub entries_of : {D : Type 0} → ℕ → List (List ℕ × D) → List (Entry D)
entries_of provider declared = map (entry_of provider) declared

-- the entries are those of both providers, in some order: a `Merged` keeps that they rise by their names, which fixes it
abbrev pub IsUnion : {D : Type 0} → (file consul : List (List ℕ × D)) → List (Entry D) → Type 0
IsUnion file consul entries = IsPermutation (entries_of 0 file ++ entries_of 1 consul) entries

-- everything that both providers declare, and nothing else
pub record IsMerged (file consul : Config) (m : Merged) : Type 0 where
  pub routers : IsUnion file.routers consul.routers m.routers
  pub services : IsUnion file.services consul.services m.services
  pub middlewares : IsUnion file.middlewares consul.middlewares m.middlewares

-- it declares nothing
pub record DeclaresNothing (config : Config) : Type 0 where
  pub routers : config.routers ≡ []
  pub services : config.services ≡ []
  pub middlewares : config.middlewares ≡ []

-- what the file declares, and no other provider anything
abbrev pub IsFileAlone : Config → Merged → Type 0
IsFileAlone file m = (none : Config) × DeclaresNothing none × IsMerged file none m
