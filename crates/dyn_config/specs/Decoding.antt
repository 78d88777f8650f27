-- What decoding a tree answers.
use Rattle.std.specs.Prelude.{◌≡◌, ℕ, List, drop, Option, Some, None, option_map, Result, Ok, Err, ⊤}
use Rattle.field_tree.specs.declared.tree.Tree.{Tree}
use Rattle.field_tree.specs.declared.values.Style.{Style}
use Rattle.dyn_config.specs.declared.found.Cause.{Cause}
use Rattle.dyn_config.specs.declared.found.Cause.TheVariants as cause
use Rattle.dyn_config.specs.declared.found.Fault.{Fault}
use Rattle.dyn_config.specs.declared.fault.ConfigFault.{ConfigFault}
use Rattle.dyn_config.specs.declared.fault.ConfigFault.TheVariants as told
use Rattle.dyn_config.specs.declared.config.Config.{Config}
use Rattle.dyn_config.specs.Schema.{configuration}
use Rattle.dyn_config.specs.Readings.{routers_of, services_of, middlewares_of}

abbrev pub told_as : Cause → List ℕ → ConfigFault
told_as cause.Unknown path = told.Unknown path
told_as cause.Twice path = told.Twice path
told_as cause.Kind path = told.Kind path
told_as cause.Missing path = told.Missing path
told_as cause.Range path = told.Range path
told_as cause.BadName path = told.BadName path
told_as cause.TooMany path = told.TooMany path

-- A fault as it is told: its path begins with a key, not with the dot before it.
abbrev pub public_fault : Fault → ConfigFault
public_fault fault = told_as fault.cause (drop 1 fault.path)

-- The fault that the walk meets first, where there is one.
abbrev pub first_fault : Style → Tree → Option ConfigFault
first_fault style tree = option_map public_fault (configuration style tree)

-- It is told, or memory ran out.
abbrev pub IsTold : Fault → ConfigFault → Type 0
IsTold fault told.Memory = ⊤
IsTold fault result = result ≡ public_fault fault

-- What the options of the tree say.
pub record IsReadFrom (style : Style) (tree : Tree) (config : Config) : Type 0 where
  pub routers : config.routers ≡ routers_of style tree
  pub services : config.services ≡ services_of style tree
  pub middlewares : config.middlewares ≡ middlewares_of style tree

-- A configuration exactly where the walk meets no fault, and what the tree says; else the first fault.
abbrev pub IsDecoded : Style → Tree → Result Config ConfigFault → Type 0
IsDecoded style tree (Ok config) = (first_fault style tree ≡ None) × IsReadFrom style tree config
IsDecoded style tree (Err told.Memory) = ⊤
IsDecoded style tree (Err fault) = first_fault style tree ≡ Some fault
