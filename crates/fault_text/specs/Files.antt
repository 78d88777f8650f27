-- The text of a fault of a configuration file.
use Rattle.std.specs.Prelude.{ℕ, List, ◌++◌, codes}
use Rattle.dyn_config.specs.declared.fault.ConfigFault.{ConfigFault}
use Rattle.dyn_config.specs.declared.fault.ConfigFault.TheVariants as fault
use Rattle.file_provider.specs.declared.config.FileFault.{FileFault}
use Rattle.file_provider.specs.declared.config.FileFault.TheVariants as file

-- a name, and the path to the place
abbrev pub located_text : List ℕ → List ℕ → List ℕ
located_text name path = name ++ path

abbrev pub config_fault_text : ConfigFault → List ℕ
config_fault_text (fault.Unknown path) = located_text (codes "config Unknown ") path
config_fault_text (fault.Twice path) = located_text (codes "config Twice ") path
config_fault_text (fault.Kind path) = located_text (codes "config Kind ") path
config_fault_text (fault.Missing path) = located_text (codes "config Missing ") path
config_fault_text (fault.Range path) = located_text (codes "config Range ") path
config_fault_text (fault.BadName path) = located_text (codes "config BadName ") path
config_fault_text (fault.TooMany path) = located_text (codes "config TooMany ") path
config_fault_text fault.Memory = codes "config Memory"

abbrev pub file_fault_text : FileFault → List ℕ
file_fault_text file.NotToml = codes "config NotToml"
file_fault_text (file.Config f) = config_fault_text f
file_fault_text file.Memory = codes "config Memory"
