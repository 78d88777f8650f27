-- What a configuration is built to.
use Rattle.std.specs.Prelude.{◌≡◌, ℕ, [], filter, map}
use Rattle.dyn_config.specs.declared.merged.Merged.{Merged}
use Rattle.router_table.specs.Settings.{setting_of}
use Rattle.router_table.specs.Rows.{AreRows, Refuses}
use Rattle.service_graph.specs.Only.{IsFirstForm}
use Rattle.generation.specs.Nodes.{AreNodes, is_usable, name_of}
use Rattle.generation.specs.declared.generation.Generation.{Generation}
use Rattle.generation.specs.declared.building.Built.{Built}
use Rattle.generation.specs.declared.building.Built.TheVariants as built

-- the generation is this configuration under this number
pub record IsOf (number : ℕ) (m : Merged) (g : Generation) : Type 0 where
  pub number_is : g.number ≡ number
  -- each service that can be used has its node
  pub nodes : AreNodes 0 (filter is_usable m.services) g.nodes
  -- each router has its row, with its first fault if it has one; its rules may have 256 patterns
  pub rows : AreRows (setting_of m (map name_of g.nodes) []) 256 m.routers g.table.rows

abbrev pub IsBuilt : ℕ → Merged → Built → Type 0
IsBuilt number m built.Later = ¬ (IsFirstForm m)
IsBuilt number m (built.Generation g) = IsFirstForm m × IsOf number m g

-- The shop, which counted `old` refusals before and `new` after, refused a pattern for each router that is disabled for
-- that. A configuration of another form is built without asking the shop.
abbrev pub IsCounted : ℕ → ℕ → Built → Type 0
IsCounted old new built.Later = new ≡ old
IsCounted old new (built.Generation g) = Refuses old new g.table.rows
