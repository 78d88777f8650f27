-- What of a configuration can be used, as its routers are judged by it.
use Rattle.std.specs.Prelude.{ℕ, List, [], ◌∷◌}
use Rattle.middleware_graph.specs.declared.state.State.{State}
use Rattle.middleware_graph.specs.declared.state.State.TheVariants.{Enabled, Disabled}
use Rattle.middleware_chain.specs.Counts.{Listed}
use Rattle.router_table.specs.Settings.{Usable}
use Rattle.service_nodes.specs.declared.node.Node.{Node}

abbrev pub name_of : Node → List ℕ
name_of node = node.name

-- the middleware in this state, where it can be used, before others
abbrev pub with_usable : List ℕ → State → List Usable → List Usable
with_usable name (Enabled count) usable = (name, count) ∷ usable
with_usable name (Disabled fault) usable = usable

-- the middlewares that can be used, each with the number of those for which it stands
abbrev pub usable_of : List Listed → List Usable
usable_of [] = []
usable_of (m ∷ ms) = with_usable m.0 m.1 (usable_of ms)
