-- The graph of the declared services.
use Rattle.std.specs.Prelude.{◌≡◌, ℕ, List}
use Rattle.std.specs.List.{AllZip}
use Rattle.reference_graph.specs.Numbering.{IsNumbering, number_of}
use Rattle.service_faults.specs.Faults.{State, AreJudged, faults_from}
use Rattle.service_faults.specs.Judgements.{is_sound_service}
use Rattle.service_faults.specs.References.{ServiceEntry, links_of}
use Rattle.service_nodes.specs.declared.graph.Graph.{Graph}
use Rattle.service_nodes.specs.declared.node.Node.{Node}
use Rattle.service_nodes.specs.Nodes.{IsNodeAt}

-- the nodes are those of the sound services, in the order of their numbers
pub record AreNodes (services : List ServiceEntry) (judged : ℕ → State) (nodes : List Node) : Type 0 where
  pub order : List ℕ
  pub numbered : IsNumbering (links_of services) (is_sound_service services judged) order
  pub nodes_are : AllZip (IsNodeAt services (number_of order)) order nodes

-- there is a judgement of all services: the faults are those that it tells, and the nodes are those of the services that it finds sound
pub record IsGraph (services : List ServiceEntry) (graph : Graph) : Type 0 where
  pub judged : ℕ → State
  pub are_judged : AreJudged services judged
  pub faults_are : graph.faults ≡ faults_from judged 0 services
  pub nodes_are : AreNodes services judged graph.nodes
