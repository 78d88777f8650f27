use Rattle.std.proofs.Common.{◌≡◌, ◌∙◌, List, map, length, refl, ap, subst, sym, arith}
use Rattle.std.proofs.lemmas.List.{length-map}
use Rattle.middleware_graph.specs.Graph.{max_depth}
use Rattle.middleware_graph.specs.States.{AreStates}
use Rattle.middleware_graph.specs.Tables.{IsTable}
use Rattle.middleware_graph.specs.declared.node.Node.{Node}
use Rattle.middleware_graph.specs.declared.state.State.{State}
use Rattle.middleware_chain.specs.Built.{listed_state}
use Rattle.middleware_chain.specs.Parts.{node_of}
use Rattle.middleware_chain.proofs.Linked.{all_flats_built, counted_flats}
use Rattle.middleware_chain.proofs.Parted.{states_long}
use Rattle.middleware_chain.proofs.building.chains_of.Goals as goal

pub listed-requires : goal.listed-requires
listed-requires c =
    states_long c.args.entries.now c.args.spare c.args.parts c.args.left c.as_slice-nodes.result.now c.in_ok-states.states c.as_slice-3.result.now c.requires.parts
    (c.as_slice-nodes.ensures ∙ c.in_ok-all.ensures ∙ ap (map node_of) c.as_slice.ensures) c.as_slice-3.ensures c.in_ok-states.ensures

pub invariant_of-result-clause-counted : goal.invariant_of-result-clause-counted
invariant_of-result-clause-counted c =
    counted_flats c.as_slice-nodes.result.now c.in_ok-flats.flats c.in_ok-states.states c.in_ok-middlewares.middlewares c.in_ok-flats.ensures c.in_ok-states.ensures
    (c.in_ok-middlewares.ensures.states ∙ c.as_slice-3.ensures)

pub invariant_of-result-clause-all_built : goal.invariant_of-result-clause-all_built
invariant_of-result-clause-all_built c =
    let P : List Node → Type 0 = λ ns. IsTable ns max_depth c.in_ok-flats.flats in
    all_flats_built c.args.parts c.in_ok-flats.flats (subst P (c.as_slice-nodes.ensures ∙ c.in_ok-all.ensures ∙ ap (map node_of) c.as_slice.ensures) c.in_ok-flats.ensures)

pub returns-clause-chains : goal.returns-clause-chains
returns-clause-chains c =
    let nodes : c.as_slice-nodes.result.now ≡ map node_of c.args.parts = c.as_slice-nodes.ensures ∙ c.in_ok-all.ensures ∙ ap (map node_of) c.as_slice.ensures in
    let same : c.in_ok-states.states ≡ map listed_state c.in_ok-middlewares.middlewares = sym (c.in_ok-middlewares.ensures.states ∙ c.as_slice-3.ensures) in
    let P : List Node → Type 0 = λ ns. IsTable ns max_depth c.in_ok-flats.flats in
    let Q : List Node → Type 0 = λ ns. AreStates ns c.in_ok-states.states in
    let R : List State → Type 0 = λ ss. AreStates (map node_of c.args.parts) ss in
    record {
      left = c.args.left;
      parts = c.requires.parts;
      built = refl;
      names = c.in_ok-middlewares.ensures.names;
      states = subst R same (subst Q nodes c.in_ok-states.ensures);
      flats = subst P nodes c.in_ok-flats.ensures;
    }
