use Rattle.std.proofs.Common.{◌≡◌, ◌∙◌, sym, subst, List, Option, ℕ, All, length}
use Rattle.std.proofs.lemmas.Result.{IfOk-weaker}
use Rattle.std.proofs.lemmas.Option.{slice_get_within}
use Rattle.reference_graph.specs.Numbering.{number_in}
use Rattle.service_faults.specs.Faults.{IsPlain}
use Rattle.service_faults.specs.References.{ServiceEntry, written}
use Rattle.service_nodes.specs.Ready.{HasNumber}
use Rattle.service_nodes.proofs.Making.{links_there, places_long, node_there, entry_read, inside_links}
use Rattle.service_nodes.proofs.building.node_at.Goals as goal

pub places_at-places-requires : goal.places_at-places-requires
places_at-places-requires c = inside_links c.args.services.now c.args.links.now c.args.at c.requires.ready.entry c.requires.links c.requires.ready.here

pub bounds-services-at : goal.bounds-services-at
bounds-services-at c = slice_get_within c.args.services.now c.args.at c.requires.ready.entry c.requires.ready.here

pub node_from-requires-clause-plain : goal.node_from-requires-clause-plain
node_from-requires-clause-plain c =
    let P : ServiceEntry → Type 0 = λ e. IsPlain e in
    subst P (sym (entry_read c.args.services.now c.args.at c.index-services-at.result c.requires.ready.entry c.index-services-at.is c.requires.ready.here)) c.requires.ready.plain

pub node_from-requires-clause-long : goal.node_from-requires-clause-long
node_from-requires-clause-long c =
    let e = c.requires.ready.entry in
    let led = c.places_at-places.ensures ∙ links_there c.args.services.now c.args.links.now c.args.at e c.requires.links c.requires.ready.here in
    let P : ServiceEntry → Type 0 = λ d. length c.places_at-places.result.now ≡ length (written d.def) in
    subst P (sym (entry_read c.args.services.now c.args.at c.index-services-at.result e c.index-services-at.is c.requires.ready.here))
    (places_long c.args.services.now e c.places_at-places.result.now led)

pub node_from-requires-clause-leads : goal.node_from-requires-clause-leads
node_from-requires-clause-leads c =
    let e = c.requires.ready.entry in
    let led = c.places_at-places.ensures ∙ links_there c.args.services.now c.args.links.now c.args.at e c.requires.links c.requires.ready.here in
    let P : List (Option ℕ) → Type 0 = λ ps. All (HasNumber c.args.numbers.now) ps in
    subst P (sym led) c.requires.ready.leads

pub returns : goal.returns
returns c =
    let e = c.requires.ready.entry in
    let led = c.places_at-places.ensures ∙ links_there c.args.services.now c.args.links.now c.args.at e c.requires.links c.requires.ready.here in
    IfOk-weaker c.node_from.result _ _ (λ node h. (
      e,
      c.requires.ready.here,
      node_there c.args.services.now (number_in c.args.numbers.now) e c.index-services-at.result c.places_at-places.result.now node
          (entry_read c.args.services.now c.args.at c.index-services-at.result e c.index-services-at.is c.requires.ready.here) led h,
    )) c.node_from.ensures
