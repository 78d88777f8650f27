use Rattle.std.proofs.Common.{◌≡◌, ◌∙◌, ℕ, List, Option, Some, None, is_some, slice_get, ap, sym}
use Rattle.std.proofs.lemmas.Bool.{both_ways}
use Rattle.std.specs.Option.{option_copied}
use Rattle.middleware_graph.specs.Tables.{told}
use Rattle.middleware_chain.specs.Built.{listed_name}
use Rattle.middleware_chain.specs.Counts.{Listed, count_named}
use Rattle.middleware_chain.specs.Names.{place_from}
use Rattle.middleware_chain.proofs.Linked.{flat_named, no_flat, no_place}
use Rattle.middleware_chain.proofs.linking.flat_named.Goals as goal

pub unreachable-requires : goal.unreachable-requires
unreachable-requires c =
    let none : place_from listed_name 0 c.args.chains.now.middlewares c.args.name.now ≡ None =
    ap (λ (ms : List Listed). place_from listed_name 0 ms c.args.name.now) (sym c.as_slice.ensures) ∙ sym c.place_listed.ensures ∙ c.in-None.is in
    both_ways (is_some (count_named c.args.chains.now.middlewares c.args.name.now)) (no_place 0 c.args.chains.now.middlewares c.args.name.now none) c.requires

pub unreachable-requires-in-None-flat_at : goal.unreachable-requires-in-None-flat_at
unreachable-requires-in-None-flat_at c =
    let at : place_from listed_name 0 c.args.chains.now.middlewares c.args.name.now ≡ Some c.in-Some.place =
    ap (λ (ms : List Listed). place_from listed_name 0 ms c.args.name.now) (sym c.as_slice.ensures) ∙ sym c.place_listed.ensures ∙ c.in-Some.is in
    let none : told (slice_get c.args.chains.now.flats c.in-Some.place) ≡ None =
    ap (λ (fs : List (Option (List ℕ))). told (slice_get fs c.in-Some.place)) (sym c.as_slice-2.ensures) ∙ sym c.flat_at.ensures ∙ ap option_copied c.in-None-flat_at.is in
    no_flat c.args.chains.now.middlewares c.args.chains.now.flats c.args.name.now c.in-Some.place c.args.chains.now.counted at c.requires none

pub returns : goal.returns
returns c =
    let at : place_from listed_name 0 c.args.chains.now.middlewares c.args.name.now ≡ Some c.in-Some.place =
    ap (λ (ms : List Listed). place_from listed_name 0 ms c.args.name.now) (sym c.as_slice.ensures) ∙ sym c.place_listed.ensures ∙ c.in-Some.is in
    let is : told (slice_get c.args.chains.now.flats c.in-Some.place) ≡ Some c.in-Some-flat_at.places.now =
    ap (λ (fs : List (Option (List ℕ))). told (slice_get fs c.in-Some.place)) (sym c.as_slice-2.ensures) ∙ sym c.flat_at.ensures ∙ ap option_copied c.in-Some-flat_at.is in
    flat_named c.args.chains.now c.args.name.now c.in-Some.place c.in-Some-flat_at.places.now at c.requires is
