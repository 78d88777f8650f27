use Rattle.std.proofs.Common.{◌∙◌, sym, subst, ap, length, List}
use Rattle.reference_graph.specs.Links.{Links, AreWithin}
use Rattle.service_faults.specs.Faults.{State}
use Rattle.service_faults.specs.Blocked.{AreBlocked}
use Rattle.service_faults.proofs.JudgingLemmas.{links_within, links_long, is_judged_whole}
use Rattle.service_faults.proofs.faults.judge_linked.Goals as goal

pub all_blocked-requires-clause-within : goal.all_blocked-requires-clause-within
all_blocked-requires-clause-within c = let P : Links → Type 0 = λ ls. AreWithin ls in subst P (sym (c.as_slice-places.ensures.value ∙ c.requires.links)) (links_within c.args.services.now)

pub all_blocked-requires-clause-long : goal.all_blocked-requires-clause-long
all_blocked-requires-clause-long c = ap length (c.as_slice-places.ensures.value ∙ c.requires.links) ∙ links_long c.args.services.now

pub returns : goal.returns
returns c =
    is_judged_whole c.args.services.now c.as_slice-places.result.now (record { links = c.args.links; heights = c.in_ok-heights.heights; faults = c.in_ok-faults.faults })
    c.as_slice-blocked.result.now c.as_slice.result.now c.requires.links c.as_slice-places.ensures.value
    (let P : List State → Type 0 = λ bs. AreBlocked c.as_slice-places.result.now c.args.services.now bs in subst P (sym c.as_slice-blocked.ensures.value) c.in_ok-found.ensures)
    c.in_ok-heights.ensures.long c.in_ok-heights.ensures.heights c.in_ok-heights.ensures.judged c.as_slice.ensures.value c.in_ok-faults.ensures
