use Rattle.std.proofs.Common.{List, Bool, subst, ℕ, ◌<◌, ◌∙◌, length}
use Rattle.std.specs.Result.{IfOk}
use Rattle.reference_graph.specs.Heights.{AreHeights, IsJudged}
use Rattle.service_faults.proofs.faults.sound_heights.Goals as goal

pub returns-clause-heights : goal.returns-clause-heights
returns-clause-heights c =
    let P : List Bool → Type 0 = λ flags. IfOk c.heights_of.result (λ heights. AreHeights c.args.links.now flags heights.items) in
    subst P (c.as_slice.ensures.value ∙ c.in_ok-flags.ensures) c.heights_of.ensures.heights

pub returns-clause-judged : goal.returns-clause-judged
returns-clause-judged c =
    let P : List Bool → Type 0 = λ flags. IfOk c.heights_of.result (λ heights. (at : ℕ) → at < length c.args.links.now → IsJudged c.args.links.now flags heights.items at) in
    subst P (c.as_slice.ensures.value ∙ c.in_ok-flags.ensures) c.heights_of.ensures.judged
