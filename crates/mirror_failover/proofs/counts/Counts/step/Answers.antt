use Rattle.std.proofs.Common.{◌≡◌, ◌+◌, ◌∙◌, ap}
use Rattle.mirror_failover.specs.Mirrors.{selection, MirrorTurns}
use Rattle.mirror_failover.proofs.Flags.{selection-bit, selection-past}
use Rattle.mirror_failover.proofs.counts.Counts.step.Goals as goal

pub returns-clause-bits : goal.returns-clause-bits
returns-clause-bits c =
    let mask : c.selected_mask.result ≡ selection c.args.self.now.percents (c.self.inside.turns + 1) =
    c.selected_mask.ensures ∙ ap (λ ps. selection ps (c.self.inside.turns + 1)) (c.deref.ensures.value ∙ ap (λ (v : MirrorTurns). v.percents) c.self.view_is) in
    λ mirror percent e. rw mask (selection-bit c.args.self.now.percents (c.self.inside.turns + 1) mirror percent e)

pub returns-clause-others : goal.returns-clause-others
returns-clause-others c =
    let mask : c.selected_mask.result ≡ selection c.args.self.now.percents (c.self.inside.turns + 1) =
    c.selected_mask.ensures ∙ ap (λ ps. selection ps (c.self.inside.turns + 1)) (c.deref.ensures.value ∙ ap (λ (v : MirrorTurns). v.percents) c.self.view_is) in
    λ mirror past. rw mask (selection-past c.args.self.now.percents (c.self.inside.turns + 1) mirror past)
