use Rattle.std.proofs.Common.{ap, ◌∙◌, take}
use Rattle.path_norm.proofs.Slashes.{segment_at, closed_none, closed_here, closed_parent}
use Rattle.path_norm.proofs.segments.close_segment.Goals as goal

pub returns-in-None : goal.returns-in-None
returns-in-None c = λ stack s slashless is at.
    closed_none stack s _ c.args.out.now.items (segment_at c.as_slice.result.now _ s c.args.start (c.as_slice.ensures.value ∙ is) at) c.in-None.ensures is

pub returns-in-Here : goal.returns-in-Here
returns-in-Here c = λ stack s slashless is at.
    closed_here stack s _ c.args.out.now.items _ c.args.start (segment_at c.as_slice.result.now _ s c.args.start (c.as_slice.ensures.value ∙ is) at) c.in-Here.ensures is at c.truncate.ensures.items

pub returns-in-Parent : goal.returns-in-Parent
returns-in-Parent c = λ stack s slashless is at.
    closed_parent stack s _ c.args.out.now.items _ _ c.args.start c.parent_len-parent.result slashless
    (segment_at c.as_slice.result.now _ s c.args.start (c.as_slice.ensures.value ∙ is) at) c.in-Parent.ensures is at
    (ap (λ t. take c.args.start t) c.as_slice-in-Parent.ensures.value) c.parent_len-parent.ensures.last c.parent_len-parent.ensures.none c.truncate-in-Parent.ensures.items
