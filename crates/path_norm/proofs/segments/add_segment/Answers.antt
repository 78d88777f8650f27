use Rattle.path_norm.specs.Escapes.{segment_written}
use Rattle.std.proofs.Common.{ap, ◌∙◌, append_assoc, ◌++◌, ◌∷◌, [], length}
use Rattle.path_norm.proofs.segments.add_segment.Goals as goal

pub returns : goal.returns
returns c =
    let (pieces, are, text_is, out_is) = c.in_ok-write_segment.ensures in (
      pieces,
      are,
      text_is,
      λ stack slashless old_is.
          c.close_segment.ensures stack (segment_written pieces) slashless
          (out_is ∙ ap (λ t. t ++ segment_written pieces) (c.in_ok-push.ensures.items ∙ ap (λ t. t ++ 47 ∷ []) old_is) ∙ append_assoc _ (47 ∷ []) (segment_written pieces))
          (ap length (c.as_slice-start.ensures.value ∙ old_is)),
    )
