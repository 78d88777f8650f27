use Rattle.std.proofs.Common.{ap, ◌∙◌, List, ◌∷◌, [], ◌++◌}
use Rattle.desk.specs.declared.told.NodeCount.{NodeCount}
use Rattle.desk.proofs.Counts.{put_counts}
use Rattle.desk.proofs.seats.put_count.Goals as goal

pub returns-clause-counts : goal.returns-clause-counts
returns-clause-counts c = put_counts c.args.counts.now.items c.push_reserved.new.self.items c.args.next
    (c.push_reserved.ensures.items ∙ ap (λ (xs : List NodeCount). xs ++ c.args.next ∷ []) c.forget_count.ensures.items)
