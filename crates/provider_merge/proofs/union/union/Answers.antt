use Rattle.std.proofs.Common.{rules, ◌++◌}
use Rattle.std.specs.List.Sorted.{IsPermutation, IsSortedBy}
use Rattle.std.specs.Ordering.{is_lt}
use Rattle.std.proofs.lemmas.Cmp.{nat_list_cmp_total}
use Rattle.std.proofs.lemmas.List.Sorted.{ranks_by, answers_always}
use Rattle.dyn_config.specs.declared.merged.Entry.{Entry}
use Rattle.provider_merge.specs.Merging.{entries_of}
use Rattle.provider_merge.proofs.Distinct.{cmp, union_qualified}
use Rattle.provider_merge.proofs.union.union.Goals as goal

pub returns-clause-qualified : goal.returns-clause-qualified
returns-clause-qualified g c =
    let moved : IsPermutation (entries_of 0 c.args.file ++ entries_of 1 c.args.consul) c.from_vec.result = search rules in
    let up : IsSortedBy (λ (x y : Entry g.row.D.Denot). is_lt (cmp x.name y.name)) c.sort_by.new.self.items =
    c.in_ok-sort_by.ensures.sorted (λ x y. is_lt (cmp x.name y.name)) (ranks_by nat_list_cmp_total (λ (e : Entry g.row.D.Denot). e.name)) (answers_always _ _ _ (λ f a r k h. search rules)) in
    let there : IsSortedBy (λ (x y : Entry g.row.D.Denot). is_lt (cmp x.name y.name)) c.from_vec.result = rw c.from_vec.ensures up in
    union_qualified c.args.file c.args.consul c.from_vec.result c.requires.file c.requires.consul moved there
