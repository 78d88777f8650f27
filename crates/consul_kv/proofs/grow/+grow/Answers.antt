use Rattle.std.proofs.Common.{◌≡◌, ◌≢◌, ◌+◌, ◌-◌, ◌<◌, ◌≤◌, ℕ, List, [], length, take, drop, map, get_or, sym, ap, ◌∙◌, subst, arith}
use Rattle.std.specs.List.{prefix_len}
use Rattle.consul_kv.specs.declared.grow.Leaf.{Leaf}
use Rattle.consul_kv.specs.Keys.{Pair, is_below}
use Rattle.consul_kv.specs.Leaves.{field_leaves}
use Rattle.consul_kv.specs.Rises.{Rises, IsBranch, first_part, slashed, cut}
use Rattle.consul_kv.specs.Grown.{paths_of}
use Rattle.consul_kv.proofs.Growing.{branch_more, ahead_is, rise_snoc, rises_drop, total, total_drop}
use Rattle.consul_kv.proofs.Branching.{branch_end, branch_below, below_rises, below_total, below_filled, taken_some, slice_paths, slice_filled, nothing_grown}
use Rattle.consul_kv.proofs.grow.+grow.Goals as goal

-- what an index gives behind the end
abbrev none : Leaf
none = record { path = record { ref_ptr = (0, 0); now = [] }; text = record { ref_ptr = (0, 0); now = [] } }

pub branch_of-returns-then-len-whole : goal.branch_of-returns-then-len-whole
branch_of-returns-then-len-whole t c =
    let ls = c.args.leaves.now in
    let part : c.first_part-part.result.now ≡ first_part (get_or ls 0 none).path.now = c.first_part-part.ensures in
    let whole : length (first_part (get_or ls 0 none).path.now) ≡ length (get_or ls 0 none).path.now = sym (ap length part) ∙ c.if-len-whole.true in
    branch_end ls none c.in_ok-name.name c.in_ok-text.text c.requires.filled c.requires.rising (c.in_ok-name.ensures ∙ part) whole c.in_ok-text.ensures

pub branch_of-table_of-requires : goal.branch_of-table_of-requires
branch_of-table_of-requires t c =
    let ls = c.args.leaves.now in
    let p = c.first_part-part.result.now in
    let n = c.count_below-taken.result in
    let part : p ≡ first_part (get_or ls 0 none).path.now = c.first_part-part.ensures in
    let on : length (first_part (get_or ls 0 none).path.now) ≢ length (get_or ls 0 none).path.now = λ e. c.if-len-whole.false (ap length part ∙ e) in
    let count : n ≡ prefix_len (λ (l : Leaf). is_below p l.path.now) ls = c.count_below-taken.ensures in
    let some : 0 < n = taken_some ls none n c.requires.filled on (subst (λ (q : List ℕ). n ≡ prefix_len (λ (l : Leaf). is_below q l.path.now) ls) part count) in
    let below : paths_of c.as_slice.result.now ≡ map (cut (length p + 1)) (paths_of (take n ls)) = ap paths_of c.as_slice.ensures.value ∙ c.in_ok-below.ensures in
    let less : total (paths_of c.as_slice.result.now) < total (paths_of ls) = below_total p ls n (paths_of c.as_slice.result.now) count below some in
    (omega (arith, less, c.decreases), below_rises p ls n (paths_of c.as_slice.result.now) count below c.requires.rising)

pub branch_of-returns : goal.branch_of-returns
branch_of-returns t c =
    let ls = c.args.leaves.now in
    let p = c.first_part-part.result.now in
    let n = c.count_below-taken.result in
    let part : p ≡ first_part (get_or ls 0 none).path.now = c.first_part-part.ensures in
    let on : length (first_part (get_or ls 0 none).path.now) ≢ length (get_or ls 0 none).path.now = λ e. c.if-len-whole.false (ap length part ∙ e) in
    let count : n ≡ prefix_len (λ (l : Leaf). is_below p l.path.now) ls = c.count_below-taken.ensures in
    let counted : n ≡ prefix_len (λ (l : Leaf). is_below (first_part (get_or ls 0 none).path.now) l.path.now) ls =
    subst (λ (q : List ℕ). n ≡ prefix_len (λ (l : Leaf). is_below q l.path.now) ls) part count in
    let some : 0 < n = taken_some ls none n c.requires.filled on counted in
    let below : paths_of c.as_slice.result.now ≡ map (cut (length p + 1)) (paths_of (take n ls)) = ap paths_of c.as_slice.ensures.value ∙ c.in_ok-below.ensures in
    let fields = c.in_ok-fields.fields in
    let texts : field_leaves fields ≡ map slashed (map (cut (length p + 1)) (paths_of (take n ls))) = c.in_ok-fields.ensures.texts ∙ ap (map slashed) below in
    branch_below ls none c.in_ok-name.name fields n c.requires.filled c.requires.rising (c.in_ok-name.ensures ∙ part) on counted
    (subst (λ (q : List ℕ). field_leaves fields ≡ map slashed (map (cut (length q + 1)) (paths_of (take n ls)))) part texts)
    c.in_ok-fields.ensures.grown (c.in_ok-fields.ensures.filled (below_filled p ls n c.as_slice.result.now count below some))

pub table_of-loop-at-init : goal.table_of-loop-at-init
table_of-loop-at-init t c = rw c.new-fields.ensures (nothing_grown (paths_of c.args.leaves.now))

pub table_of-branch_of-requires : goal.table_of-branch_of-requires
table_of-branch_of-requires t c =
    let ls = c.args.leaves.now in
    let at = c.loop-at.at in
    let rest : paths_of (take (length ls - at) (drop at ls)) ≡ drop at (paths_of ls) = slice_paths at ls in
    let less : total (paths_of (take (length ls - at) (drop at ls))) ≤ total (paths_of ls) = subst (λ (qs : List Pair). total qs ≤ total (paths_of ls)) (sym rest) (total_drop at (paths_of ls)) in
    (omega (arith, less, c.decreases), (slice_filled at ls c.loop-at-test.true, subst Rises (sym rest) (rises_drop at (paths_of ls) c.requires)))

pub table_of-push-requires : goal.table_of-push-requires
table_of-push-requires t c =
    let l = c.loop-at in
    let b = c.in_ok-branch.branch in
    let ps = paths_of c.args.leaves.now in
    let is : IsBranch (drop l.at ps) b.name b.tree b.taken = subst (λ (qs : List Pair). IsBranch qs b.name b.tree b.taken) (slice_paths l.at c.args.leaves.now) c.in_ok-branch.ensures in
    rise_snoc l.fields b.name b.tree l.invariant.rising (ahead_is _ b.name (drop l.at ps) is.named l.invariant.ahead)

pub table_of-loop-at-preserved : goal.table_of-loop-at-preserved
table_of-loop-at-preserved t c =
    let l = c.loop-at in
    let b = c.in_ok-branch.branch in
    let ps = paths_of c.args.leaves.now in
    let is : IsBranch (drop l.at ps) b.name b.tree b.taken = subst (λ (qs : List Pair). IsBranch qs b.name b.tree b.taken) (slice_paths l.at c.args.leaves.now) c.in_ok-branch.ensures in
    rw c.in_ok-push.ensures.ok (branch_more ps l.at l.fields b.name b.tree b.taken l.invariant is)
