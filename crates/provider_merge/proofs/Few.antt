-- How many services two providers declare.
use Rattle.std.proofs.Common.{◌≡◌, ◌≤◌, List, ◌++◌, length, arith}
use Rattle.std.proofs.lemmas.List.{length-append, length-map}
use Rattle.std.proofs.lemmas.List.Sorted.{length_permutation}
use Rattle.dyn_config.specs.declared.config.Config.{Config}
use Rattle.dyn_config.specs.declared.merged.Entry.{Entry}
use Rattle.dyn_config.specs.declared.merged.Merged.{Merged}
use Rattle.dyn_config.specs.declared.service.ServiceDef.{ServiceDef}
use Rattle.dyn_config.specs.Kept.{Services}
use Rattle.provider_merge.specs.Merging.{IsUnion, IsFileAlone, entry_of, entries_of}

-- each declares at most 500
pub few_in_union : (file consul : Services) (es : List (Entry ServiceDef)) → length file ≤ 500 → length consul ≤ 500 → IsUnion file consul es → length es ≤ 1000
few_in_union file consul es few more is =
    let same : length es ≡ length (entries_of 0 file ++ entries_of 1 consul) = length_permutation (entries_of 0 file ++ entries_of 1 consul) es is in
    let parts = length-append (entries_of 0 file) (entries_of 1 consul) in
    let first = length-map file (entry_of 0) in
    let second = length-map consul (entry_of 1) in
    omega (arith, same, parts, first, second, few, more)

pub few_of_file : (file : Config) (m : Merged) → IsFileAlone file m → length m.services ≤ 1000
few_of_file file m is = few_in_union file.services is.0.services m.services file.few.few_services is.0.few.few_services is.2.services
