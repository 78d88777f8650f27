use Rattle.std.proofs.Common.{◌≡◌, ℕ, ◌<◌, List, length, drop, Some}
use Rattle.std.specs.List.{fold, slice_get}
use Rattle.std.specs.Map.{keys_of}
use Rattle.dyn_config.specs.Walk.{lesser_key, least_key}
use Rattle.dyn_config.proofs.tables.first_key.Given as goal

abbrev pub invariant-loop-at : goal.invariant-loop-at
invariant-loop-at l = (l.least < length l.fields) × ((key : List ℕ) × (slice_get (keys_of l.fields) l.least ≡ Some key) × (least_key l.fields ≡ fold lesser_key key (drop l.at l.fields)))
