-- Logs that name no link.
use Rattle.std.proofs.Common.{◌≡◌, ℕ, ◌+◌, ◌<◌, List, [], ◌∷◌, ◌++◌, map, sym, false, zero, suc, length, get_or, take, subst, add-one, arith}
use Rattle.std.proofs.lemmas.List.{map-append}
use Rattle.link_world.specs.Log.{is_of, IsFresh}
use Rattle.memory_world.specs.declared.record.Record.{Record}
use Rattle.memory_world.specs.Records.{event_of}

pub told_more : (items : List Record) (r : Record) → map event_of (items ++ r ∷ []) ≡ map event_of items ++ event_of r ∷ []
told_more items r = map-append event_of items (r ∷ [])

fresh_suc : (link : ℕ) (log : List Record) (i : ℕ) (r d : Record) → i < length log → r ≡ get_or log i d → is_of link (event_of r) ≡ false → IsFresh link (map event_of (take i log)) → IsFresh link (map event_of (take (suc i) log))
fresh_suc link [] i r d within is not was = absurd (omega arith)
fresh_suc link (x ∷ log) zero r d within is not was = (subst (λ (y : Record). is_of link (event_of y) ≡ false) is not, tt)
fresh_suc link (x ∷ log) (suc i) r d within is not was = (was.0, fresh_suc link log i r d (omega arith) is not was.1)

pub fresh_next : (link : ℕ) (log : List Record) (i : ℕ) (r d : Record) → i < length log → r ≡ get_or log i d → is_of link (event_of r) ≡ false → IsFresh link (map event_of (take i log)) → IsFresh link (map event_of (take (i + 1) log))
fresh_next link log i r d within is not was = subst (λ (n : ℕ). IsFresh link (map event_of (take n log))) (sym (add-one i)) (fresh_suc link log i r d within is not was)
