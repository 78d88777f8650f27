use Rattle.std.proofs.Common.{◌≡◌, take}
use Rattle.provider_merge.proofs.copying.copy_servers.Given as goal

abbrev pub invariant-loop-server : goal.invariant-loop-server
invariant-loop-server l = l.copies.items ≡ take l.server-index l.server-items
