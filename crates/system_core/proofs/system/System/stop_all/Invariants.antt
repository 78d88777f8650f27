use Rattle.std.proofs.Common.{◌≡◌, length}
use Rattle.system_core.specs.Drives.{AreClosed}
use Rattle.system_core.specs.Shows.{Stopping}
use Rattle.system_core.proofs.system.System.stop_all.Given as goal

abbrev pub invariant-loop-place : goal.invariant-loop-place
invariant-loop-place l = record {
  count : length l.self.clients.conns.items ≡ l.count;
  stopping : Stopping l.initial.self l.self;
  closed : AreClosed l.place l.self.clients.conns.items;
}
