use Rattle.std.proofs.Common.{[]}
use Rattle.serving_tests.proofs.services.send_away.Goals as goal

pub stop-requires-clause-linked : goal.stop-requires-clause-linked
stop-requires-clause-linked g c = (c.in_ok-first.ensures.ready []).linked

pub quit-requires-clause-linked : goal.quit-requires-clause-linked
quit-requires-clause-linked g c = (c.in_ok-next.ensures.ready []).linked
