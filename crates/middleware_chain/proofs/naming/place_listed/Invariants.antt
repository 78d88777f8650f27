use Rattle.std.proofs.Common.{◌≡◌, drop}
use Rattle.middleware_chain.specs.Built.{listed_name}
use Rattle.middleware_chain.specs.Names.{place_from}
use Rattle.middleware_chain.proofs.naming.place_listed.Given as goal

abbrev pub invariant-loop-at : goal.invariant-loop-at
invariant-loop-at l = place_from listed_name 0 l.middlewares l.name ≡ place_from listed_name l.at (drop l.at l.middlewares) l.name
