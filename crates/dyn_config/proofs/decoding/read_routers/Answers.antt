use Rattle.std.proofs.Common.{map, ap, ◌∙◌}
use Rattle.dyn_config.specs.Walk.{Entry}
use Rattle.dyn_config.specs.Readings.{router_of}
use Rattle.dyn_config.proofs.Loops.{ok_same}
use Rattle.dyn_config.proofs.decoding.read_routers.Goals as goal

pub returns-in-None : goal.returns-in-None
returns-in-None c = c.new.ensures ∙ ap (map (λ (entry : Entry). (entry.0, router_of c.args.style entry.1))) c.in-None.ensures

pub returns-in-Some : goal.returns-in-Some
returns-in-Some c = ok_same _ _ _ (ap (map (λ (entry : Entry). (entry.0, router_of c.args.style entry.1))) c.in-Some.ensures) c.routers_in.ensures
