use Rattle.std.proofs.Common.{◌≡◌, drop, ap, ◌∙◌}
use Rattle.dyn_config.specs.declared.found.Fault.{Fault}
use Rattle.dyn_config.specs.declared.fault.ConfigFault.{ConfigFault}
use Rattle.dyn_config.specs.declared.fault.ConfigFault.TheVariants.{Unknown, Twice, Kind, Missing, Range, BadName, TooMany, Memory}
use Rattle.dyn_config.specs.Decoding.{told_as, public_fault, IsTold}
use Rattle.dyn_config.proofs.decoding.public_fault.Goals as goal

told : (fault : Fault) (result : ConfigFault) → result ≡ public_fault fault → IsTold fault result
told fault (Unknown path) e = e
told fault (Twice path) e = e
told fault (Kind path) e = e
told fault (Missing path) e = e
told fault (Range path) e = e
told fault (BadName path) e = e
told fault (TooMany path) e = e
told fault Memory e = tt

pub returns-in-Ok : goal.returns-in-Ok
returns-in-Ok c =
    let path : c.in-Ok.path ≡ drop 1 c.args.fault.now.path = c.in-Ok.ensures ∙ c.after_first.ensures ∙ ap (drop 1) c.as_slice.ensures in
    told c.args.fault.now c.told_as.result (c.told_as.ensures ∙ ap (told_as c.args.fault.now.cause) path)
