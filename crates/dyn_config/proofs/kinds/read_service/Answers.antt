use Rattle.dyn_config.specs.declared.service.ServiceDef.TheVariants.{Unsupported}
use Rattle.dyn_config.specs.Readings.{service_by}
use Rattle.dyn_config.proofs.Loops.{ok_same, by_first}
use Rattle.dyn_config.proofs.kinds.read_service.Goals as goal

pub returns-else-len-eq0 : goal.returns-else-len-eq0
returns-else-len-eq0 c =
    ok_same _ _ _ (by_first Unsupported (service_by c.args.style) c.args.tree.now c.in-Some.fields.now c.key.result.now c.value.result.now c.in-Some.ensures c.key.ensures c.value.ensures) c.service_by.ensures
