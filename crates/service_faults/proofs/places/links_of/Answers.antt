use Rattle.dyn_config.specs.Joined.{is_qualified}
use Rattle.service_faults.proofs.JudgingLemmas.{of_each, provider_of}
use Rattle.service_faults.proofs.places.links_of.Goals as goal

pub places_of-requires : goal.places_of-requires
places_of-requires c =
    provider_of c.service-item.result (of_each is_qualified c.args.services.now c.loop-service.service-index c.service-item.result c.requires c.loop-service-test.true c.service-item.is)
