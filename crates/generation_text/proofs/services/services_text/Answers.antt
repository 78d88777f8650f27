use Rattle.std.proofs.Common.{ℕ, List, ◌∷◌, ◌++◌, subst, sym}
use Rattle.dyn_config.specs.declared.merged.Entry.{Entry}
use Rattle.dyn_config.specs.declared.service.ServiceDef.{ServiceDef}
use Rattle.generation_text.specs.Texts.{PrintServices}
use Rattle.generation_text.proofs.Printing.{services_more, services_done}
use Rattle.generation_text.proofs.services.services_text.Goals as goal

pub loop-service-preserved : goal.loop-service-preserved
loop-service-preserved c = λ more after_it.
    services_more c.loop-service.place c.in_ok-place.place c.in-Some.service.now c.in-Some.more.now c.loop-service.text.items c.push_service.new.text.items c.in_ok-place.ensures.0 more
    c.in_ok-place.ensures.1 c.in_ok-place.ensures.2 after_it (PrintServices 0 c.args.services.now)
    (λ text is. c.loop-service.invariant text (subst (λ (es : List (Entry ServiceDef)). PrintServices c.loop-service.place es text) (sym c.in-Some.ensures.cases.0) is))

pub returns : goal.returns
returns c = services_done c.loop-service.place c.loop-service.rest.now c.loop-service.text.items c.in_default.ensures.cases (PrintServices 0 c.args.services.now) c.loop-service.invariant
