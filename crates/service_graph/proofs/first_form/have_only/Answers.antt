use Rattle.std.proofs.Common.{sym, ◌∙◌, subst, All, List, refl}
use Rattle.std.proofs.lemmas.List.{take_all}
use Rattle.std.proofs.lemmas.Bool.{false≢true}
use Rattle.std.proofs.lemmas.List.Elements.{All-more}
use Rattle.dyn_config.specs.declared.merged.Entry.{Entry}
use Rattle.dyn_config.specs.declared.service.ServiceDef.{ServiceDef}
use Rattle.service_graph.specs.Only.{HasOnly}
use Rattle.service_graph.proofs.first_form.have_only.Goals as goal

pub returns-then-not-branch : goal.returns-then-not-branch
returns-then-not-branch c = (
  λ t. absurd (false≢true t),
  λ all. absurd (false≢true (sym c.if-not-branch.true ∙ c.in_ok-has_only.ensures.1
      (subst HasOnly (sym c.service-item.is) (all c.loop-service.service-index c.service-item.result c.loop-service-test.true)))),
)

pub loop-service-preserved : goal.loop-service-preserved
loop-service-preserved c =
    All-more HasOnly c.args.services.now c.loop-service.service-index c.service-item.result c.loop-service-test.true c.loop-service.invariant
    (subst HasOnly c.service-item.is (c.in_ok-has_only.ensures.0 c.if-not-branch.false))

pub returns : goal.returns
returns c =
    let P : List (Entry ServiceDef) → Type 0 = λ es. All HasOnly es in
    (λ t. subst P (take_all c.loop-service.service-index c.args.services.now c.loop-service-test.false) c.loop-service.invariant, λ all. refl)
