use Rattle.std.proofs.Common.{arith}
use Rattle.service_faults.specs.References.{is_entry}
use Rattle.service_faults.proofs.JudgingLemmas.{of_each, blocked_pushed, blocked_all}
use Rattle.service_faults.proofs.judging.all_blocked.Goals as goal

pub blocked_by-requires-clause-in_range : goal.blocked_by-requires-clause-in_range
blocked_by-requires-clause-in_range c =
    of_each is_entry c.args.services.now c.loop-service.service-index c.service-item.result c.requires.in_range c.loop-service-test.true c.service-item.is

pub loop-service-preserved : goal.loop-service-preserved
loop-service-preserved c = record {
  long = omega (arith, c.in_ok-push.ensures.len, c.loop-service.invariant.long);
  below = blocked_pushed c.args.links.now c.args.services.now c.loop-service.blocked.items c.push.new.self.items c.loop-service.service-index c.len-at.result c.service-item.result
      c.in_ok-fault.fault c.loop-service-test.true c.service-item.is c.loop-service.invariant.long (omega (arith, c.len-at.ensures, c.loop-service.invariant.long))
      c.in_ok-push.ensures.items c.loop-service.invariant.below c.in_ok-fault.ensures;
}

pub returns : goal.returns
returns c =
    blocked_all c.args.links.now c.args.services.now c.loop-service.blocked.items c.loop-service.service-index c.loop-service-test.false c.loop-service.auto.service-index-end
    c.loop-service.invariant.long c.loop-service.invariant.below
