use Rattle.std.proofs.Common.{get_or, refl}
use Rattle.middleware_chain.specs.declared.flow.Flow.TheVariants.{Pass, Stop}
use Rattle.middleware_chain.proofs.Folded.{all_passed, built_there, passed_there, stopped_there}
use Rattle.middleware_chain.proofs.applying.through.Goals as goal

pub stage_at-requires : goal.stage_at-requires
stage_at-requires c = built_there c.args.parts.now c.args.places.now c.loop-at.at 0 c.requires.built c.loop-at-test.true

pub loop-at-preserved : goal.loop-at-preserved
loop-at-preserved c = λ flow rest.
    let flows = rw c.in-Pass.is at c.in_ok-next.ensures in
    c.loop-at.invariant flow
    (passed_there c.args.parts.now c.args.places.now c.loop-at.at (get_or c.args.places.now c.loop-at.at 0) c.stage_at.result.now c.loop-at.request c.in-Pass.next c.args.peer
    c.loop-at.limit c.in-Pass.body_limit c.least-limit.result flow c.loop-at-test.true refl c.stage_at.ensures flows c.least-limit.ensures rest)

pub returns : goal.returns
returns c =
    c.loop-at.invariant (Pass c.loop-at.request c.loop-at.limit)
    (all_passed c.args.parts.now c.args.places.now c.loop-at.at c.loop-at.request c.args.peer c.loop-at.limit c.loop-at-test.false)

pub returns-in-Stop : goal.returns-in-Stop
returns-in-Stop c =
    let flows = rw c.in-Stop.is at c.in_ok-next.ensures in
    c.loop-at.invariant (Stop c.loop-at.at c.in-Stop.status c.in-Stop.location)
    (stopped_there c.args.parts.now c.args.places.now c.loop-at.at (get_or c.args.places.now c.loop-at.at 0) c.stage_at.result.now c.loop-at.request c.args.peer c.loop-at.limit
    c.in-Stop.status c.in-Stop.location c.loop-at-test.true refl c.stage_at.ensures flows)
