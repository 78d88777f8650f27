use Rattle.std.proofs.Common.{◌-◌, get_or, length, arith, refl}
use Rattle.middleware_chain.proofs.Folded.{back_done, back_first, back_next, built_there}
use Rattle.middleware_chain.proofs.replying.back_through.Goals as goal

pub stage_at-requires : goal.stage_at-requires
stage_at-requires c = built_there c.args.parts.now c.args.places.now (c.loop-left.left - 1) 0 c.requires (omega (arith, c.loop-left.invariant.within, c.loop-left-test.true))

pub loop-left-init : goal.loop-left-init
loop-left-init c = record { within = omega arith; replied = back_first c.args.parts.now c.args.places.now (length c.args.places.now) c.args.reply (omega arith) }

pub loop-left-preserved : goal.loop-left-preserved
loop-left-preserved c = record {
  within = omega (arith, c.loop-left.invariant.within);
  replied = back_next c.args.parts.now c.args.places.now (c.loop-left.left - 1) c.loop-left.left (get_or c.args.places.now (c.loop-left.left - 1) 0) c.stage_at.result.now c.args.reply
      c.loop-left.reply c.in_ok-reply.reply (omega (arith, c.loop-left.invariant.within, c.loop-left-test.true)) (omega (arith, c.loop-left-test.true)) refl c.stage_at.ensures
      c.in_ok-reply.ensures c.loop-left.invariant.replied;
}

pub returns : goal.returns
returns c = back_done c.args.parts.now c.args.places.now c.loop-left.left c.args.reply c.loop-left.reply c.loop-left-test.false c.loop-left.invariant.replied
