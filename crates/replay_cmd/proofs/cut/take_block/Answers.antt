use Rattle.std.proofs.Common.{◌≡◌, ◌+◌, ℕ, List, ◌++◌, ◌∷◌, [], length, ap, ◌∙◌, arith}
use Rattle.replay_cmd.proofs.Telling.{block_more, block_end}
use Rattle.replay_cmd.proofs.cut.take_block.Goals as goal

pub loop-behind-preserved : goal.loop-behind-preserved
loop-behind-preserved c =
    let e : length c.loop-behind.rest.now ≡ length (124 ∷ c.in-Some.behind.now) = ap length c.in-Some.ensures in
    record {
      shorter = omega (arith, e, c.cut_line.ensures.shorter, c.loop-behind.invariant.shorter);
      block = block_more c.args.text.now c.loop-behind.rest.now c.in-Some.behind.now c.cut_line.result.0.now c.cut_line.result.1.now c.loop-behind.block.items c.push.new.self.items
          c.in-Some.ensures c.cut_line.ensures.cut (c.in_ok-push.ensures.items ∙ ap (λ (xs : List ℕ). xs ++ 10 ∷ []) c.in_ok-extend_from_slice.ensures.items) c.loop-behind.invariant.block;
    }

pub returns-clause-block : goal.returns-clause-block
returns-clause-block c = block_end c.args.text.now c.loop-behind.rest.now c.loop-behind.block.items c.in_default.ensures c.loop-behind.invariant.block
