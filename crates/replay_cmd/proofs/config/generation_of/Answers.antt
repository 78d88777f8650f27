use Rattle.std.proofs.Common.{refl}
use Rattle.replay_cmd.proofs.Telling.{not_true}
use Rattle.replay_cmd.proofs.config.generation_of.Goals as goal

pub returns-then-declares_nothing-clause-means : goal.returns-then-declares_nothing-clause-means
returns-then-declares_nothing-clause-means g c = ((c.args.config, c.requires, c.if-declares_nothing.ensures.0 refl), refl)

pub returns-in-Generation-clause-means : goal.returns-in-Generation-clause-means
returns-in-Generation-clause-means g c =
    let built = rw c.in-Generation.is at c.in_ok-generation.ensures.built in
    let counted = rw c.in-Generation.is at c.in_ok-generation.ensures.counted in
    record {
      config = c.args.config;
      is_config = c.requires;
      some = λ e. not_true (c.if-declares_nothing.ensures.1 e);
      merged = c.in_ok-merged.merged;
      is_merged = c.in_ok-merged.ensures;
      form = built.0;
      is_of = built.1;
      refused = counted;
    }

pub returns-clause-means : goal.returns-clause-means
returns-clause-means g c =
    let built = rw c.in-Later.is at c.in_ok-generation.ensures.built in
    (c.args.config, c.in_ok-merged.merged, c.requires, c.in_ok-merged.ensures, built)
