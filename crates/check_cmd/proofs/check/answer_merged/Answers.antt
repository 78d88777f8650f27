use Rattle.std.proofs.Common.{rules}
use Rattle.check_cmd.proofs.check.answer_merged.Goals as goal

pub returns-clause-told : goal.returns-clause-told
returns-clause-told g c = record {
  runtime = c.in_ok-runtime.runtime;
  built = c.in_ok-runtime.ensures.built;
  counted = c.in_ok-runtime.ensures.counted;
  text_is = search rules;
}
