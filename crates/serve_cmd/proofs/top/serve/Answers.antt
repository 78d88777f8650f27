use Rattle.std.proofs.Common.{rules}
use Rattle.serve_cmd.proofs.Ends.{at_first_if}
use Rattle.serve_cmd.proofs.top.serve.Goals as goal

pub returns-clause-ran : goal.returns-clause-ran
returns-clause-ran g c =
    at_first_if _ c.serve_over-status.result.end c.args.worlds.items c.index_mut.result.now c.serve_over-status.new.world (search rules)
    c.index_mut.ensures.value c.serve_over-status.ensures.ran
