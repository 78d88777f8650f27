use Rattle.replay_script.proofs.Pieces.{written_text, all_small}
use Rattle.replay_script.proofs.escapes.escape.Goals as goal

pub returns-in_err-escape_byte-clause-reads_back :
    goal.returns-in_err-escape_byte-clause-reads_back
returns-in_err-escape_byte-clause-reads_back c = written_text c.args.bytes.now (all_small c.args.bytes.now (λ k. (c.type_inv.bytes k).fits))

pub returns-clause-reads_back : goal.returns-clause-reads_back
returns-clause-reads_back c = written_text c.args.bytes.now (all_small c.args.bytes.now (λ k. (c.type_inv.bytes k).fits))
