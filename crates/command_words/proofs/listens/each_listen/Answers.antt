use Rattle.command_words.proofs.Chosens.{handed_on}
use Rattle.command_words.proofs.ListenRows.{listens_next, no_listen_at}
use Rattle.command_words.proofs.listens.each_listen.Goals as goal

pub returns-in_err-read_listen : goal.returns-in_err-read_listen
returns-in_err-read_listen c =
    rw (handed_on c.from_residual.result c.in_err-read_listen.field-0.0 c.from_residual.ensures.1)
    (λ is. no_listen_at c.args.words.now c.loop-word.word-index c.word-item.result c.as_slice.result.now c.loop-word-test.true c.word-item.is c.as_slice.ensures (c.in_err-read_listen.ensures is))

pub loop-word-preserved : goal.loop-word-preserved
loop-word-preserved c =
    listens_next c.args.words.now c.loop-word.word-index c.loop-word.listens c.push.new.self c.word-item.result c.as_slice.result.now c.in_ok-read_listen.field-0
    c.loop-word-test.true c.word-item.is c.as_slice.ensures c.loop-word.invariant c.in_ok-read_listen.ensures c.in_ok-push.ensures.ok
