use Rattle.http_wire.proofs.Spelled.{keeps, keeps_through, when_err}
use Rattle.http_wire.proofs.spell.push_reply.Goals as goal

pub returns-in_err-push_reply_framing-clause-err : goal.returns-in_err-push_reply_framing-clause-err
returns-in_err-push_reply_framing-clause-err c =
    let old = c.args.out.now.items in
    let start = c.push_status_line.new.out.items in
    let lines = c.extend_from_slice.new.self.items in
    let begun = keeps_through old start lines (keeps old _ start c.in_ok-push_status_line.ensures.ok) (keeps start _ lines c.in_ok-extend_from_slice.ensures.items) in
    when_err _ (keeps_through old lines c.push_reply_framing.new.out.items begun c.in_err-push_reply_framing.ensures.err)
