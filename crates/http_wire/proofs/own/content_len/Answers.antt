use Rattle.http_wire.proofs.Contents.{content_length}
use Rattle.http_wire.proofs.own.content_len.Goals as goal

pub returns : goal.returns
returns c = content_length c.args.status c.words_of.result.now c.requires c.words_of.ensures
