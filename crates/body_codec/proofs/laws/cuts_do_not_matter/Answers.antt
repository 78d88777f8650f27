use Rattle.body_codec.proofs.Continuations.{calls_joined, calls_content}
use Rattle.body_codec.proofs.laws.cuts_do_not_matter.Goals as goal

pub returns : goal.returns
returns c = record { joined = calls_joined; content = calls_content }
