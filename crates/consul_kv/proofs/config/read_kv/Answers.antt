use Rattle.std.proofs.Common.{List, ℕ, subst}
use Rattle.serde_json.specs.View.{view}
use Rattle.consul_kv.specs.Reply.{IsReplyRead}
use Rattle.consul_kv.proofs.Reading.{read_as}
use Rattle.consul_kv.proofs.config.read_kv.Goals as goal

pub returns-in-Ok : goal.returns-in-Ok
returns-in-Ok c =
    let whole = view c.in-Ok.reply in
    read_as c.args.bytes.now c.args.root.now whole c.read_reply.result c.in-Ok.ensures.ok
    (subst (λ (r : List ℕ). IsReplyRead whole r c.read_reply.result) c.as_bytes.ensures.value c.read_reply.ensures)
