use Rattle.http_wire.proofs.Heads.{told}
use Rattle.http_wire.proofs.requests.push_forwarding_fields.Goals as goal

pub returns : goal.returns
returns c =
    told c.args.address.now c.args.host.now c.port_in.result.now _ _ _ _ _ _ c.port_in.ensures c.in_ok-push.ensures.ok c.in_ok-push-2.ensures.ok
    c.in_ok-push-3.ensures.ok c.in_ok-push_whole.ensures.ok c.in_ok-push-4.ensures.ok
