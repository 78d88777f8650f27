use Rattle.dyn_config.proofs.Fields.{health_made}
use Rattle.dyn_config.proofs.readers.read_health.Goals as goal

pub returns : goal.returns
returns c =
    health_made c.args.style c.args.tree.now c.in_ok-path.path c.in_ok-host.host c.in_ok-method.method c.in_ok-headers.headers c.short-port.result c.short-status.result c.time_under-interval.result c.time_under-timeout.result c.is_no_http-unsupported.result
    c.in_ok-path.ensures c.in_ok-host.ensures c.short-port.ensures c.in_ok-method.ensures c.in_ok-headers.ensures c.short-status.ensures c.time_under-interval.ensures c.time_under-timeout.ensures c.is_no_http-unsupported.ensures
