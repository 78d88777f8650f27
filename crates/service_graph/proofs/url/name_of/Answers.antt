use Rattle.std.proofs.lemmas.Bool.{false≢true}
use Rattle.service_graph.proofs.Hosts.{name_cut, name_alone}
use Rattle.service_graph.proofs.url.name_of.Goals as goal

pub returns-then-not-is_name : goal.returns-then-not-is_name
returns-then-not-is_name c = λ host port a.
    false≢true (c.if-not-is_name.ensures.1 (name_cut c.args.text.now host c.in-Some.digits.now c.in-Some.host.now port c.in-Some.ensures.0 c.in-Some.ensures.1 c.requires a).0)

pub returns-in-None-port_of : goal.returns-in-None-port_of
returns-in-None-port_of c = λ host port a.
    c.in-None-port_of.ensures port (name_cut c.args.text.now host c.in-Some.digits.now c.in-Some.host.now port c.in-Some.ensures.0 c.in-Some.ensures.1 c.requires a).1

pub returns-else-is_name : goal.returns-else-is_name
returns-else-is_name c = λ host port a.
    false≢true (c.if-is_name.ensures.1 (name_alone c.args.text.now host port c.in-None.ensures c.requires a))
