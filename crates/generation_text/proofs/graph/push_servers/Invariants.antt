use Rattle.std.proofs.Common.{◌≡◌, ◌++◌, drop}
use Rattle.generation_text.specs.Services.{server_lines}
use Rattle.generation_text.proofs.graph.push_servers.Given as goal

abbrev pub invariant-loop-place : goal.invariant-loop-place
invariant-loop-place l = l.text.items ++ server_lines l.number l.place (drop l.place l.servers) ≡ l.initial.text.items ++ server_lines l.number 0 l.servers
