use Rattle.std.proofs.Common.{◌≡◌, ◌++◌, take}
use Rattle.middleware_chain.specs.Lines.{lines_of}
use Rattle.middleware_chain.proofs.lines.push_lines.Given as goal

abbrev pub invariant-loop-middleware : goal.invariant-loop-middleware
invariant-loop-middleware l = l.out.items ≡ l.initial.out.items ++ lines_of (take l.middleware-index l.middlewares)
