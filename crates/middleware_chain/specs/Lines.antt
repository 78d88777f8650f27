-- The lines of middlewares as `check` is to write them.
use Rattle.std.specs.Prelude.{ℕ, List, ◌++◌, codes, flat_map}
use Rattle.middleware_graph.specs.declared.fault.MiddlewareFault.{MiddlewareFault}
use Rattle.middleware_graph.specs.declared.fault.MiddlewareFault.TheVariants as fault
use Rattle.middleware_graph.specs.declared.state.State.{State}
use Rattle.middleware_graph.specs.declared.state.State.TheVariants.{Enabled, Disabled}
use Rattle.middleware_chain.specs.Counts.{Listed}

abbrev pub fault_word : MiddlewareFault → List ℕ
fault_word fault.Unsupported = codes "Unsupported"
fault_word fault.Value = codes "Value"
fault_word fault.TooManyPatterns = codes "TooManyPatterns"
fault_word fault.Syntax = codes "Syntax"
fault_word fault.TooBig = codes "TooBig"
fault_word fault.Missing = codes "Missing"
fault_word fault.Cycle = codes "Cycle"
fault_word fault.Child = codes "Child"
fault_word fault.TooDeep = codes "TooDeep"

abbrev pub state_text : State → List ℕ
state_text (Enabled count) = codes " enabled\n"
state_text (Disabled f) = codes " disabled " ++ fault_word f ++ codes "\n"

abbrev pub middleware_line : Listed → List ℕ
middleware_line m = codes "middleware " ++ m.0 ++ state_text m.1

abbrev pub lines_of : List Listed → List ℕ
lines_of middlewares = flat_map middleware_line middlewares
