-- What contracts see of the pairs of a reply.
use Rattle.std.specs.Prelude.{Result, Ok, Err}
use Rattle.consul_kv.specs.Keys.{Pair}
use Rattle.consul_kv.specs.declared.element.Pair.{Pair as Held}
use Rattle.consul_kv.specs.declared.element.ElementFault.{ElementFault}

abbrev pub pair_view : Held → Pair
pair_view pair = (pair.key.now, pair.value)

abbrev pub read_view : Result Held ElementFault → Result Pair ElementFault
read_view (Ok pair) = Ok (pair_view pair)
read_view (Err fault) = Err fault
