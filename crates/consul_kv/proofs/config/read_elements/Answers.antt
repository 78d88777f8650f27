use Rattle.std.proofs.Common.{sym, subst, List}
use Rattle.consul_kv.specs.Keys.{Pair}
use Rattle.consul_kv.specs.Reply.{AreKeysRead}
use Rattle.consul_kv.proofs.Reading.{list_read}
use Rattle.std.proofs.Common.{map}
use Rattle.serde_json.specs.View.{view}
use Rattle.consul_kv.specs.Keys.{AreBelow}
use Rattle.consul_kv.proofs.Lists.{counted_below}
use Rattle.consul_kv.proofs.config.read_elements.Goals as goal

pub read_keys-requires : goal.read_keys-requires
read_keys-requires c =
    let read = c.in-Ok.ensures in
    subst (AreBelow c.args.root.now) (sym read.2) (counted_below c.args.root.now read.0)

pub returns-in-Ok : goal.returns-in-Ok
returns-in-Ok c =
    let read = c.in-Ok.ensures in
    let P : List Pair → Type 0 = λ ps. AreKeysRead ps c.args.root.now c.deep_place.result c.read_keys.result in
    list_read (map view c.args.elements.now) read.0 c.args.root.now c.deep_place.result c.read_keys.result read.1 c.deep_place.ensures (subst P read.2 c.read_keys.ensures)
