-- What comes to a world in memory.
use Rattle.std.specs.Prelude.{◌≡◌, ℕ, List, [], map, false}
use Rattle.memory_world.specs.declared.script.Given.{Given}
use Rattle.memory_world.specs.declared.script.Given.TheVariants as given
use Rattle.memory_world.specs.declared.script.Item.{Item}
use Rattle.memory_world.specs.declared.script.Item.TheVariants as item
use Rattle.memory_world.specs.declared.script.Script.{Script}
use Rattle.memory_world.specs.declared.world.MemoryWorld.{MemoryWorld}

-- a step, of which nothing was taken yet
abbrev pub item_of : Given → Item
item_of (given.Arrive arrival) = item.Arrive arrival
item_of (given.Bytes link bytes) = item.Bytes link bytes 0
item_of (given.End link) = item.End link
item_of (given.Clock now) = item.Clock now
item_of given.Stop = item.Stop

-- these steps are to come, and none has come
pub record IsScriptOf (steps : List Given) (s : Script) : Type 0 where
  pub items : s.items.items ≡ map item_of steps
  pub released : s.released ≡ 0
  pub clock : s.clock ≡ 0

-- a world to which these steps come, of whose calls those listed fail, and in which nothing was done yet
pub record Begins (steps : List Given) (failing : List ℕ) (w : MemoryWorld) : Type 0 where
  pub script : IsScriptOf steps w.script
  pub failing_are : w.failing.listed.items ≡ failing
  pub no_calls : w.failing.calls ≡ 0
  pub no_log : w.book.log ≡ []
  pub no_links : w.book.marks ≡ []
  pub none_lost : w.book.lost ≡ false
  pub clock : w.clock ≡ 0
  pub waits : w.waits ≡ 0
  pub waits_failed : w.waits_failed ≡ 0
  pub stops : w.stops ≡ 0
  pub clocked : w.clocked ≡ false
  pub no_more : w.no_more ≡ false
