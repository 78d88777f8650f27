-- What the bytes of Consul's reply are as a configuration, step by step.
use Rattle.std.specs.Prelude.{◌≡◌, ◌≢◌, ℕ, ◌⊎◌, true, List, length, drop, map, Option, Some, None, Result, Ok, Err, IsUtf8}
use Rattle.std.specs.List.Sorted.{IsPermutation}
use Rattle.serde_json.specs.Data.{Data, array}
use Rattle.serde_json.specs.Read.{read}
use Rattle.serde_json.specs.Find.{as_array}
use Rattle.serde_json.specs.View.{items_of}
use Rattle.field_tree.specs.declared.tree.Tree.{Tree}
use Rattle.field_tree.specs.declared.tree.Tree.TheVariants as tree
use Rattle.field_tree.specs.declared.values.Style.TheVariants.{Texts}
use Rattle.dyn_config.specs.declared.config.Config.{Config}
use Rattle.dyn_config.specs.declared.fault.ConfigFault.TheVariants as config
use Rattle.dyn_config.specs.Decoding.{IsDecoded}
use Rattle.consul_kv.specs.Keys.{Pair, counted, IsFirstClash, HasNoClash}
use Rattle.consul_kv.specs.Elements.{ArePairsOf, IsFirstFaulty}
use Rattle.consul_kv.specs.Depths.{deep_place}
use Rattle.consul_kv.specs.Leaves.{field_leaves, fields_grown}
use Rattle.consul_kv.specs.declared.element.ElementFault.TheVariants as element
use Rattle.consul_kv.specs.declared.config.KvFault.{KvFault}
use Rattle.consul_kv.specs.declared.config.KvFault.TheVariants as kv

-- a pair with what its key has behind the root
abbrev pub behind : List ℕ → Pair → Pair
behind root pair = (drop (length root) pair.0, pair.1)

-- the texts of these fields, each under its keys, are the values, each under what its key has behind the root. In each
-- table, this one too, the keys rise and none of them has a slash, and no table below this one is empty
pub record AreFieldsOf (root : List ℕ) (pairs : List Pair) (fields : List (List ℕ × Tree)) : Type 0 where
  pub texts : field_leaves fields ≡ map (behind root) pairs
  pub grown : fields_grown fields ≡ true

abbrev pub IsTableOf : List ℕ → List Pair → Tree → Type 0
IsTableOf root pairs t = (fields : List (List ℕ × Tree)) × AreFieldsOf root pairs fields × (t ≡ tree.Table fields)

-- the pairs in some order are this tree
abbrev pub IsTreeOf : List ℕ → List Pair → Tree → Type 0
IsTreeOf root pairs t = (ordered : List Pair) × IsPermutation pairs ordered × HasNoClash root ordered × IsTableOf root ordered t

-- what reading a tree of texts answers
abbrev pub IsTreeRead : Tree → Result Config KvFault → Type 0
IsTreeRead t (Ok config) = IsDecoded Texts t (Ok config)
IsTreeRead t (Err (kv.Config fault)) = (fault ≢ config.Memory) × IsDecoded Texts t (Err fault)
IsTreeRead t (Err kv.Memory) = Unit {0}
IsTreeRead t _ = ⊥

-- no two of the pairs clash, in whatever order they stand
abbrev pub AreApart : List ℕ → List Pair → Type 0
AreApart root pairs = (ordered : List Pair) × IsPermutation pairs ordered × HasNoClash root ordered

-- what reading pairs that don't clash answers: the shape of the first element with too many slashes, or the answer on their tree
abbrev pub IsApartRead : List Pair → List ℕ → Option ℕ → Result Config KvFault → Type 0
IsApartRead pairs root (Some at) result = AreApart root pairs × (result ≡ Err (kv.Shape at))
IsApartRead pairs root None result = (t : Tree) × IsTreeOf root pairs t × IsTreeRead t result

-- what reading the pairs that count answers: the first clash, or the answer where there is none
abbrev pub AreKeysRead : List Pair → List ℕ → Option ℕ → Result Config KvFault → Type 0
AreKeysRead pairs root deep (Err (kv.Clash key)) = (ordered : List Pair) × IsPermutation pairs ordered × IsFirstClash root ordered key
AreKeysRead pairs root deep (Err kv.Memory) = Unit {0}
AreKeysRead pairs root deep result = IsApartRead pairs root deep result

-- each element is sound, and this is the answer on those of the pairs that count
abbrev pub ArePairsRead : List Data → List ℕ → Result Config KvFault → Type 0
ArePairsRead elements root result = (all : List Pair) × ArePairsOf elements all × AreKeysRead (counted root all) root (deep_place root elements) result

-- what reading a list of elements answers: the first element with a fault, or the answer on the pairs
abbrev pub IsListRead : List Data → List ℕ → Result Config KvFault → Type 0
IsListRead elements root (Err (kv.Shape at)) = IsFirstFaulty elements at element.Shape ⊎ ArePairsRead elements root (Err (kv.Shape at))
IsListRead elements root (Err (kv.NotBase64 at)) = IsFirstFaulty elements at element.NotBase64
IsListRead elements root (Err (kv.NotText at)) = IsFirstFaulty elements at element.NotText
IsListRead elements root (Err kv.Memory) = Unit {0}
IsListRead elements root result = ArePairsRead elements root result

-- what reading a JSON value answers: it is a list, or its shape is the fault
abbrev pub IsReplyRead : Data → List ℕ → Result Config KvFault → Type 0
IsReplyRead whole root result =
    ((elements : List Data) × (whole ≡ array (items_of elements)) × IsListRead elements root result)
    ⊎ ((as_array whole ≡ None) × (result ≡ Err (kv.Shape 0)))

-- the bytes are JSON text of this value
abbrev pub IsJson : List ℕ → Data → Type 0
IsJson bytes whole = IsUtf8 bytes × (read bytes ≡ Some whole)

-- what reading the reply for a root answers: it is no JSON, or the answer on its value
abbrev pub IsReadKv : List ℕ → List ℕ → Result Config KvFault → Type 0
IsReadKv bytes root (Err kv.NotJson) = (whole : Data) → ¬ (IsJson bytes whole)
IsReadKv bytes root (Err kv.Memory) = Unit {0}
IsReadKv bytes root result = (whole : Data) × IsJson bytes whole × IsReplyRead whole root result
