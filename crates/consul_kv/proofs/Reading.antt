-- The answer on a reply's value is the answer on its bytes.
use Rattle.std.proofs.Common.{◌≡◌, List, ℕ, inl, inr, refl, sym, subst, Option, Some, None, Result, Ok, Err}
use Rattle.serde_json.specs.Data.{Data}
use Rattle.dyn_config.specs.declared.config.Config.{Config}
use Rattle.consul_kv.specs.declared.config.KvFault.{KvFault}
use Rattle.consul_kv.specs.declared.config.KvFault.TheVariants as kv
use Rattle.std.specs.List.Sorted.{IsPermutation}
use Rattle.std.proofs.lemmas.List.Sorted.{IsPermutation-trans}
use Rattle.field_tree.specs.declared.tree.Tree.{Tree}
use Rattle.consul_kv.specs.Keys.{Pair, counted}
use Rattle.consul_kv.specs.Depths.{deep_place}
use Rattle.consul_kv.specs.Elements.{ArePairsOf}
use Rattle.consul_kv.specs.Reply.{IsJson, IsReplyRead, IsReadKv, IsListRead, AreApart, ArePairsRead, IsTreeOf, IsTreeRead, IsApartRead, AreKeysRead}

no_json : (pairs : List Pair) (root : List ℕ) (deep : Option ℕ) → IsApartRead pairs root deep (Err kv.NotJson) → ⊥
no_json pairs root (Some at) h = cc h.1
no_json pairs root None h = h.2

no_base64 : (pairs : List Pair) (root : List ℕ) (deep : Option ℕ) (n : ℕ) → IsApartRead pairs root deep (Err (kv.NotBase64 n)) → ⊥
no_base64 pairs root (Some at) n h = cc h.1
no_base64 pairs root None n h = h.2

no_text : (pairs : List Pair) (root : List ℕ) (deep : Option ℕ) (n : ℕ) → IsApartRead pairs root deep (Err (kv.NotText n)) → ⊥
no_text pairs root (Some at) n h = cc h.1
no_text pairs root None n h = h.2

never : (whole : Data) (root : List ℕ) → IsReplyRead whole root (Err kv.NotJson) → ⊥
never whole root (inl h) = no_json (counted root h.2.0) root (deep_place root h.0) h.2.2
never whole root (inr h) = cc h.1

pub read_as : (bytes root : List ℕ) (whole : Data) (r : Result Config KvFault) → IsJson bytes whole → IsReplyRead whole root r → IsReadKv bytes root r
read_as bytes root whole (Ok config) j h = (whole, j, h)
read_as bytes root whole (Err kv.NotJson) j h = absurd (never whole root h)
read_as bytes root whole (Err (kv.Shape at)) j h = (whole, j, h)
read_as bytes root whole (Err (kv.NotBase64 at)) j h = (whole, j, h)
read_as bytes root whole (Err (kv.NotText at)) j h = (whole, j, h)
read_as bytes root whole (Err (kv.Clash key)) j h = (whole, j, h)
read_as bytes root whole (Err (kv.Config fault)) j h = (whole, j, h)
read_as bytes root whole (Err kv.Memory) j h = tt

-- where a key is too deep
pub deep_read : (pairs : List Pair) (root : List ℕ) (deep : Option ℕ) (at : ℕ) → deep ≡ Some at → AreApart root pairs → AreKeysRead pairs root deep (Err (kv.Shape at))
deep_read pairs root deep at same apart =
    let P : Option ℕ → Type 0 = λ o. IsApartRead pairs root o (Err (kv.Shape at)) in
    subst P (sym same) (apart, refl)

-- where none is
pub keys_read : (pairs : List Pair) (root : List ℕ) (t : Tree) (r : Result Config KvFault) → IsTreeOf root pairs t → IsTreeRead t r → AreKeysRead pairs root None r
keys_read pairs root t (Ok config) h d = (t, h, d)
keys_read pairs root t (Err kv.NotJson) h d = absurd d
keys_read pairs root t (Err (kv.Shape at)) h d = absurd d
keys_read pairs root t (Err (kv.NotBase64 at)) h d = absurd d
keys_read pairs root t (Err (kv.NotText at)) h d = absurd d
keys_read pairs root t (Err (kv.Clash key)) h d = absurd d
keys_read pairs root t (Err (kv.Config fault)) h d = (t, h, d)
keys_read pairs root t (Err kv.Memory) h d = tt

tree_moved : (root : List ℕ) (pairs ordered : List Pair) (t : Tree) → IsPermutation pairs ordered → IsTreeOf root ordered t → IsTreeOf root pairs t
tree_moved root pairs ordered t p h = (h.0, IsPermutation-trans pairs ordered h.0 p h.1, h.2, h.3)

apart_moved : (pairs ordered : List Pair) (root : List ℕ) (deep : Option ℕ) (r : Result Config KvFault) → IsPermutation pairs ordered → IsApartRead ordered root deep r
    → IsApartRead pairs root deep r
apart_moved pairs ordered root (Some at) r p h = ((h.0.0, IsPermutation-trans pairs ordered h.0.0 p h.0.1, h.0.2), h.1)
apart_moved pairs ordered root None r p h = (h.0, tree_moved root pairs ordered h.0 p h.1, h.2)

-- the order of the pairs doesn't count
pub keys_moved : (pairs ordered : List Pair) (root : List ℕ) (deep : Option ℕ) (r : Result Config KvFault) → IsPermutation pairs ordered → AreKeysRead ordered root deep r
    → AreKeysRead pairs root deep r
keys_moved pairs ordered root deep (Ok config) p h = apart_moved pairs ordered root deep (Ok config) p h
keys_moved pairs ordered root deep (Err kv.NotJson) p h = apart_moved pairs ordered root deep (Err kv.NotJson) p h
keys_moved pairs ordered root deep (Err (kv.Shape at)) p h = apart_moved pairs ordered root deep (Err (kv.Shape at)) p h
keys_moved pairs ordered root deep (Err (kv.NotBase64 at)) p h = apart_moved pairs ordered root deep (Err (kv.NotBase64 at)) p h
keys_moved pairs ordered root deep (Err (kv.NotText at)) p h = apart_moved pairs ordered root deep (Err (kv.NotText at)) p h
keys_moved pairs ordered root deep (Err (kv.Clash key)) p h = (h.0, IsPermutation-trans pairs ordered h.0 p h.1, h.2)
keys_moved pairs ordered root deep (Err (kv.Config fault)) p h = apart_moved pairs ordered root deep (Err (kv.Config fault)) p h
keys_moved pairs ordered root deep (Err kv.Memory) p h = tt

pairs_read : (elements : List Data) (all : List Pair) (root : List ℕ) (deep : Option ℕ) (r : Result Config KvFault) → ArePairsOf elements all → deep ≡ deep_place root elements
    → AreKeysRead (counted root all) root deep r → ArePairsRead elements root r
pairs_read elements all root deep r are same h =
    let P : Option ℕ → Type 0 = λ o. AreKeysRead (counted root all) root o r in
    (all, are, subst P same h)

-- the elements are sound, and this is the answer on their pairs
pub list_read : (elements : List Data) (all : List Pair) (root : List ℕ) (deep : Option ℕ) (r : Result Config KvFault) → ArePairsOf elements all → deep ≡ deep_place root elements
    → AreKeysRead (counted root all) root deep r → IsListRead elements root r
list_read elements all root deep (Ok config) are same h = pairs_read elements all root deep (Ok config) are same h
list_read elements all root deep (Err kv.NotJson) are same h = pairs_read elements all root deep (Err kv.NotJson) are same h
list_read elements all root deep (Err (kv.Shape at)) are same h = inr (pairs_read elements all root deep (Err (kv.Shape at)) are same h)
list_read elements all root deep (Err (kv.NotBase64 at)) are same h = absurd (no_base64 (counted root all) root deep at h)
list_read elements all root deep (Err (kv.NotText at)) are same h = absurd (no_text (counted root all) root deep at h)
list_read elements all root deep (Err (kv.Clash key)) are same h = pairs_read elements all root deep (Err (kv.Clash key)) are same h
list_read elements all root deep (Err (kv.Config fault)) are same h = pairs_read elements all root deep (Err (kv.Config fault)) are same h
list_read elements all root deep (Err kv.Memory) are same h = tt
