-- Nodes by their names.
use Rattle.std.proofs.Common.{◌≡◌, ℕ, ◌+◌, ◌<◌, zero, suc, List, [], ◌∷◌, length, get_or, map, Bool, true, false, Option, Some, None, is_some, slice_get, cond, refl, sym, ap, subst, ◌∙◌, arith}
use Rattle.std.proofs.lemmas.Option.{slice_get_read}
use Rattle.std.specs.Prelude.{bytes_eq}
use Rattle.std.proofs.lemmas.Bool.{false≢true}
use Rattle.router_table.specs.Settings.{is_listed}
use Rattle.service_nodes.specs.Nodes.{node_number_from}
use Rattle.service_nodes.specs.declared.node.Node.{Node}
use Rattle.runtime_config.specs.Usable.{name_of}

listed_by : (n : ℕ) (node : Node) (nodes : List Node) (name : List ℕ) (b : Bool) → bytes_eq node.name name ≡ b
    → is_listed (map name_of nodes) name ≡ is_some (node_number_from (n + 1) nodes name)
    → is_listed (map name_of (node ∷ nodes)) name ≡ is_some (node_number_from n (node ∷ nodes) name)
listed_by n node nodes name true e rest = rw e refl
listed_by n node nodes name false e rest = rw e rest

-- a name is listed exactly where it has a number
pub listed_numbered : (n : ℕ) (nodes : List Node) (name : List ℕ) → is_listed (map name_of nodes) name ≡ is_some (node_number_from n nodes name)
listed_numbered n [] name = refl
listed_numbered n (node ∷ nodes) name = listed_by n node nodes name (bytes_eq node.name name) refl (listed_numbered (n + 1) nodes name)

some_same : (a b : ℕ) → Some a ≡ Some b → a ≡ b
some_same a b e = cc

none_some : (a : ℕ) → None ≡ Some a → ⊥
none_some a e = cc

within_by : (n k : ℕ) (node : Node) (nodes : List Node) (name : List ℕ) (b : Bool) → bytes_eq node.name name ≡ b
    → (node_number_from (n + 1) nodes name ≡ Some k → k < (n + 1) + length nodes)
    → cond b (Some n) (node_number_from (n + 1) nodes name) ≡ Some k → k < n + length (node ∷ nodes)
within_by n k node nodes name true e later h = let same : n ≡ k = some_same n k h in omega (arith, same)
within_by n k node nodes name false e later h = let l : k < (n + 1) + length nodes = later h in omega (arith, l)

within_from : (n k : ℕ) (nodes : List Node) (name : List ℕ) → node_number_from n nodes name ≡ Some k → k < n + length nodes
within_from n k [] name h = absurd (none_some k h)
within_from n k (node ∷ nodes) name h =
    within_by n k node nodes name (bytes_eq node.name name) refl (within_from (n + 1) k nodes name) h

-- numbers are those of nodes
pub number_within : (nodes : List Node) (name : List ℕ) (k : ℕ) → node_number_from 0 nodes name ≡ Some k → k < length nodes
number_within nodes name k h = let l : k < 0 + length nodes = within_from 0 k nodes name h in omega (arith, l)

-- the number of a name is that of a node
pub number_inside : (items nodes : List Node) (name : List ℕ) (k : ℕ) → items ≡ nodes → Some k ≡ node_number_from 0 nodes name → k < length items
number_inside items nodes name k same h =
    let P : List Node → Type 0 = λ ns. k < length ns in
    subst P (sym same) (number_within nodes name k (sym h))

-- the node that was read has this number
pub node_read : (items nodes : List Node) (name : List ℕ) (k : ℕ) (node : Node) → items ≡ nodes → Some k ≡ node_number_from 0 nodes name → node ≡ get_or items k node
    → slice_get nodes k ≡ Some node
node_read items nodes name k node same h is =
    ap (λ (ns : List Node). slice_get ns k) (sym same) ∙ slice_get_read items (length items) k node refl (number_inside items nodes name k same h) is
