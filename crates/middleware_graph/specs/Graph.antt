-- Chains and their members.
use Rattle.std.specs.Prelude.{ℕ, zero, suc, nat_le, if◌then◌else◌, List, [], ◌∷◌, ◌++◌, length, Contains, slice_get, Option, Some, None, option_map, option_and_then}
use Rattle.middleware_graph.specs.declared.node.Node.{Node}
use Rattle.middleware_graph.specs.declared.node.Node.TheVariants.{Stage, Faulty, Chain}

-- the members of a chain, by their places; None is one that isn't declared
abbrev pub members_of : Option Node → List (Option ℕ)
members_of (Some (Chain members)) = members
members_of (Some Stage) = []
members_of (Some (Faulty f)) = []
members_of None = []

-- the middleware at x is a chain that has the one at y as a member
abbrev pub HasMember : List Node → ℕ → ℕ → Type 0
HasMember nodes x y = Contains (members_of (slice_get nodes x)) (Some y)

-- x leads to y: it has y as a member, or a member that leads to y
pub data LeadsTo (nodes : List Node) : ℕ → ℕ → Type 0 where
  at_once : (x y : ℕ) → HasMember nodes x y → LeadsTo nodes x y
  through : (x y z : ℕ) → HasMember nodes x y → LeadsTo nodes y z → LeadsTo nodes x z

-- a list of at most 64
abbrev pub if_few : Option (List ℕ) → Option (List ℕ)
if_few None = None
if_few (Some places) = if nat_le (length places) 64 then Some places else None

-- what the members stand for, one after another, where each stands for something
abbrev pub joined : (Option ℕ → Option (List ℕ)) → List (Option ℕ) → Option (List ℕ)
joined each [] = Some []
joined each (m ∷ ms) = option_and_then (λ front. option_map (λ back. front ++ back) (joined each ms)) (each m)

-- what a middleware stands for: itself, or its members in its place; `each` says what they stand for
abbrev pub flat_of : (Option ℕ → Option (List ℕ)) → ℕ → Option Node → Option (List ℕ)
flat_of each place None = None
flat_of each place (Some Stage) = Some (place ∷ [])
flat_of each place (Some (Faulty f)) = None
flat_of each place (Some (Chain members)) = if_few (joined each members)

abbrev pub flat_next : List Node → (Option ℕ → Option (List ℕ)) → Option ℕ → Option (List ℕ)
flat_next nodes each None = None
flat_next nodes each (Some place) = flat_of each place (slice_get nodes place)

-- the middlewares that a member stands for, in order: none where that is more than 64 or is found only deeper than this
abbrev pub flat : List Node → ℕ → Option ℕ → Option (List ℕ)
flat nodes zero m = None
flat nodes (suc depth) m = flat_next nodes (flat nodes depth) m

-- how deep a chain may be, a middleware that is no chain being 1 deep
unfoldable pub max_depth : ℕ
max_depth = 8
