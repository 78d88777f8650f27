-- Whether a middleware can be used, and the first reason why it can't.
use Rattle.std.specs.Prelude.{◌≡◌, ℕ, List, length, Any, Option, Some, None, slice_get}
use Rattle.middleware_graph.specs.declared.fault.MiddlewareFault.{MiddlewareFault}
use Rattle.middleware_graph.specs.declared.fault.MiddlewareFault.TheVariants as fault
use Rattle.middleware_graph.specs.declared.node.Node.{Node}
use Rattle.middleware_graph.specs.declared.node.Node.TheVariants as node
use Rattle.middleware_graph.specs.declared.state.State.{State}
use Rattle.middleware_graph.specs.declared.state.State.TheVariants.{Enabled, Disabled}
use Rattle.middleware_graph.specs.Graph.{LeadsTo, flat, max_depth}

-- the member stands for nothing: it isn't declared, or it is disabled
abbrev pub IsUnusable : List Node → Option ℕ → Type 0
IsUnusable nodes m = flat nodes max_depth m ≡ None

-- one of the members isn't declared
abbrev pub LacksOne : List (Option ℕ) → Type 0
LacksOne members = Any (λ m. m ≡ None) members

-- one of the members can't be used
abbrev pub HasUnusable : List Node → List (Option ℕ) → Type 0
HasUnusable nodes members = Any (IsUnusable nodes) members

-- the first reason against the chain at x with these members, which stands for nothing
abbrev pub IsStateOfChain : List Node → ℕ → List (Option ℕ) → MiddlewareFault → Type 0
IsStateOfChain nodes x members fault.Missing = LacksOne members
IsStateOfChain nodes x members fault.Cycle = ¬ (LacksOne members) × LeadsTo nodes x x
IsStateOfChain nodes x members fault.Child = ¬ (LacksOne members) × ¬ (LeadsTo nodes x x) × HasUnusable nodes members
-- each member can be used, but the chain is too deep or too long
IsStateOfChain nodes x members fault.TooDeep =
    ¬ (LacksOne members) × ¬ (LeadsTo nodes x x) × ¬ (HasUnusable nodes members) × IsUnusable nodes (Some x)
IsStateOfChain nodes x members fault.Unsupported = ⊥
IsStateOfChain nodes x members fault.Value = ⊥
IsStateOfChain nodes x members fault.TooManyPatterns = ⊥
IsStateOfChain nodes x members fault.Syntax = ⊥
IsStateOfChain nodes x members fault.TooBig = ⊥

-- a reason against the middleware at x: its own, or that of a chain
abbrev pub IsDisabled : List Node → ℕ → Node → MiddlewareFault → Type 0
IsDisabled nodes x node.Stage f = ⊥
IsDisabled nodes x (node.Faulty g) f = f ≡ g
IsDisabled nodes x (node.Chain members) f = IsStateOfChain nodes x members f

-- it stands for so many middlewares
abbrev pub StandsFor : List Node → ℕ → ℕ → Type 0
StandsFor nodes x count = (places : List ℕ) × (flat nodes max_depth (Some x) ≡ Some places) × (length places ≡ count)

-- the state of a chain with these members
abbrev pub IsChainState : List Node → ℕ → List (Option ℕ) → State → Type 0
IsChainState nodes x members (Enabled count) = StandsFor nodes x count
IsChainState nodes x members (Disabled f) = IsStateOfChain nodes x members f

-- it stands for so many middlewares, or this is the first reason against it
abbrev pub IsState : List Node → ℕ → Node → State → Type 0
IsState nodes x n (Enabled count) = StandsFor nodes x count
IsState nodes x n (Disabled f) = IsDisabled nodes x n f

-- each middleware has its state
pub record AreStates (nodes : List Node) (states : List State) : Type 0 where
  pub size : length states ≡ length nodes
  pub each : (x : ℕ) (n : Node) (s : State) → slice_get nodes x ≡ Some n → slice_get states x ≡ Some s → IsState nodes x n s
