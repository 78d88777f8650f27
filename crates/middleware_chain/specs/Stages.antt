-- What is built at the places of middlewares.
use Rattle.std.specs.Prelude.{◌≡◌, ℕ, Bool, true, List, [], length, map, option_map, Option, Some, None, is_some, slice_get}
use Rattle.std.specs.List.{list_all}
use Rattle.dyn_config.specs.declared.middleware.MiddlewareDef.{MiddlewareDef}
use Rattle.dyn_config.specs.declared.middleware.MiddlewareDef.TheVariants as def
use Rattle.middleware_graph.specs.Tables.{told}
use Rattle.middleware_graph.specs.declared.state.State.{State}
use Rattle.middleware_graph.specs.declared.state.State.TheVariants.{Enabled}
use Rattle.middleware_stage.specs.Stage.{stage_def}
use Rattle.middleware_stage.specs.declared.stage.Stage.{Stage}
use Rattle.middleware_chain.specs.declared.part.Part.{Part}
use Rattle.middleware_chain.specs.declared.part.Part.TheVariants as part

abbrev pub stage_of : Option Part → Option Stage
stage_of None = None
stage_of (Some (part.Stage stage)) = Some stage
stage_of (Some (part.Faulty f)) = None
stage_of (Some (part.Chain members)) = None

-- what is built at a place: nothing where a chain or a disabled middleware stands there
abbrev pub built_at : List Part → ℕ → Option Stage
built_at parts place = stage_of (slice_get parts place)

abbrev pub is_built : List Part → ℕ → Bool
is_built parts place = is_some (built_at parts place)

-- something is built at each of the places
abbrev pub are_built : List Part → List ℕ → Bool
are_built parts places = list_all (is_built parts) places

abbrev pub def_of : Option Stage → MiddlewareDef
def_of None = def.Unsupported
def_of (Some stage) = stage_def stage

-- how what is built at a place was declared; `Unsupported`, which neither passes a request on nor stops it, where nothing is
abbrev pub def_at : List Part → ℕ → MiddlewareDef
def_at parts place = def_of (built_at parts place)

abbrev pub defs_at : List Part → List ℕ → List MiddlewareDef
defs_at parts places = map (def_at parts) places

-- a middleware that can be used stands for as many as its state says
abbrev pub AreCounted : List (List ℕ × State) → List (Option (List ℕ)) → Type 0
AreCounted middlewares flats =
    (place : ℕ) (m : List ℕ × State) (count : ℕ) → slice_get middlewares place ≡ Some m → m.1 ≡ Enabled count → option_map length (told (slice_get flats place)) ≡ Some count

-- something is built at each place that a middleware stands for
abbrev pub AreAllBuilt : List Part → List (Option (List ℕ)) → Type 0
AreAllBuilt parts flats = (place : ℕ) (places : List ℕ) → told (slice_get flats place) ≡ Some places → are_built parts places ≡ true
