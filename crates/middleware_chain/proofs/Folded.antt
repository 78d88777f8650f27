-- A chain, asked middleware by middleware.
use Rattle.std.proofs.Common.{◌≡◌, ◌∙◌, ℕ, ◌+◌, ◌-◌, ◌<◌, ◌≤◌, zero, suc, List, [], ◌∷◌, map, length, drop, get_or, Option, Some, None, Bool, true, false, refl, sym, ap, subst, inl, inr, add-one, arith, is_some}
use Rattle.std.specs.List.{list_all}
use Rattle.std.proofs.lemmas.Bool.{and_parts}
use Rattle.std.proofs.Math.Seq.{drop-cons}
use Rattle.std.proofs.lemmas.List.{drop_all, drop-map}
use Rattle.http_wire.specs.declared.message.Reply.{Reply}
use Rattle.http_wire.specs.declared.message.Request.{Request}
use Rattle.ip_net.specs.declared.ip.Ip.{Ip}
use Rattle.dyn_config.specs.declared.middleware.MiddlewareDef.{MiddlewareDef}
use Rattle.middleware_stage.specs.Effects.{IsPassed, IsReplied, IsStopped}
use Rattle.middleware_stage.specs.Stage.{stage_def}
use Rattle.middleware_stage.specs.declared.stage.Stage.{Stage}
use Rattle.middleware_chain.specs.Folds.{BackThrough, PassesOn, StopsAt, Through, ThroughFrom, least}
use Rattle.middleware_chain.specs.Stages.{are_built, built_at, def_at, def_of, defs_at, is_built}
use Rattle.middleware_chain.specs.declared.flow.Flow.{Flow}
use Rattle.middleware_chain.specs.declared.flow.Flow.TheVariants.{Pass, Stop}
use Rattle.middleware_chain.specs.declared.part.Part.{Part}

-- the middlewares from the place i on
pub from_here : (parts : List Part) (places : List ℕ) (i place : ℕ) → i < length places → place ≡ get_or places i 0
    → drop i (defs_at parts places) ≡ def_at parts place ∷ drop (i + 1) (defs_at parts places)
from_here parts places i place l at =
    let cut : drop i places ≡ place ∷ drop (suc i) places = drop-cons places i 0 l ∙ ap (λ x. x ∷ drop (suc i) places) (sym at) in
    rw add-one (drop-map (def_at parts) i places ∙ ap (map (def_at parts)) cut ∙ ap (λ ds. def_at parts place ∷ ds) (sym (drop-map (def_at parts) (suc i) places)))

-- what holds of each place
pub built_there : (parts : List Part) (places : List ℕ) (i d : ℕ) → are_built parts places ≡ true → i < length places → is_built parts (get_or places i d) ≡ true
built_there parts [] i d all l = absurd (omega (arith, l))
built_there parts (p ∷ ps) zero d all l = (and_parts (is_built parts p) (are_built parts ps) all).0
built_there parts (p ∷ ps) (suc i) d all l = built_there parts ps i d (and_parts (is_built parts p) (are_built parts ps) all).1 (omega (arith, l))

def_there : (parts : List Part) (place : ℕ) (stage : Stage) → built_at parts place ≡ Some stage → def_at parts place ≡ stage_def stage
def_there parts place stage at = ap def_of at

-- the middleware at the place i passes the request on
pub passed_there : (parts : List Part) (places : List ℕ) (i place : ℕ) (stage : Stage) (q next : Request) (peer : Ip) (limit own new : Option ℕ) (flow : Flow)
    → i < length places → place ≡ get_or places i 0 → built_at parts place ≡ Some stage → IsPassed (stage_def stage) q peer next own
    → new ≡ least limit own → ThroughFrom (i + 1) new (drop (i + 1) (defs_at parts places)) next peer flow
    → ThroughFrom i limit (drop i (defs_at parts places)) q peer flow
passed_there parts places i place stage q next peer limit own new flow l at built passes e rest =
    let R : Option ℕ → Type 0 = λ o. ThroughFrom (i + 1) o (drop (i + 1) (defs_at parts places)) next peer flow in
    let P : List MiddlewareDef → Type 0 = λ ds. ThroughFrom i limit ds q peer flow in
    let Q : MiddlewareDef → Type 0 = λ d. IsPassed d q peer next own in
    subst P (sym (from_here parts places i place l at))
    (inr (record { next = next; own = own; passed = subst Q (sym (def_there parts place stage built)) passes; rest = subst R e rest }))

-- it stops the request
pub stopped_there : (parts : List Part) (places : List ℕ) (i place : ℕ) (stage : Stage) (q : Request) (peer : Ip) (limit : Option ℕ) (status : ℕ) (location : Option (List ℕ))
    → i < length places → place ≡ get_or places i 0 → built_at parts place ≡ Some stage → IsStopped (stage_def stage) q peer status location
    → ThroughFrom i limit (drop i (defs_at parts places)) q peer (Stop i status location)
stopped_there parts places i place stage q peer limit status location l at built stops =
    let P : List MiddlewareDef → Type 0 = λ ds. ThroughFrom i limit ds q peer (Stop i status location) in
    let Q : MiddlewareDef → Type 0 = λ d. IsStopped d q peer status location in
    subst P (sym (from_here parts places i place l at)) (inl (refl, subst Q (sym (def_there parts place stage built)) stops))

none_left : (parts : List Part) (places : List ℕ) (i : ℕ) → length places ≤ i → drop i (defs_at parts places) ≡ []
none_left parts places i over = drop-map (def_at parts) i places ∙ ap (map (def_at parts)) (drop_all i places over)

-- all were asked
pub all_passed : (parts : List Part) (places : List ℕ) (i : ℕ) (q : Request) (peer : Ip) (limit : Option ℕ) → length places ≤ i
    → ThroughFrom i limit (drop i (defs_at parts places)) q peer (Pass q limit)
all_passed parts places i q peer limit over =
    let P : List MiddlewareDef → Type 0 = λ ds. ThroughFrom i limit ds q peer (Pass q limit) in
    subst P (sym (none_left parts places i over)) refl

-- no middleware was asked of the reply yet
pub back_first : (parts : List Part) (places : List ℕ) (n : ℕ) (a : Reply) → length places ≤ n → BackThrough (drop n (defs_at parts places)) a a
back_first parts places n a over =
    let P : List MiddlewareDef → Type 0 = λ ds. BackThrough ds a a in
    subst P (sym (none_left parts places n over)) refl

-- one more was
pub back_next : (parts : List Part) (places : List ℕ) (i n place : ℕ) (stage : Stage) (a between new : Reply)
    → i < length places → n ≡ i + 1 → place ≡ get_or places i 0 → built_at parts place ≡ Some stage → IsReplied (stage_def stage) between new
    → BackThrough (drop n (defs_at parts places)) a between → BackThrough (drop i (defs_at parts places)) a new
back_next parts places i n place stage a between new l e at built replies before =
    let P : List MiddlewareDef → Type 0 = λ ds. BackThrough ds a new in
    let Q : MiddlewareDef → Type 0 = λ d. IsReplied d between new in
    let R : ℕ → Type 0 = λ k. BackThrough (drop k (defs_at parts places)) a between in
    subst P (sym (from_here parts places i place l at)) (between, subst R e before, subst Q (sym (def_there parts place stage built)) replies)

-- all were
pub back_done : (parts : List Part) (places : List ℕ) (n : ℕ) (a new : Reply) → n ≤ 0 → BackThrough (drop n (defs_at parts places)) a new → BackThrough (defs_at parts places) a new
back_done parts places zero a new l before = before
back_done parts places (suc n) a new l before = absurd (omega (arith, l))
