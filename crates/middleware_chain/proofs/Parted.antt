-- Middlewares by themselves, one after another.
use Rattle.std.proofs.Common.{◌≡◌, ◌∙◌, ℕ, ◌+◌, ◌-◌, ◌^◌, ◌<◌, ◌≤◌, min, zero, suc, true, false, Bool, ◌&&◌, List, [], ◌∷◌, ◌++◌, length, map, drop, get_or, count_by, refl, sym, ap, subst, append_assoc, append-nil, add-one, arith, cond}
use Rattle.std.specs.List.{list_all}
use Rattle.std.proofs.lemmas.Bool.{and_parts, leb-true}
use Rattle.std.proofs.Math.Seq.{drop-cons}
use Rattle.std.proofs.lemmas.List.{drop_all, length-map}
use Rattle.std.proofs.lemmas.List.Sums.{sum_by_push}
use Rattle.px_base.specs.Bytes.{Rose}
use Rattle.dyn_config.specs.Joined.{is_qualified}
use Rattle.dyn_config.specs.declared.middleware.MiddlewareDef.{MiddlewareDef}
use Rattle.middleware_graph.specs.declared.fault.MiddlewareFault.{MiddlewareFault}
use Rattle.middleware_graph.specs.declared.fault.MiddlewareFault.TheVariants as fault
use Rattle.middleware_graph.specs.States.{AreStates}
use Rattle.middleware_graph.specs.declared.node.Node.{Node}
use Rattle.middleware_graph.specs.declared.state.State.{State}
use Rattle.middleware_stage.specs.Faults.{Blames, is_chain, pattern_count}
use Rattle.middleware_stage.specs.declared.stage.StageFault.{StageFault}
use Rattle.middleware_stage.specs.declared.stage.StageFault.TheVariants as own
use Rattle.middleware_chain.specs.Names.{MiddlewareEntry}
use Rattle.middleware_chain.specs.Parts.{AreParts, IsPart, IsStagePart, fault_of, is_of_pattern, is_refused, node_of, used_by}
use Rattle.middleware_chain.specs.declared.part.Part.{Part}
use Rattle.middleware_chain.specs.declared.part.Part.TheVariants as part

-- the patterns that a middleware uses were left
used_of_fault : (def : MiddlewareDef) (left : ℕ) (g : StageFault) → Blames def left g → cond (is_of_pattern (fault_of g)) (pattern_count def) 0 ≤ left
used_of_fault def left own.Unsupported b = omega arith
used_of_fault def left own.Value b = omega arith
used_of_fault def left own.TooManyPatterns b = omega arith
used_of_fault def left own.Syntax b = b.0.spared
used_of_fault def left own.TooBig b = b.0.fit.spared

pub used_within : (all : List MiddlewareEntry) (left : ℕ) (e : MiddlewareEntry) (p : Part) → IsPart all left e p → used_by e.def p ≤ left
used_within all left e (part.Stage stage) is = is.1.fit.spared
used_within all left e (part.Faulty f) (single, (g, same, blames)) =
    let P : MiddlewareFault → Type 0 = λ x. cond (is_of_pattern x) (pattern_count e.def) 0 ≤ left in
    subst P (sym same) (used_of_fault e.def left g blames)
used_within all left e (part.Chain members) is = omega arith

-- a middleware that is no chain is one
pub stage_is_part : (all : List MiddlewareEntry) (left : ℕ) (e : MiddlewareEntry) (p : Part) → is_chain e.def ≡ false → IsStagePart e.def left p → IsPart all left e p
stage_is_part all left e (part.Stage stage) single is = (single, is.0, is.1)
stage_is_part all left e (part.Faulty f) single is = (single, is)
stage_is_part all left e (part.Chain members) single is = absurd is

-- as many as there are middlewares
pub parts_long : (all : List MiddlewareEntry) (left : ℕ) (es : List MiddlewareEntry) (ps : List Part) (after : ℕ) → AreParts all left es ps after → length ps ≡ length es
parts_long all left [] [] after are = refl
parts_long all left [] (p ∷ ps) after are = absurd are
parts_long all left (e ∷ es) [] after are = absurd are
parts_long all left (e ∷ es) (p ∷ ps) after (is, rest) = ap suc (parts_long all (left - used_by e.def p) es ps after rest)

pub states_long : (all : List MiddlewareEntry) (spare : ℕ) (parts : List Part) (left : ℕ) (nodes : List Node) (states slice : List State) → AreParts all spare all parts left
    → nodes ≡ map node_of parts → slice ≡ states → AreStates nodes states → length slice ≡ length all
states_long all spare parts left nodes states slice are n s told =
    ap length s ∙ told.size ∙ ap length n ∙ length-map parts node_of ∙ parts_long all spare all parts left are

-- one more of them
part_more : (all : List MiddlewareEntry) (spare left after : ℕ) (e : MiddlewareEntry) (es : List MiddlewareEntry) (old new : List Part) (p : Part)
    → IsPart all left e p → after ≡ left - used_by e.def p → new ≡ old ++ p ∷ []
    → ((ps : List Part) (end : ℕ) → AreParts all left (e ∷ es) ps end → AreParts all spare all (old ++ ps) end)
    → (ps : List Part) (end : ℕ) → AreParts all after es ps end → AreParts all spare all (new ++ ps) end
part_more all spare left after e es old new p is leaves grown before ps end rest =
    let same : old ++ (p ∷ ps) ≡ new ++ ps = sym (append_assoc old (p ∷ []) ps) ∙ ap (λ w. w ++ ps) (sym grown) in
    let P : ℕ → Type 0 = λ n. AreParts all n es ps end in
    let Q : List Part → Type 0 = λ qs. AreParts all spare all qs end in
    subst Q same (before (p ∷ ps) end (is, subst P leaves rest))

pub part_next : (all : List MiddlewareEntry) (spare left after : ℕ) (i : ℕ) (e : MiddlewareEntry) (old new : List Part) (p : Part)
    → i < length all → e ≡ get_or all i e → IsPart all left e p → after ≡ left - used_by e.def p → new ≡ old ++ p ∷ []
    → ((ps : List Part) (end : ℕ) → AreParts all left (drop i all) ps end → AreParts all spare all (old ++ ps) end)
    → (ps : List Part) (end : ℕ) → AreParts all after (drop (i + 1) all) ps end → AreParts all spare all (new ++ ps) end
part_next all spare left after i e old new p l at is leaves grown before =
    let cut : drop i all ≡ e ∷ drop (i + 1) all = rw add-one (drop-cons all i e l ∙ ap (λ x. x ∷ drop (suc i) all) (sym at)) in
    part_more all spare left after e (drop (i + 1) all) old new p is leaves grown
    (λ ps end are. let Q : List MiddlewareEntry → Type 0 = λ es. AreParts all left es ps end in before ps end (subst Q (sym cut) are))

pub parts_done : (all : List MiddlewareEntry) (spare left i : ℕ) (parts : List Part) → length all ≤ i
    → ((ps : List Part) (end : ℕ) → AreParts all left (drop i all) ps end → AreParts all spare all (parts ++ ps) end) → AreParts all spare all parts left
parts_done all spare left i parts over before =
    let none : drop i all ≡ [] = drop_all i all over in
    let Q : List MiddlewareEntry → Type 0 = λ es. AreParts all left es [] left in
    let R : List Part → Type 0 = λ ps. AreParts all spare all ps left in
    subst R (append-nil parts) (before [] left (subst Q (sym none) refl))

provider_of : (e : MiddlewareEntry) → is_qualified e ≡ true → e.provider ≤ 1
provider_of e q = leb-true e.provider 1 (and_parts _ _ (and_parts _ _ q).0).0

-- each provider is the file or Consul
pub provider_at : (es : List MiddlewareEntry) → list_all is_qualified es ≡ true → (k : ℕ) (d : MiddlewareEntry) → k < length es → (get_or es k d).provider ≤ 1
provider_at [] all k d l = absurd (omega (arith, l))
provider_at (e ∷ es) all zero d l = provider_of e (and_parts (is_qualified e) (list_all is_qualified es) all).0
provider_at (e ∷ es) all (suc k) d l = provider_at es (and_parts (is_qualified e) (list_all is_qualified es) all).1 k d (omega (arith, l))

counted : (r c : ℕ) (b : Bool) (old new : ℕ) → min (r + c) (2 ^ 64 - 1) ≤ old → old ≤ new → (b ≡ true → Rose old new) → min (r + (c + cond b 1 0)) (2 ^ 64 - 1) ≤ new
counted r c true old new before later rose = let h : min (old + 1) (2 ^ 64 - 1) ≤ new = rose refl in omega (arith, before, h)
counted r c false old new before later rose = omega (arith, before, later)

-- the count of refusals after one more
pub refused_more : (start : ℕ) (parts grown : List Part) (p : Part) (old new : ℕ)
    → min (start + count_by is_refused parts) (2 ^ 64 - 1) ≤ old → old ≤ new → (is_refused p ≡ true → Rose old new)
    → grown ≡ parts ++ p ∷ [] → min (start + count_by is_refused grown) (2 ^ 64 - 1) ≤ new
refused_more start parts grown p old new before later rose e =
    let sums : count_by is_refused grown ≡ count_by is_refused parts + cond (is_refused p) 1 0 =
    ap (count_by is_refused) e ∙ sum_by_push (λ (q : Part). cond (is_refused q) 1 0) parts p in
    rw sums (counted start (count_by is_refused parts) (is_refused p) old new before later rose)
