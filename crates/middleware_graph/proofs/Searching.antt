-- What a search has seen, and that in the end it is all that a place leads to.
use Rattle.std.proofs.Common.{◌≡◌, ℕ, ◌<◌, ◌≤◌, ◌⊎◌, ◌↔◌, ◌++◌, ◌∷◌, [], inl, inr, Bool, List, length, Contains, slice_get, Option, Some, refl, sym, ◌∙◌, subst, arith}
use Rattle.std.proofs.lemmas.Bool.{cases_lt}
use Rattle.std.proofs.lemmas.Option.{slice_get_past}
use Rattle.std.proofs.lemmas.List.Elements.{Contains-push, Contains-push_cases, Contains-append_left}
use Rattle.middleware_graph.specs.declared.node.Node.{Node}
use Rattle.middleware_graph.specs.Graph.{HasMember, LeadsTo, at_once, through, members_of}
use Rattle.middleware_graph.specs.Visits.{IsSeen, Visited}
use Rattle.middleware_graph.proofs.Visiting.{nothing_in}

-- what is seen is what the place leads to, but for what waits to be looked into
pub record Searched (nodes : List Node) (place : ℕ) (seen : List Bool) (waiting : List ℕ) : Type 0 where
  pub size : length seen ≡ length nodes
  pub sound : (u : ℕ) → IsSeen seen u → LeadsTo nodes place u
  pub waits : (u : ℕ) → Contains waiting u → (u ≡ place) ⊎ IsSeen seen u
  pub closed : (u v : ℕ) → (u ≡ place) ⊎ IsSeen seen u → HasMember nodes u v → v < length nodes → IsSeen seen v ⊎ Contains waiting u

-- it begins with the place
pub searched_first : (nodes : List Node) (place : ℕ) (seen : List Bool) → length seen ≡ length nodes → ((u : ℕ) → ¬ (IsSeen seen u))
    → Searched nodes place seen (place ∷ [])
searched_first nodes place seen size none = record {
  size = size;
  sound = λ u h. absurd (none u h);
  waits = λ u h. elim (Contains-push_cases [] place u h) [ inl (i, l, at) ↦ absurd (omega (arith, l)) | inr e ↦ inl (sym e) ];
  closed = λ u v from has l. elim from [
    | inl e ↦ inr (subst (Contains (place ∷ [])) (sym e) (Contains-push [] place))
    | inr h ↦ absurd (none u h)
  ];
}

pub leads_on : (nodes : List Node) (x y z : ℕ) → LeadsTo nodes x y → HasMember nodes y z → LeadsTo nodes x z
leads_on nodes x y z (at_once _ _ has) more = through x y z has (at_once y z more)
leads_on nodes x y z (through _ w _ has rest) more = through x w z has (leads_on nodes w y z rest more)

-- one place more was looked into
pub searched_next : (nodes : List Node) (place : ℕ) (members : List (Option ℕ)) (seen seen' : List Bool) (waiting rest rest' : List ℕ) (next : ℕ) → members ≡ members_of (slice_get nodes next)
    → waiting ≡ rest ++ next ∷ [] → Visited members seen rest seen' rest' → Searched nodes place seen waiting → Searched nodes place seen' rest'
searched_next nodes place members seen seen' waiting rest rest' next are split v s =
    let in_waiting : (u : ℕ) → Contains rest u → Contains waiting u = λ u h. subst (λ ws. Contains ws u) (sym split) (Contains-append_left rest (next ∷ []) u h) in
    let next_waits : Contains waiting next = subst (λ ws. Contains ws next) (sym split) (Contains-push rest next) in
    let member : (u : ℕ) → Contains members (Some u) → HasMember nodes next u = λ u h. subst (λ ms. Contains ms (Some u)) are h in
    let has_member : (u : ℕ) → HasMember nodes next u → Contains members (Some u) = λ u h. subst (λ ms. Contains ms (Some u)) (sym are) h in
    let old : (u v : ℕ) → (u ≡ place) ⊎ IsSeen seen u → HasMember nodes u v → v < length nodes → IsSeen seen' v ⊎ Contains rest' u =
    λ u w from has l. elim (s.closed u w from has l) [
      | inl before ↦ inl (v.kept w before)
      | inr waited ↦ elim (Contains-push_cases rest next u (subst (λ ws. Contains ws u) split waited)) [
        | inl still ↦ inr (v.still u still)
        | inr e ↦ inl (v.all w (has_member w (subst (λ n. HasMember nodes n w) (sym e) has)) (omega (arith, s.size, l)))
      ]
    ] in
    record {
      size = v.size ∙ s.size;
      sound = λ u h. elim (v.came u h) [
        | inl before ↦ s.sound u before
        | inr (has, now) ↦ elim (s.waits next next_waits) [
          | inl e ↦ at_once place u (subst (λ n. HasMember nodes n u) e (member u has))
          | inr from ↦ leads_on nodes place next u (s.sound next from) (member u has)
        ]
      ];
      waits = λ u h. elim (v.new u h) [
        | inl before ↦ elim (s.waits u (in_waiting u before)) [ inl e ↦ inl e | inr from ↦ inr (v.kept u from) ]
        | inr now ↦ inr now
      ];
      closed = λ u w from has l. elim from [
        | inl e ↦ old u w (inl e) has l
        | inr now ↦ elim (v.came u now) [
          | inl before ↦ old u w (inr before) has l
          | inr (is, waits) ↦ inr waits
        ]
      ];
    }

no_members : (nodes : List Node) (x y : ℕ) → length nodes ≤ x → ¬ (HasMember nodes x y)
no_members nodes x y past has = nothing_in (Some y) (subst (λ n. Contains (members_of n) (Some y)) (slice_get_past nodes x past) has)

leads_nowhere : (nodes : List Node) (x y : ℕ) → length nodes ≤ x → ¬ (LeadsTo nodes x y)
leads_nowhere nodes x y past (at_once _ _ has) = no_members nodes x y past has
leads_nowhere nodes x y past (through _ w _ has rest) = no_members nodes x w past has

all_seen : (nodes : List Node) (place : ℕ) (seen : List Bool)
    → ((u v : ℕ) → (u ≡ place) ⊎ IsSeen seen u → HasMember nodes u v → v < length nodes → IsSeen seen v)
    → (x z : ℕ) → (x ≡ place) ⊎ IsSeen seen x → LeadsTo nodes x z → z < length nodes → IsSeen seen z
all_seen nodes place seen closed x z from (at_once _ _ has) l = closed x z from has l
all_seen nodes place seen closed x z from (through _ y _ has rest) l = elim (cases_lt y (length nodes)) [
  | inl within ↦ all_seen nodes place seen closed y z (inr (closed x y from has within)) rest l
  | inr past ↦ absurd (leads_nowhere nodes y z past rest)
]

-- where nothing waits any more, all is seen that the place leads to
pub searched_all : (nodes : List Node) (place : ℕ) (seen : List Bool) (waiting : List ℕ) → waiting ≡ [] → Searched nodes place seen waiting
    → (u : ℕ) → u < length nodes → IsSeen seen u ↔ LeadsTo nodes place u
searched_all nodes place seen waiting none s u l =
    let closed : (a b : ℕ) → (a ≡ place) ⊎ IsSeen seen a → HasMember nodes a b → b < length nodes → IsSeen seen b =
    λ a b from has k. elim (s.closed a b from has k) [
      | inl now ↦ now
      | inr waits ↦ let (i, m, at) = subst (λ ws. Contains ws a) none waits in absurd (omega (arith, m))
    ] in
    (s.sound u, λ leads. all_seen nodes place seen closed place u (inl refl) leads l)
