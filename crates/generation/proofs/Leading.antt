-- Where a name leads, and a table without routers.
use Rattle.std.proofs.Common.{◌≡◌, ℕ, ◌<◌, suc, List, [], ◌∷◌, length, drop, get_or, Bool, true, false, ◌&&◌, refl, sym, ap, ◌∙◌}
use Rattle.std.specs.Prelude.{bytes_eq}
use Rattle.std.specs.List.Sorted.{IsStrictlySortedBy}
use Rattle.std.proofs.Math.Seq.{drop-cons}
use Rattle.dyn_config.specs.Joined.{is_qualified, AreQualified, AreJoinedInRange}
use Rattle.dyn_config.specs.Kept.{is_service}
use Rattle.dyn_config.specs.declared.merged.Entry.{Entry}
use Rattle.dyn_config.specs.declared.router.RouterDef.{RouterDef}
use Rattle.dyn_config.specs.declared.service.ServiceDef.{ServiceDef}
use Rattle.dyn_config.specs.declared.middleware.MiddlewareDef.{MiddlewareDef}
use Rattle.std.proofs.lemmas.Slice.Eq.{bytes_eq-Decides}
use Rattle.router_table.specs.Settings.{Setting, RouterEntry}
use Rattle.router_table.specs.Rows.{AreRows}
use Rattle.router_table.specs.declared.row.Row.{Row}
use Rattle.generation.specs.Meaning.{aim_named, aim_of}
use Rattle.generation.specs.declared.nodes.Node.{Node}

first_is : (n : Node) (name : List ℕ) (ns : List Node) → n.name ≡ name → aim_named (n ∷ ns) name ≡ aim_of n.target
first_is n name ns e = rw ((bytes_eq-Decides n.name name).1 e) refl

-- the first node with the name
pub named_here : (nodes : List Node) (name : List ℕ) (i : ℕ) (n : Node) → i < length nodes → n ≡ get_or nodes i n → n.name ≡ name
    → aim_named (drop i nodes) name ≡ aim_named nodes name → aim_named nodes name ≡ aim_of n.target
named_here nodes name i n below is here same =
    sym same ∙ ap (λ (l : List Node). aim_named l name) (drop-cons nodes i n below ∙ ap (λ (x : Node). x ∷ drop (suc i) nodes) (sym is)) ∙ first_is n name (drop (suc i) nodes) here

-- no router has no row
pub no_rows : (s : Setting) (left : ℕ) (routers : List RouterEntry) (rows : List Row) → routers ≡ [] → AreRows s left routers rows → rows ≡ []
no_rows s left [] [] none h = refl
no_rows s left [] (r ∷ rows) none h = absurd h
no_rows s left (e ∷ es) rows none h = absurd (cc)

-- configurations of nothing and of one router and one service
pub none_qualified : (rs : List (Entry RouterDef)) (ss : List (Entry ServiceDef)) (ms : List (Entry MiddlewareDef)) → rs ≡ [] → ss ≡ [] → ms ≡ [] → AreQualified rs ss ms
unfolding IsStrictlySortedBy
none_qualified rs ss ms a b c = rw (a, b, c) ((tt, refl), ((tt, refl), (tt, refl)))

pub none_in_range : (ss : List (Entry ServiceDef)) (ms : List (Entry MiddlewareDef)) → ss ≡ [] → ms ≡ [] → AreJoinedInRange ss ms
none_in_range ss ms b c = rw (b, c) (refl, refl)

both : (x y : Bool) → x ≡ true → y ≡ true → (x && y) ≡ true
both true true a b = refl
both true false a b = b
both false y a b = a

pub alone_qualified : (rs : List (Entry RouterDef)) (ss : List (Entry ServiceDef)) (ms : List (Entry MiddlewareDef)) (r : Entry RouterDef) (s : Entry ServiceDef)
    → rs ≡ r ∷ [] → ss ≡ s ∷ [] → ms ≡ [] → is_qualified r ≡ true → is_qualified s ≡ true → AreQualified rs ss ms
unfolding IsStrictlySortedBy
alone_qualified rs ss ms r s a b c p q = rw (a, b, c) (((tt, tt), both (is_qualified r) true p refl), (((tt, tt), both (is_qualified s) true q refl), (tt, refl)))

pub alone_in_range : (ss : List (Entry ServiceDef)) (ms : List (Entry MiddlewareDef)) (s : Entry ServiceDef) → ss ≡ s ∷ [] → ms ≡ [] → is_service s.def ≡ true → AreJoinedInRange ss ms
alone_in_range ss ms s b c p = rw (b, c) (both (is_service s.def) true p refl, refl)

pub same_name : (a b : List ℕ) (t : Bool) → t ≡ bytes_eq a b → t ≡ true → a ≡ b
same_name a b t is holds = (bytes_eq-Decides a b).0 (sym is ∙ holds)
