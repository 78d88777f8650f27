-- How nodes, children and servers are made one after another.
use Rattle.std.proofs.Common.{◌≡◌, ◌∙◌, ℕ, ◌+◌, ◌<◌, ◌≤◌, List, [], ◌∷◌, ◌++◌, length, get_or, map, take, All, Option, Some, None, sym, ap, subst, arith, zero, suc}
use Rattle.std.specs.Prelude.{slice_get}
use Rattle.std.specs.List.{AllZip}
use Rattle.std.proofs.lemmas.List.{take_more, take_all, get_or-map, map-append, length-map}
use Rattle.std.proofs.lemmas.Option.{slice_get_within, get_or_from_slice_get}
use Rattle.dyn_config.specs.declared.service.ServerDef.{ServerDef}
use Rattle.reference_graph.specs.Links.{Links, links_at}
use Rattle.service_graph.specs.Urls.{IsServerUrl, IsUrlFault}
use Rattle.service_graph.specs.declared.url.UrlFault.{UrlFault}
use Rattle.service_graph.specs.declared.url.UrlFault.TheVariants as url
use Rattle.service_faults.proofs.JudgingLemmas.{links_long}
use Rattle.service_faults.specs.Own.{HasUrl, IsUrlState}
use Rattle.service_faults.specs.References.{ServiceEntry, written, place_of, places_of, links_of}
use Rattle.service_nodes.specs.Nodes.{IsNodeOf}
use Rattle.service_nodes.specs.declared.node.Node.{Node}

zip_push : {A B : Type 0} (R : A → B → Type 0) (xs : List A) (ys : List B) (x : A) (y : B) → AllZip R xs ys → R x y → AllZip R (xs ++ x ∷ []) (ys ++ y ∷ [])
zip_push R [] [] x y all r = (r, tt)
zip_push R [] (b ∷ ys) x y all r = absurd all
zip_push R (a ∷ xs) [] x y all r = absurd all
zip_push R (a ∷ xs) (b ∷ ys) x y all r = (all.0, zip_push R xs ys x y all.1 r)

-- one more is made
pub zip_more : {A B : Type 0} (R : A → B → Type 0) (xs : List A) (ys ys' : List B) (i : ℕ) (d : A) (y : B) → i < length xs → ys' ≡ ys ++ y ∷ [] → AllZip R (take i xs) ys
    → R (get_or xs i d) y → AllZip R (take (i + 1) xs) ys'
zip_more {A} {B} R xs ys ys' i d y l pushed all r =
    let P : List A → Type 0 = λ zs. AllZip R zs ys' in
    let Q : List B → Type 0 = λ zs. AllZip R (take i xs ++ get_or xs i d ∷ []) zs in
    subst P (sym (take_more xs i d l)) (subst Q (sym pushed) (zip_push R (take i xs) ys (get_or xs i d) y all r))

pub zip_all : {A B : Type 0} (R : A → B → Type 0) (xs : List A) (ys : List B) (i : ℕ) → length xs ≤ i → AllZip R (take i xs) ys → AllZip R xs ys
zip_all {A} {B} R xs ys i l all = let P : List A → Type 0 = λ zs. AllZip R zs ys in subst P (take_all i xs l) all

-- a URL that can be used has no fault
pub no_fault : (text : List ℕ) (f : UrlFault) → IsUrlFault text f → (host : List ℕ) × (port : ℕ) × IsServerUrl text host port → ⊥
no_fault text url.Scheme h has = h.1 has.0 has.1 has.2
no_fault text url.BadUrl h has = h.1 has.0 has.1 has.2

-- each URL can be used
pub url_at : (defs : List ServerDef) (i : ℕ) (d : ServerDef) → IsUrlState defs None → i < length defs → d ≡ get_or defs i d → HasUrl d
url_at [] i d state l here = absurd (omega (arith, l))
url_at (x ∷ defs) zero d state l here = let P : ServerDef → Type 0 = λ s. HasUrl s in subst P (sym here) state.0
url_at (x ∷ defs) (suc i) d state l here = url_at defs i d state.1 (omega (arith, l)) here

-- one more child
pub children_more : (f : Option ℕ → Option ℕ) (places : List (Option ℕ)) (children children' : List ℕ) (i r : ℕ) → i < length places → children' ≡ children ++ r ∷ []
    → map Some children ≡ map f (take i places) → Some r ≡ f (get_or places i None) → map Some children' ≡ map f (take (i + 1) places)
children_more f places children children' i r l pushed before here =
    ap (map Some) pushed ∙ map-append Some children (r ∷ []) ∙ ap (λ (cs : List (Option ℕ)). cs ++ Some r ∷ []) before ∙ ap (λ (o : Option ℕ). map f (take i places) ++ o ∷ []) here
    ∙ sym (map-append f (take i places) (get_or places i None ∷ [])) ∙ ap (map f) (sym (take_more places i None l))

pub no_children : (f : Option ℕ → Option ℕ) (places : List (Option ℕ)) (children : List ℕ) → length places ≡ 0 → children ≡ [] → map Some children ≡ map f places
no_children f [] children long none = ap (map Some) none
no_children f (p ∷ places) children long none = absurd (omega (arith, long))

pub first_child : (f : Option ℕ → Option ℕ) (places rest : List (Option ℕ)) (p : Option ℕ) (a : ℕ) (children : List ℕ) → places ≡ p ∷ rest → Some a ≡ f p → map Some children ≡ map f rest
    → map Some (a ∷ children) ≡ map f places
first_child f places rest p a children cut one more = ap (λ (o : Option ℕ). o ∷ map Some children) one ∙ ap (λ (os : List (Option ℕ)). f p ∷ os) more ∙ ap (map f) (sym cut)

pub two_children : (f : Option ℕ → Option ℕ) (places : List (Option ℕ)) (a b : ℕ) → length places ≡ 2 → Some a ≡ f (get_or places 0 None) → Some b ≡ f (get_or places 1 None)
    → map Some (a ∷ b ∷ []) ≡ map f places
two_children f [] a b long one two = absurd (omega (arith, long))
two_children f (p ∷ []) a b long one two = absurd (omega (arith, long))
two_children f (p ∷ q ∷ []) a b long one two = ap (λ (o : Option ℕ). o ∷ Some b ∷ []) one ∙ ap (λ (o : Option ℕ). f p ∷ o ∷ []) two
two_children f (p ∷ q ∷ r ∷ places) a b long one two = absurd (omega (arith, long))

pub all_first : {X : Type 0} (P : X → Type 0) (xs rest : List X) (x : X) → xs ≡ x ∷ rest → All P xs → P x
all_first {X} P xs rest x cut all =
    let Q : List X → Type 0 = λ ys. All P ys in
    let here : All P (x ∷ rest) = subst Q cut all in
    here 0 x (omega arith)

pub all_rest : {X : Type 0} (P : X → Type 0) (xs rest : List X) (x : X) → xs ≡ x ∷ rest → All P xs → All P rest
all_rest {X} P xs rest x cut all =
    let Q : List X → Type 0 = λ ys. All P ys in
    let here : All P (x ∷ rest) = subst Q cut all in
    λ i d l. here (suc i) d (omega (arith, l))

-- where the references of a service lead
pub links_there : (services : List ServiceEntry) (links : Links) (at : ℕ) (e : ServiceEntry) → links ≡ links_of services → slice_get services at ≡ Some e
    → links_at links at ≡ places_of services e
links_there services links at e same here =
    ap (λ (ls : Links). links_at ls at) same ∙ get_or-map (places_of services) services at e [] (slice_get_within services at e here)
    ∙ ap (places_of services) (get_or_from_slice_get services at e e here)

pub places_long : (services : List ServiceEntry) (e : ServiceEntry) (places : List (Option ℕ)) → places ≡ places_of services e → length places ≡ length (written e.def)
places_long services e places same = ap length same ∙ length-map (written e.def) (place_of services e.provider)

pub node_there : (services : List ServiceEntry) (number : ℕ → Option ℕ) (e d : ServiceEntry) (places : List (Option ℕ)) (node : Node) → d ≡ e → places ≡ places_of services e
    → IsNodeOf number places d node → IsNodeOf number (places_of services e) e node
node_there services number e d places node same led is =
    let P : ServiceEntry → Type 0 = λ x. IsNodeOf number (places_of services e) x node in
    let Q : List (Option ℕ) → Type 0 = λ ps. IsNodeOf number ps d node in
    subst P same (subst Q led is)

-- the entry that is read at a place
pub entry_read : (services : List ServiceEntry) (at : ℕ) (d e : ServiceEntry) → d ≡ get_or services at d → slice_get services at ≡ Some e → d ≡ e
entry_read services at d e read here = read ∙ get_or_from_slice_get services at e d here

pub inside_links : (services : List ServiceEntry) (links : Links) (at : ℕ) (e : ServiceEntry) → links ≡ links_of services → slice_get services at ≡ Some e → at < length links
inside_links services links at e same here = let l = slice_get_within services at e here in let k = ap length same in let j = links_long services in omega (arith, l, k, j)
