-- Lists of trees and of the values that they come from.
use Rattle.std.proofs.Common.{◌≡◌, ℕ, List, [], ◌∷◌, ◌++◌, map, String, Global, string_bytes, refl, sym, ap, ◌∙◌, subst, nat_cmp, Less, append_assoc}
use Rattle.std.proofs.lemmas.List.{map-append}
use Rattle.std.specs.List.{AllByRecursion}
use Rattle.std.specs.List.Sorted.{IsStrictlySortedBy}
use Rattle.std.specs.Cmp.Lexicographic.{slice_cmp}
use Rattle.std.specs.String.{string_cmp}
use Rattle.std.specs.Map.{keys_of}
use Rattle.toml.specs.View as toml_view
use Rattle.toml.specs.declared.value.Value.{Value}
use Rattle.toml.proofs.Views.{Entry}
use Rattle.field_tree.specs.declared.tree.Tree.{Tree}
use Rattle.field_tree.specs.Table.{KeysRise}
use Rattle.file_provider.specs.Shape.{Shape, shape_of, shapes_of, fields_of}
use Rattle.file_provider.specs.View.{view, shapes_from, fields_from, shapes_view, field_view, fields_view}

abbrev pub shape_at : Value → Shape
shape_at v = shape_of (toml_view.view v)

shapes_of-map : (vs : List Value) → shapes_of (toml_view.items_view vs) ≡ shapes_from (map shape_at vs)
shapes_of-map [] = refl
shapes_of-map (v ∷ vs) = rw (shapes_of-map vs) refl

pub shapes_agree : (ts : List Tree) (vs : List Value) → map view ts ≡ map shape_at vs → shapes_view ts ≡ shapes_of (toml_view.items_view vs)
shapes_agree ts vs e = ap shapes_from e ∙ sym (shapes_of-map vs)

abbrev pub member_shape : Entry → List ℕ × Shape
member_shape e = (string_bytes e.0, shape_at e.1)

fields_of-map : (es : List Entry) → fields_of (toml_view.members_view es) ≡ fields_from (map member_shape es)
fields_of-map [] = refl
fields_of-map (e ∷ es) = rw (fields_of-map es) refl

pub fields_agree : (fs : List (List ℕ × Tree)) (es : List Entry) → map field_view fs ≡ map member_shape es
    → fields_view fs ≡ fields_of (toml_view.members_view es)
fields_agree fs es e = ap fields_from e ∙ sym (fields_of-map es)

-- the keys of fields and of the entries that they come from
keys_viewed : (fs : List (List ℕ × Tree)) → keys_of fs ≡ map (λ (s : List ℕ × Shape). s.0) (map field_view fs)
keys_viewed [] = refl
keys_viewed (f ∷ fs) = ap (λ (l : List (List ℕ)). f.0 ∷ l) (keys_viewed fs)

keys_shaped : (es : List Entry) → map (λ (s : List ℕ × Shape). s.0) (map member_shape es) ≡ map string_bytes (keys_of es)
keys_shaped [] = refl
keys_shaped (e ∷ es) = ap (λ (l : List (List ℕ)). string_bytes e.0 ∷ l) (keys_shaped es)

below_texts : (k : String Global) (ks : List (String Global)) → AllByRecursion (λ y. string_cmp k y ≡ Less) ks → AllByRecursion (λ y. slice_cmp nat_cmp (string_bytes k) y ≡ Less) (map string_bytes ks)
below_texts k [] h = tt
below_texts k (x ∷ ks) h = (h.0, below_texts k ks h.1)

sorted_texts : (ks : List (String Global)) → IsStrictlySortedBy string_cmp ks → IsStrictlySortedBy (slice_cmp nat_cmp) (map string_bytes ks)
unfolding IsStrictlySortedBy
sorted_texts [] h = tt
sorted_texts (k ∷ ks) h = (below_texts k ks h.0, sorted_texts ks h.1)

all_front : {X : Type 0} (P : X → Type 0) (xs ys : List X) → AllByRecursion P (xs ++ ys) → AllByRecursion P xs
all_front P [] ys h = tt
all_front P (x ∷ xs) ys h = (h.0, all_front P xs ys h.1)

sorted_front : (ks ls : List (List ℕ)) → IsStrictlySortedBy (slice_cmp nat_cmp) (ks ++ ls) → IsStrictlySortedBy (slice_cmp nat_cmp) ks
unfolding IsStrictlySortedBy
sorted_front [] ls h = tt
sorted_front (k ∷ ks) ls h = (all_front (λ y. slice_cmp nat_cmp k y ≡ Less) ks ls h.0, sorted_front ks ls h.1)

keys_append : (fs gs : List Entry) → keys_of (fs ++ gs) ≡ keys_of fs ++ keys_of gs
keys_append [] gs = refl
keys_append (f ∷ fs) gs = ap (λ l. f.0 ∷ l) (keys_append fs gs)

-- the fields so far and one more keep the order of the entries
pub keys_rise : (fs : List (List ℕ × Tree)) (name : List ℕ) (tree : Tree) (es done left : List Entry) (e : Entry) → IsStrictlySortedBy string_cmp (keys_of es) → es ≡ done ++ e ∷ left → map field_view fs ≡ map member_shape done → name ≡ string_bytes e.0 → KeysRise (fs ++ (name, tree) ∷ [])
keys_rise fs name tree es done left e sorted split same named =
    let texts : IsStrictlySortedBy (slice_cmp nat_cmp) (map string_bytes (keys_of ((done ++ e ∷ []) ++ left))) =
    sorted_texts (keys_of ((done ++ e ∷ []) ++ left)) (subst (λ (l : List Entry). IsStrictlySortedBy string_cmp (keys_of l)) (split ∙ sym (append_assoc done (e ∷ []) left)) sorted) in
    let parts = ap (map string_bytes) (keys_append (done ++ e ∷ []) left) ∙ map-append string_bytes (keys_of (done ++ e ∷ [])) (keys_of left) in
    let front = sorted_front (map string_bytes (keys_of (done ++ e ∷ []))) (map string_bytes (keys_of left)) (subst (λ (l : List (List ℕ)). IsStrictlySortedBy (slice_cmp nat_cmp) l) parts texts) in
    let whole : map field_view (fs ++ (name, tree) ∷ []) ≡ map field_view fs ++ field_view (name, tree) ∷ [] = map-append field_view fs ((name, tree) ∷ []) in
    let keys : keys_of (fs ++ (name, tree) ∷ []) ≡ map string_bytes (keys_of (done ++ e ∷ [])) =
    keys_end fs name tree ∙ ap (λ (l : List (List ℕ)). l ++ name ∷ []) (keys_viewed fs ∙ ap (map (λ (s : List ℕ × Shape). s.0)) same ∙ keys_shaped done)
    ∙ ap (λ (b : List ℕ). map string_bytes (keys_of done) ++ b ∷ []) named ∙ sym (ap (map string_bytes) (keys_append done (e ∷ [])) ∙ map-append string_bytes (keys_of done) (e.0 ∷ [])) in
    subst (λ (l : List (List ℕ)). IsStrictlySortedBy (slice_cmp nat_cmp) l) (sym keys) front
  where
    keys_end : (fs : List (List ℕ × Tree)) (name : List ℕ) (tree : Tree) → keys_of (fs ++ (name, tree) ∷ []) ≡ keys_of fs ++ name ∷ []
    keys_end [] name tree = refl
    keys_end (f ∷ fs) name tree = ap (λ (l : List (List ℕ)). f.0 ∷ l) (keys_end fs name tree)
