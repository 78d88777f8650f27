-- Hosts, targets and lines of a request's head.
use Rattle.std.proofs.Common.{◌≡◌, ◌≢◌, ℕ, suc, zero, ◌+◌, ◌<◌, ◌≤◌, ◌==◌, inl, inr, ◌⊎◌, List, [], ◌∷◌, ◌++◌, length, take, drop, get_or, Bool, true, false, not, ◌||◌, IsTrue, if◌then◌else◌, cond, ltb, Option, Some, None, Result, refl, sym, ap, ◌∙◌, subst, append_assoc, arith, codes}
use Rattle.std.specs.List.{list_all, position, position_or_len}
use Rattle.std.proofs.lemmas.Bool.{false≢true, ltb-true, lt-ltb}
use Rattle.std.proofs.lemmas.Bool.Decides.{eqb_tells}
use Rattle.std.proofs.lemmas.List.{drop_more}
use Rattle.std.proofs.lemmas.List.Sums.{passes_at_first}
use Rattle.ip_net.specs.declared.ip.Ip.{Ip}
use Rattle.head_view.specs.Lines.{Line as Field}
use Rattle.http_wire.specs.Fields.{is_same}
use Rattle.http_wire.specs.Requests.{told_fields, TakesRequest}
use Rattle.http_wire.specs.declared.message.Request.{Request}
use Rattle.http_wire.specs.declared.requests.RequestRefused.{RequestRefused}
use Rattle.path_norm.specs.Escapes.{HasWholeEscapes, IsFirstBadEscape}
use Rattle.path_norm.specs.Normal.{IsRooted, IsFaultOf}
use Rattle.path_norm.specs.declared.normal.PathFault.{PathFault}
use Rattle.path_norm.specs.declared.normal.PathFault.TheVariants as path_fault
use Rattle.http_wire.specs.Targets.{is_target_byte, port_of, is_origin, is_absolute, ends_authority, behind_scheme, is_question, before_place, from_place, or_slash, path_and_query, path_of, is_bad_target}

-- a value and some more are two at least
pub two_values : (v : List ℕ) (values more : List (List ℕ)) → values ≡ v ∷ more → more ≢ [] → 1 < length values
two_values v values [] is some = absurd (some refl)
two_values v values (w ∷ more) is some = omega (arith, ap length is)

-- a value and none behind it are not two
pub no_two_values : (v : List ℕ) (values more : List (List ℕ)) → values ≡ v ∷ more → more ≡ [] → 1 < length values → ⊥
no_two_values v values more is none two = omega (arith, ap length is, ap length none, two)

pub some_values : (v : List ℕ) (values more : List (List ℕ)) → values ≡ v ∷ more → values ≡ [] → ⊥
some_values v values more is none = omega (arith, ap length is, ap length none)

rooted_slash : (o : Option ℕ) (rest : List ℕ) → IsRooted (or_slash (before_place o (47 ∷ rest)))
rooted_slash None rest = (rest, refl)
rooted_slash (Some n) rest = elim n as (λ k. IsRooted (or_slash (take k (47 ∷ rest)))) [ zero ↦ ([], refl) | suc k ↦ (take k rest, refl) ]

-- nothing, or a slash or a question mark first
abbrev Begins : List ℕ → Type 0
Begins [] = Unit {0}
Begins (b ∷ _) = (b ≡ 47) ⊎ (b ≡ 63)

abbrev path_in : List ℕ → List ℕ
path_in text = or_slash (before_place (position is_question text) text)

rooted_none : (t : Bool) (rest : List ℕ) → t ≡ true → IsRooted (or_slash (before_place (cond t (Some 0) None) (63 ∷ rest)))
rooted_none true rest h = ([], refl)
rooted_none false rest h = absurd (false≢true h)

rooted_question : (rest : List ℕ) → IsRooted (path_in (63 ∷ rest))
rooted_question rest = rooted_none (ltb 0 (length (63 ∷ rest))) rest (lt-ltb 0 (length (63 ∷ rest)) (omega arith))

rooted_text : (text : List ℕ) → Begins text → IsRooted (path_in text)
rooted_text [] h = ([], refl)
rooted_text (b ∷ rest) h =
    let P : ℕ → Type 0 = λ x. IsRooted (path_in (x ∷ rest)) in
    elim h [
      | inl slash ↦ subst P (sym slash) (rooted_slash (position is_question (47 ∷ rest)) rest)
      | inr question ↦ subst P (sym question) (rooted_question rest)
    ]

either : (b : ℕ) → ends_authority b ≡ true → (b ≡ 47) ⊎ (b ≡ 63)
either b h =
    elim (eqb_tells b 47) [
      | inl slash ↦ inl slash.1
      | inr other ↦ elim (eqb_tells b 63) [
        | inl question ↦ inr question.1
        | inr neither ↦ absurd (false≢true (sym (ap (λ x. x || (b == 63)) other.0 ∙ neither.0) ∙ h))
      ]
    ]

begins_at : (text : List ℕ) (n : ℕ) → n < length text → ends_authority (get_or text n 0) ≡ true → Begins (drop n text)
begins_at text n l h = subst Begins (sym (drop_more text n 0 l)) (either (get_or text n 0) h)

from_begins : (text : List ℕ) (n : ℕ) (t : Bool) → (t ≡ true → Begins (drop n text)) → Begins (from_place (cond t (Some n) None) text)
from_begins text n true h = h refl
from_begins text n false h = tt

form_of : (c o a x y : Bool) → ¬ (IsTrue (c || not (o || a) || x || y)) → (o ≡ true) ⊎ (a ≡ true)
form_of true o a x y h = absurd (h refl)
form_of false true a x y h = inl refl
form_of false false true x y h = inr refl
form_of false false false x y h = absurd (h refl)

rooted_origin : (target : List ℕ) → is_origin target ≡ true → IsRooted (path_in target)
rooted_origin [] h = absurd (false≢true h)
rooted_origin (b ∷ rest) h =
    elim (eqb_tells b 47) [
      | inl slash ↦ rooted_text (b ∷ rest) (inl slash.1)
      | inr other ↦ absurd (false≢true (sym other.0 ∙ h))
    ]

rooted_by : (t : Bool) (target rest : List ℕ) → (is_origin target ≡ true) ⊎ (t ≡ true) → Begins rest
    → IsRooted (path_in (if t then rest else target))
rooted_by true target rest h b = rooted_text rest b
rooted_by false target rest h b = elim h [ inl origin ↦ rooted_origin target origin | inr f ↦ absurd (false≢true f) ]

-- the path of a target that is taken begins with a slash
pub rooted : (method target host : List ℕ) → ¬ (IsTrue (is_bad_target method target host)) → IsRooted (path_of target)
rooted method target host h =
    let rest = behind_scheme target in
    let at = position_or_len ends_authority rest in
    let n = length rest in
    rooted_by (is_absolute target) target (from_place (position ends_authority rest) rest)
    (form_of (is_same method (codes "CONNECT")) (is_origin target) (is_absolute target) (not (list_all is_target_byte target)) (not (list_all is_target_byte host)) h)
    (from_begins rest at (ltb at n) (λ l. begins_at rest at (ltb-true at n l) (passes_at_first ends_authority rest 0 (ltb-true at n l))))

pub bad_escape : (path p : List ℕ) (f : PathFault) (at : ℕ) → f ≡ path_fault.BadEscape at → path ≡ p → IsFaultOf path f → ¬ (HasWholeEscapes p)
bad_escape path p f at e q h whole =
    let first : IsFirstBadEscape path at = subst (IsFaultOf path) e h in
    let at_path : HasWholeEscapes path = subst HasWholeEscapes (sym q) whole in
    at_path at first.bad

five : (l0 l1 l2 l3 l4 l5 : List Field) (a b c d e : Field) → l1 ≡ l0 ++ a ∷ [] → l2 ≡ l1 ++ b ∷ [] → l3 ≡ l2 ++ c ∷ [] → l4 ≡ l3 ++ d ∷ [] → l5 ≡ l4 ++ e ∷ []
    → l5 ≡ l0 ++ a ∷ b ∷ c ∷ d ∷ e ∷ []
five l0 l1 l2 l3 l4 l5 a b c d e ea eb ec ed ee =
    let last : l5 ≡ ((((l0 ++ a ∷ []) ++ b ∷ []) ++ c ∷ []) ++ d ∷ []) ++ e ∷ [] =
    ee ∙ ap (λ x. x ++ e ∷ []) (ed ∙ ap (λ x. x ++ d ∷ []) (ec ∙ ap (λ x. x ++ c ∷ []) (eb ∙ ap (λ x. x ++ b ∷ []) ea))) in
    last ∙ simp append_assoc

-- the lines that five pushes add
pub told : (address host port : List ℕ) (l0 l1 l2 l3 l4 l5 : List Field) → port ≡ port_of host
    → l1 ≡ l0 ++ (codes "X-Forwarded-For", address) ∷ [] → l2 ≡ l1 ++ (codes "X-Forwarded-Host", host) ∷ []
    → l3 ≡ l2 ++ (codes "X-Forwarded-Port", port) ∷ [] → l4 ≡ l3 ++ (codes "X-Forwarded-Proto", codes "http") ∷ []
    → l5 ≡ l4 ++ (codes "X-Real-Ip", address) ∷ [] → l5 ≡ l0 ++ told_fields address host
told address host port l0 l1 l2 l3 l4 l5 q ea eb ec ed ee =
    let P : List ℕ → Type 0 = λ p. l5 ≡ l0 ++ (codes "X-Forwarded-For", address) ∷ (codes "X-Forwarded-Host", host) ∷ (codes "X-Forwarded-Port", p)
    ∷ (codes "X-Forwarded-Proto", codes "http") ∷ (codes "X-Real-Ip", address) ∷ [] in
    subst P q (five l0 l1 l2 l3 l4 l5 (codes "X-Forwarded-For", address) (codes "X-Forwarded-Host", host) (codes "X-Forwarded-Port", port) (codes "X-Forwarded-Proto", codes "http") (codes "X-Real-Ip", address) ea eb ec ed ee)

pub takes_same : (m n t u : List ℕ) (v : ℕ) (f g : List Field) (peer : Ip) (r : Result Request RequestRefused) → m ≡ n → t ≡ u → f ≡ g
    → TakesRequest m t v f peer r → TakesRequest n u v g peer r
takes_same m n t u v f g peer r em et ef h =
    let M : List ℕ → Type 0 = λ x. TakesRequest x u v g peer r in
    let T : List ℕ → Type 0 = λ x. TakesRequest m x v g peer r in
    let F : List Field → Type 0 = λ x. TakesRequest m t v x peer r in
    subst M em (subst T et (subst F ef h))
