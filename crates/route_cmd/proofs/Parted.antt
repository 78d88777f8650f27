-- What a head says, from what a scan of it and its request say.
use Rattle.std.proofs.Common.{◌≡◌, ◌≢◌, ℕ, ◌<◌, ◌≤◌, ◌⊎◌, inl, inr, List, [], ◌∷◌, length, take, drop, codes, refl, sym, ap, ◌∙◌, subst, arith}
use Rattle.std.proofs.lemmas.List.{length-drop, drop_all}
use Rattle.httparse.specs.Grammar.{RequestHead}
use Rattle.httparse.specs.Spans.{span_bytes}
use Rattle.httparse.specs.declared.spans.HeaderSpan.{HeaderSpan}
use Rattle.head_view.specs.Lines.{lines_at}
use Rattle.head_view.specs.Scans.{IsHeadAt}
use Rattle.head_view.specs.declared.scan.HeadSpans.{HeadSpans}
use Rattle.body_codec.specs.declared.Framing.{Framing}
use Rattle.body_codec.specs.declared.Framing.TheVariants as framing
use Rattle.head_view.specs.Lines.{Line as Field, values_of}
use Rattle.ip_net.specs.declared.ip.Ip.{Ip}
use Rattle.path_norm.specs.Escapes.{HasWholeEscapes}
use Rattle.http_wire.specs.Framing.{framing_by, lengths_of, encodings_of}
use Rattle.http_wire.specs.Targets.{path_of}
use Rattle.http_wire.specs.Requests.{IsSound, IsHeadFault, IsRequestOf}
use Rattle.http_wire.specs.declared.message.Request.{Request}
use Rattle.http_wire.specs.declared.requests.HeadFault.{HeadFault}
use Rattle.route_cmd.specs.Requests.{fields_of, HasFault, IsFaultless, IsLater, IsTaken, asked_by}
use Rattle.route_cmd.specs.Parts.{IsLaterBy, asked_from}

-- the parts that a scan found are those of the head
pub record AreParts (h : RequestHead) (method target : List ℕ) (version : ℕ) (fields : List Field) : Type 0 where
  pub method_is : method ≡ h.method
  pub target_is : target ≡ h.target
  pub version_is : version ≡ h.minor
  pub fields_are : fields ≡ fields_of h

-- what holds of the parts holds of the head
moved : (P : List ℕ → List ℕ → ℕ → List Field → Type 0) (h : RequestHead) (m t : List ℕ) (v : ℕ) (fs : List Field) → AreParts h m t v fs
    → P m t v fs → P h.method h.target h.minor (fields_of h)
moved P h m t v fs parts p =
    let P1 : List ℕ → Type 0 = λ x. P x t v fs in
    let P2 : List ℕ → Type 0 = λ x. P h.method x v fs in
    let P3 : ℕ → Type 0 = λ x. P h.method h.target x fs in
    let P4 : List Field → Type 0 = λ x. P h.method h.target h.minor x in
    subst P4 parts.fields_are (subst P3 parts.version_is (subst P2 parts.target_is (subst P1 parts.method_is p)))

pub fault_of : (h : RequestHead) (m t : List ℕ) (v : ℕ) (fs : List Field) (f : HeadFault) → AreParts h m t v fs → IsHeadFault m t v fs f → HasFault h f
fault_of h m t v fs f parts told = moved (λ a b c d. IsHeadFault a b c d f) h m t v fs parts told

pub faultless : (h : RequestHead) (m t : List ℕ) (v : ℕ) (fs : List Field) → AreParts h m t v fs → IsSound m t v fs → HasWholeEscapes (path_of t) → IsFaultless h
faultless h m t v fs parts sound whole =
    let Q : List ℕ → Type 0 = λ x. HasWholeEscapes (path_of x) in
    (moved (λ a b c d. IsSound a b c d) h m t v fs parts sound, subst Q parts.target_is whole)

body_fields : (es ls : List (List ℕ)) → framing_by es ls framing.None ≢ framing.None → (ls ≢ []) ⊎ (es ≢ [])
body_fields (e ∷ es) ls some = inr (λ h. cc)
body_fields [] (l ∷ ls) some = inl (λ h. cc)
body_fields [] [] some = absurd (some refl)

no_lengths : (es ls : List (List ℕ)) → framing_by es ls framing.None ≡ framing.None → ls ≡ []
no_lengths (e ∷ es) ls none = cc
no_lengths [] (l ∷ ls) none = cc
no_lengths [] [] none = refl

no_codings : (es ls : List (List ℕ)) → framing_by es ls framing.None ≡ framing.None → es ≡ []
no_codings (e ∷ es) ls none = cc
no_codings [] (l ∷ ls) none = refl
no_codings [] [] none = refl

-- a head of a kind that isn't routed yet, by its request
pub later_is : (h : RequestHead) (m t : List ℕ) (v : ℕ) (fs : List Field) (peer : Ip) (r : Request) → AreParts h m t v fs → IsRequestOf m t v fs peer r
    → IsLaterBy r.framing (values_of (codes "Connection") fs) r.version r.method → IsLater h
later_is h m t v fs peer r parts is (inl body) =
    let P : Framing → Type 0 = λ f. f ≢ framing.None in
    let found : (lengths_of fs ≢ []) ⊎ (encodings_of fs ≢ []) = body_fields (encodings_of fs) (lengths_of fs) (subst P is.framing_is body) in
    let Q : List Field → Type 0 = λ x. (lengths_of x ≢ []) ⊎ (encodings_of x ≢ []) in
    elim (subst Q parts.fields_are found) [ inl ls ↦ inl ls | inr es ↦ inr (inl es) ]
later_is h m t v fs peer r parts is (inr (inl connections)) =
    let Q : List Field → Type 0 = λ x. values_of (codes "Connection") x ≢ [] in inr (inr (inl (subst Q parts.fields_are connections)))
later_is h m t v fs peer r parts is (inr (inr (inl old))) = inr (inr (inr (inl (sym parts.version_is ∙ sym is.version_is ∙ old))))
later_is h m t v fs peer r parts is (inr (inr (inr head))) = inr (inr (inr (inr (sym parts.method_is ∙ sym is.method_is ∙ head))))

-- one of another kind
pub not_later : (h : RequestHead) (m t : List ℕ) (v : ℕ) (fs : List Field) (peer : Ip) (r : Request) → AreParts h m t v fs → IsRequestOf m t v fs peer r
    → ¬ (IsLaterBy r.framing (values_of (codes "Connection") fs) r.version r.method) → ¬ (IsLater h)
not_later h m t v fs peer r parts is none (inl ls) =
    let Q : List Field → Type 0 = λ x. lengths_of x ≢ [] in
    none (inl (λ e. subst Q (sym parts.fields_are) ls (no_lengths (encodings_of fs) (lengths_of fs) (sym is.framing_is ∙ e))))
not_later h m t v fs peer r parts is none (inr (inl es)) =
    let Q : List Field → Type 0 = λ x. encodings_of x ≢ [] in
    none (inl (λ e. subst Q (sym parts.fields_are) es (no_codings (encodings_of fs) (lengths_of fs) (sym is.framing_is ∙ e))))
not_later h m t v fs peer r parts is none (inr (inr (inl connections))) =
    let Q : List Field → Type 0 = λ x. values_of (codes "Connection") x ≢ [] in none (inr (inl (subst Q (sym parts.fields_are) connections)))
not_later h m t v fs peer r parts is none (inr (inr (inr (inl old)))) = none (inr (inr (inl (is.version_is ∙ parts.version_is ∙ old))))
not_later h m t v fs peer r parts is none (inr (inr (inr (inr head)))) = none (inr (inr (inr (is.method_is ∙ parts.method_is ∙ head))))

-- the request of the parts is that of the head
pub taken_is : (h : RequestHead) (m t : List ℕ) (v : ℕ) (fs : List Field) (peer : Ip) (q : Request) → AreParts h m t v fs → IsRequestOf m t v fs peer q → IsTaken h peer q
taken_is h m t v fs peer q parts is = moved (λ a b c d. IsRequestOf a b c d peer q) h m t v fs parts is

same_asked : (m n : List ℕ) (q : Request) (fs gs : List Field) → m ≡ n → fs ≡ gs → asked_from m q fs ≡ asked_from n q gs
same_asked m n q fs gs a b = cc

-- what rules are asked of it
pub asked_is : (h : RequestHead) (m t : List ℕ) (v : ℕ) (fs : List Field) (peer : Ip) (q : Request) → AreParts h m t v fs → IsRequestOf m t v fs peer q
    → asked_from m q fs ≡ asked_by h q
asked_is h m t v fs peer q parts is = same_asked m q.method q fs (fields_of h) (sym is.method_is) parts.fields_are

-- something stands behind the head
pub some_behind : (n : ℕ) (input : List ℕ) → n < length input → drop n input ≢ []
some_behind n input l e = let h : length (drop n input) ≡ 0 = ap length e in omega (arith, length-drop n input, h, l)

pub none_behind : (n : ℕ) (input : List ℕ) → length input ≤ n → drop n input ≡ []
none_behind n input l = drop_all n input l

-- the spans of a head cover its parts
pub parts_of : (buf : List ℕ) (lines : List HeaderSpan) (s : HeadSpans) (h : RequestHead) → IsHeadAt buf lines s h
    → AreParts h (span_bytes buf s.method) (span_bytes buf s.target) s.version (lines_at buf (take s.lines lines))
parts_of buf lines s h at = record { method_is = at.method; target_is = at.path; version_is = at.version; fields_are = at.fields }
