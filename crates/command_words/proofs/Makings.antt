-- Words are sorted exactly by the pieces that they are.
use Rattle.std.proofs.Common.{◌≡◌, ◌≢◌, ℕ, Bool, true, List, [], ◌∷◌, ◌++◌, sym, ap, ◌∙◌, refl, subst, Option, Some, None, inl, inr, ne_eqb, append_assoc, if◌then◌else◌}
use Rattle.std.specs.Prelude.{⊤}
use Rattle.std.specs.List.{AllByRecursion, flat_map}
use Rattle.std.proofs.lemmas.Bool.{cases_eq}
use Rattle.command_words.specs.declared.sorting.Setting.{Setting}
use Rattle.command_words.specs.declared.sorting.Sorted.{Sorted}
use Rattle.command_words.specs.Cuts.{Cut, cut_at}
use Rattle.command_words.specs.Words.{WordKind, ends, named, valued, refused, other, valued_kind, cut_kind, option_kind, dashed_kind, kind_of, is_value, nothing, and_setting, and_other, and_named, sorted, sorted_by, sorted_behind}
use Rattle.command_words.specs.Pieces.{Piece, whole, halved, plain, words_of, HasNoSign, IsUndashed, IsPiece, settings_of, others_of, ending, behind, IsMadeOf}
use Rattle.command_words.proofs.Cuttings.{uncut, cut_behind, cut_none, cut_some}
use Rattle.command_words.proofs.Joins.{sorted_step, at_kind}

undashed_kind : (word : List ℕ) → IsUndashed word → kind_of word ≡ other
undashed_kind [] h = refl
undashed_kind (b ∷ bs) h = rw (ne_eqb b 45 h) refl

cut_option : (text : List ℕ) (cut : Cut) → cut_at 61 text ≡ Some cut → option_kind text ≡ valued_kind cut.before cut.behind
cut_option [] cut e = absurd (let f : ⊥ = cc in f)
cut_option (b ∷ bs) cut e = ap (cut_kind (b ∷ bs)) e

uncut_option : (text : List ℕ) → text ≢ [] → cut_at 61 text ≡ None → option_kind text ≡ named text
uncut_option [] some e = absurd (some refl)
uncut_option (b ∷ bs) some e = ap (cut_kind (b ∷ bs)) e

some_value : (name value : List ℕ) → value ≢ [] → valued_kind name value ≡ valued name value
some_value name [] some = absurd (some refl)
some_value name (b ∷ bs) some = refl

undashed_value : (value : List ℕ) → value ≢ [] → IsUndashed value → is_value value ≡ true
undashed_value [] some h = absurd (some refl)
undashed_value (b ∷ bs) some h = rw (ne_eqb b 45 h) refl

-- pieces are sorted as such
made : (pieces : List Piece) (ended : Option (List (List ℕ))) → AllByRecursion IsPiece pieces
    → sorted (flat_map words_of pieces ++ ending ended) ≡ Some (record { settings = flat_map settings_of pieces; others = flat_map others_of pieces ++ behind ended })
made [] None h = refl
made [] (Some words) h = sorted_step (45 ∷ 45 ∷ []) words
made (whole name value ∷ pieces) ended h =
    at_kind (45 ∷ 45 ∷ (name ++ 61 ∷ value)) (flat_map words_of pieces ++ ending ended) (valued name value) (sym (cut_option (name ++ 61 ∷ value) _ (cut_behind name value h.0.0) ∙ some_value name value h.0.1))
    ∙ ap (and_setting name value) (made pieces ended h.1)
made (halved name value ∷ pieces) ended h =
    let (some, none, filled, undashed) = h.0 in
    at_kind (45 ∷ 45 ∷ name) (value ∷ (flat_map words_of pieces ++ ending ended)) (named name) (sym (uncut_option name some (uncut name none)))
    ∙ ap (λ (b : Bool). if b then and_setting name value (sorted (flat_map words_of pieces ++ ending ended)) else None) (undashed_value value filled undashed)
    ∙ ap (and_setting name value) (made pieces ended h.1)
made (plain word ∷ pieces) ended h =
    at_kind word (flat_map words_of pieces ++ ending ended) other (sym (undashed_kind word h.0))
    ∙ ap (and_other word) (made pieces ended h.1)

pub made_sorted : (words : List (List ℕ)) (s : Sorted) → IsMadeOf words s → sorted words ≡ Some s
made_sorted words s m =
    ap sorted m.words_are ∙ made m.pieces m.ended m.each
    ∙ ap (λ (x : List Setting). Some (record { settings = x; others = flat_map others_of m.pieces ++ behind m.ended })) (sym m.settings)
    ∙ ap (λ (x : List (List ℕ)). Some (record { settings = s.settings; others = x })) (sym m.others)

-- what a word of each kind is
abbrev IsKind : List ℕ → WordKind → Type 0
IsKind word ends = word ≡ 45 ∷ 45 ∷ []
IsKind word (named name) = (word ≡ 45 ∷ 45 ∷ name) × (name ≢ []) × HasNoSign name
IsKind word (valued name value) = (word ≡ 45 ∷ 45 ∷ (name ++ 61 ∷ value)) × HasNoSign name × (value ≢ [])
IsKind word refused = ⊤
IsKind word other = IsUndashed word

is_valued : (word name value : List ℕ) → word ≡ 45 ∷ 45 ∷ (name ++ 61 ∷ value) → HasNoSign name → IsKind word (valued_kind name value)
is_valued word name [] e h = tt
is_valued word name (b ∷ bs) e h = (e, h, λ k. absurd (let f : ⊥ = cc in f))

is_cut : (b : ℕ) (bs : List ℕ) (cut : Option Cut) → cut_at 61 (b ∷ bs) ≡ cut → IsKind (45 ∷ 45 ∷ b ∷ bs) (cut_kind (b ∷ bs) cut)
is_cut b bs None e = (refl, (λ k. absurd (let f : ⊥ = cc in f)), cut_none (b ∷ bs) e)
is_cut b bs (Some cut) e = let is = cut_some (b ∷ bs) cut e in is_valued (45 ∷ 45 ∷ b ∷ bs) cut.before cut.behind (ap (λ (t : List ℕ). 45 ∷ 45 ∷ t) is.0) is.1

is_option : (text : List ℕ) → IsKind (45 ∷ 45 ∷ text) (option_kind text)
is_option [] = refl
is_option (b ∷ bs) = is_cut b bs (cut_at 61 (b ∷ bs)) refl

is_dashed : (text : List ℕ) → IsKind (45 ∷ text) (dashed_kind text)
is_dashed [] = tt
is_dashed (b ∷ bs) = elim (cases_eq b 45) [
  | inl same ↦ subst (λ (k : ℕ). IsKind (45 ∷ k ∷ bs) (dashed_kind (k ∷ bs))) (sym same) (is_option bs)
  | inr ne ↦ rw (ne_eqb b 45 ne) tt
]

is_kind : (word : List ℕ) → IsKind word (kind_of word)
is_kind [] = tt
is_kind (b ∷ bs) = elim (cases_eq b 45) [
  | inl same ↦ subst (λ (k : ℕ). IsKind (k ∷ bs) (kind_of (k ∷ bs))) (sym same) (is_dashed bs)
  | inr ne ↦ rw (ne_eqb b 45 ne) ne
]

-- one more piece before the others
more : (piece : Piece) (words : List (List ℕ)) (r : Sorted) → IsPiece piece → IsMadeOf words r
    → IsMadeOf (words_of piece ++ words) (record { settings = settings_of piece ++ r.settings; others = others_of piece ++ r.others })
more piece words r is m = record {
  pieces = piece ∷ m.pieces;
  ended = m.ended;
  each = (is, m.each);
  words_are = ap (λ (t : List (List ℕ)). words_of piece ++ t) m.words_are ∙ sym (append_assoc (words_of piece) (flat_map words_of m.pieces) (ending m.ended));
  settings = ap (λ (t : List Setting). settings_of piece ++ t) m.settings;
  others = ap (λ (t : List (List ℕ)). others_of piece ++ t) m.others ∙ sym (append_assoc (others_of piece) (flat_map others_of m.pieces) (behind m.ended));
}

setting_added : (name value : List ℕ) (rest : Option Sorted) (s : Sorted) → and_setting name value rest ≡ Some s
    → (r : Sorted) × (rest ≡ Some r) × (record { settings = record { name = name; value = value } ∷ r.settings; others = r.others } ≡ s)
setting_added name value None s e = absurd (let f : ⊥ = cc in f)
setting_added name value (Some r) s e = (r, refl, cc)

other_added : (word : List ℕ) (rest : Option Sorted) (s : Sorted) → and_other word rest ≡ Some s
    → (r : Sorted) × (rest ≡ Some r) × (record { settings = r.settings; others = word ∷ r.others } ≡ s)
other_added word None s e = absurd (let f : ⊥ = cc in f)
other_added word (Some r) s e = (r, refl, cc)

abbrev Made : List (List ℕ) → Type 0
Made words = (s : Sorted) → sorted words ≡ Some s → IsMadeOf words s

halves : (name value : List ℕ) (words : List (List ℕ)) → name ≢ [] → HasNoSign name → Made words
    → (s : Sorted) → and_named name value (sorted words) ≡ Some s → IsMadeOf ((45 ∷ 45 ∷ name) ∷ value ∷ words) s
halves name [] words some none rest s e = absurd (let f : ⊥ = cc in f)
halves name (b ∷ bs) words some none rest s e = elim (cases_eq b 45) [
  | inl same ↦
      let not : and_named name (45 ∷ bs) (sorted words) ≡ Some s = subst (λ (k : ℕ). and_named name (k ∷ bs) (sorted words) ≡ Some s) same e in
      absurd (let f : ⊥ = cc in f)
  | inr ne ↦
      let is : is_value (b ∷ bs) ≡ true = undashed_value (b ∷ bs) (λ k. absurd (let f : ⊥ = cc in f)) ne in
      let (r, at, same) = setting_added name (b ∷ bs) (sorted words) s (sym (ap (λ (v : Bool). if v then and_setting name (b ∷ bs) (sorted words) else None) is) ∙ e) in
      subst (IsMadeOf ((45 ∷ 45 ∷ name) ∷ (b ∷ bs) ∷ words)) same
      (more (halved name (b ∷ bs)) words r (some, none, (λ k. absurd (let f : ⊥ = cc in f)), ne) (rest r at))
]

first : (word : List ℕ) (words : List (List ℕ)) (kind : WordKind) → IsKind word kind → Made words
    → ((name : List ℕ) → name ≢ [] → HasNoSign name → (s : Sorted) → sorted_behind name words ≡ Some s → IsMadeOf ((45 ∷ 45 ∷ name) ∷ words) s)
    → (s : Sorted) → sorted_by kind word words (sorted words) (λ name. sorted_behind name words) ≡ Some s → IsMadeOf (word ∷ words) s
first word words ends is rest next s e =
    let same : record { settings = []; others = words } ≡ s = cc in
    subst (IsMadeOf (word ∷ words)) same (record { pieces = []; ended = Some words; each = tt; words_are = ap (λ (t : List ℕ). t ∷ words) is; settings = refl; others = refl })
first word words (named name) is rest next s e = subst (λ (t : List ℕ). IsMadeOf (t ∷ words) s) (sym is.0) (next name is.1 is.2 s e)
first word words (valued name value) is rest next s e =
    let (r, at, same) = setting_added name value (sorted words) s e in
    subst (λ (t : List ℕ). IsMadeOf (t ∷ words) s) (sym is.0)
    (subst (IsMadeOf ((45 ∷ 45 ∷ (name ++ 61 ∷ value)) ∷ words)) same (more (whole name value) words r (is.1, is.2) (rest r at)))
first word words refused is rest next s e = absurd (let f : ⊥ = cc in f)
first word words other is rest next s e =
    let (r, at, same) = other_added word (sorted words) s e in
    subst (IsMadeOf (word ∷ words)) same (more (plain word) words r is (rest r at))

pub sorted_made : (words : List (List ℕ)) → Made words
sorted_made [] s e =
    let same : nothing ≡ s = cc in
    subst (IsMadeOf []) same (record { pieces = []; ended = None; each = tt; words_are = refl; settings = refl; others = refl })
sorted_made (word ∷ []) s e =
    first word [] (kind_of word) (is_kind word) (sorted_made []) (λ name some none t f. absurd (let g : ⊥ = cc in g)) s (sym (sorted_step word []) ∙ e)
sorted_made (word ∷ value ∷ words) s e =
    first word (value ∷ words) (kind_of word) (is_kind word) (sorted_made (value ∷ words)) (λ name some none t f. halves name value words some none (sorted_made words) t f) s (sym (sorted_step word (value ∷ words)) ∙ e)
