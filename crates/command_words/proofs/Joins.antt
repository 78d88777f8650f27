-- What a word adds to those that were sorted before it.
use Rattle.std.proofs.Common.{◌≡◌, ℕ, List, [], ◌∷◌, ◌++◌, Option, Some, None, true, refl, sym, ap, ◌∙◌, append_assoc, append-nil}
use Rattle.command_words.specs.declared.sorting.Setting.{Setting}
use Rattle.command_words.specs.declared.sorting.Sorted.{Sorted}
use Rattle.command_words.specs.Words.{WordKind, valued, other, kind_of, nothing, sorted, sorted_by, sorted_behind, and_setting, and_other, is_value, joined}

-- the words are sorted by the kind of the first
pub sorted_step : (word : List ℕ) (words : List (List ℕ)) → sorted (word ∷ words) ≡ sorted_by (kind_of word) word words (sorted words) (λ name. sorted_behind name words)
sorted_step word [] = refl
sorted_step word (w ∷ ws) = refl

-- an option is added to those that were found
pub join_setting : (found : Sorted) (name value : List ℕ) (rest : Option Sorted)
    → joined found (and_setting name value rest) ≡ joined (record found { settings = found.settings ++ record { name = name; value = value } ∷ [] }) rest
join_setting found name value None = refl
join_setting found name value (Some s) =
    let e : found.settings ++ (record { name = name; value = value } ∷ s.settings) ≡ (found.settings ++ record { name = name; value = value } ∷ []) ++ s.settings = sym (append_assoc found.settings (record { name = name; value = value } ∷ []) s.settings) in
    ap (λ (x : List Setting). Some (record { settings = x; others = found.others ++ s.others })) e

pub join_other : (found : Sorted) (word : List ℕ) (rest : Option Sorted)
    → joined found (and_other word rest) ≡ joined (record found { others = found.others ++ word ∷ [] }) rest
join_other found word None = refl
join_other found word (Some s) =
    ap (λ (x : List (List ℕ)). Some (record { settings = found.settings ++ s.settings; others = x })) (sym (append_assoc found.others (word ∷ []) s.others))

-- the words behind the end of the options
pub join_others : (found : Sorted) (words : List (List ℕ))
    → joined found (Some (record { settings = []; others = words })) ≡ joined (record found { others = found.others ++ words }) (Some nothing)
join_others found words =
    ap (λ (x : List (List ℕ)). Some (record { settings = found.settings ++ []; others = x })) (sym (append-nil (found.others ++ words)))

-- the sorted words of each kind
pub at_kind : (word : List ℕ) (words : List (List ℕ)) (kind : WordKind) → kind ≡ kind_of word
    → sorted (word ∷ words) ≡ sorted_by kind word words (sorted words) (λ name. sorted_behind name words)
at_kind word words kind e = sorted_step word words ∙ ap (λ k. sorted_by k word words (sorted words) (λ name. sorted_behind name words)) (sym e)

-- the value of an option that was named
pub value_taken : (found new : Sorted) (name value : List ℕ) (words rest : List (List ℕ)) → words ≡ value ∷ rest → is_value value ≡ true
    → new ≡ record found { settings = found.settings ++ record { name = name; value = value } ∷ [] } → joined found (sorted_behind name words) ≡ joined new (sorted rest)
value_taken found new name value words rest e is n =
    let behind : sorted_behind name words ≡ and_setting name value (sorted rest) = ap (sorted_behind name) e ∙ rw is refl in
    ap (joined found) behind ∙ join_setting found name value (sorted rest) ∙ ap (λ (s : Sorted). joined s (sorted rest)) (sym n)

-- an option with its value
pub setting_taken : (found new : Sorted) (word name value : List ℕ) (words : List (List ℕ)) → valued name value ≡ kind_of word
    → new ≡ record found { settings = found.settings ++ record { name = name; value = value } ∷ [] } → joined found (sorted (word ∷ words)) ≡ joined new (sorted words)
setting_taken found new word name value words e n =
    ap (joined found) (at_kind word words (valued name value) e) ∙ join_setting found name value (sorted words) ∙ ap (λ (s : Sorted). joined s (sorted words)) (sym n)

-- another word
pub other_taken : (found new : Sorted) (word : List ℕ) (words : List (List ℕ)) → other ≡ kind_of word
    → new ≡ record found { others = found.others ++ word ∷ [] } → joined found (sorted (word ∷ words)) ≡ joined new (sorted words)
other_taken found new word words e n =
    ap (joined found) (at_kind word words other e) ∙ join_other found word (sorted words) ∙ ap (λ (s : Sorted). joined s (sorted words)) (sym n)

-- at first nothing was found
pub joined_nothing : (settings : List Setting) (others : List (List ℕ)) (rest : Option Sorted) → settings ≡ [] → others ≡ [] → rest ≡ joined (record { settings = settings; others = others }) rest
joined_nothing settings others None e f = refl
joined_nothing settings others (Some s) e f = rw (e, f) refl
