-- The lexical grammar of a rule's text.
use Rattle.std.specs.Prelude.{◌≡◌, ◌≢◌, ℕ, ◌+◌, ◌<◌, ◌⊎◌, Bool, true, false, ◌||◌, ◌==◌, List, [], ◌∷◌, ◌++◌, length, flat_map, slice_index, codes}
use Rattle.std.specs.List.{AllByRecursion}
use Rattle.std.specs.Char.{is_ascii_alphabetic}
use Rattle.rule_lang.specs.declared.token.Token.{Token}
use Rattle.rule_lang.specs.declared.token.TokenKind.{TokenKind}
use Rattle.rule_lang.specs.declared.token.TokenKind.TheVariants.{Or, And, Not, Open, Close, Comma, Name, Raw, Quoted}

-- a space, a tab, CR or LF
abbrev pub is_blank : ℕ → Bool
is_blank c = (c == 32) || (c == 9) || (c == 13) || (c == 10)

abbrev pub AreBlank : List ℕ → Type 0
AreBlank text = AllByRecursion (λ c. is_blank c ≡ true) text

-- a part of what stands in double quotes: a character for itself, or a backslash and a character
pub data Part : Type 0 where
  character : ℕ → Part
  pair : ℕ → Part

-- its text
abbrev pub part_text : Part → List ℕ
part_text (character c) = c ∷ []
part_text (pair c) = 92 ∷ c ∷ []

abbrev pub parts_text : List Part → List ℕ
parts_text parts = flat_map part_text parts

-- neither a double quote nor a backslash stands for itself
abbrev pub IsPart : Part → Type 0
IsPart (character c) = (c ≢ 34) × (c ≢ 92)
IsPart (pair c) = Unit {0}

-- and only those two have an escape
abbrev pub IsGoodPart : Part → Type 0
IsGoodPart (character c) = (c ≢ 34) × (c ≢ 92)
IsGoodPart (pair c) = (c ≡ 34) ⊎ (c ≡ 92)

-- the text spells a token of this kind, where `after` follows it
abbrev pub IsSpelled : TokenKind → List ℕ → List ℕ → Type 0
IsSpelled Or text after = text ≡ codes "||"
IsSpelled And text after = text ≡ codes "&&"
IsSpelled Not text after = text ≡ codes "!"
IsSpelled Open text after = text ≡ codes "("
IsSpelled Close text after = text ≡ codes ")"
IsSpelled Comma text after = text ≡ codes ","
IsSpelled Name text after =
    (0 < length text) × AllByRecursion (λ c. is_ascii_alphabetic c ≡ true) text
    × (is_ascii_alphabetic (slice_index after 0) ≡ false)
IsSpelled Raw text after =
    (body : List ℕ) × AllByRecursion (λ c. c ≢ 96) body × (text ≡ 96 ∷ body ++ 96 ∷ [])
IsSpelled Quoted text after =
    (parts : List Part) × AllByRecursion IsGoodPart parts × (text ≡ 34 ∷ parts_text parts ++ 34 ∷ [])

-- from place `at` on, `text` is the tokens, blanks before each, and then `after` at place `stop`
abbrev pub Lexes : ℕ → List ℕ → List Token → ℕ → List ℕ → Type 0
Lexes at text [] stop after = (text ≡ after) × (stop ≡ at)
Lexes at text (t ∷ tokens) stop after =
    (blanks spelled rest : List ℕ) × AreBlank blanks × IsSpelled t.kind spelled rest
    × (text ≡ blanks ++ (spelled ++ rest)) × (t.start ≡ at + length blanks)
    × (t.end ≡ t.start + length spelled) × Lexes t.end rest tokens stop after

-- the text is these tokens, and blanks after the last
pub record AreTokens (text : List ℕ) (tokens : List Token) : Type 0 where
  pub stop : ℕ
  pub after : List ℕ
  pub lexes : Lexes 0 text tokens stop after
  pub blank : AreBlank after

-- no token begins with the first byte
pub record BeginsNone (text : List ℕ) : Type 0 where
  pub some : 0 < length text
  pub no_blank : is_blank (slice_index text 0) ≡ false
  pub no_letter : is_ascii_alphabetic (slice_index text 0) ≡ false
  pub no_mark : AllByRecursion (λ c. slice_index text 0 ≢ c) (codes "!(),`\"")
  pub no_or : slice_index text 0 ≡ 124 → slice_index text 1 ≢ 124
  pub no_and : slice_index text 0 ≡ 38 → slice_index text 1 ≢ 38

-- a value begins that is not closed
abbrev pub IsUnclosed : List ℕ → Type 0
IsUnclosed text =
    ((body : List ℕ) × AllByRecursion (λ c. c ≢ 96) body × (text ≡ 96 ∷ body))
    ⊎ ((parts : List Part) × ((tail : List ℕ) × AllByRecursion IsPart parts
    × (text ≡ 34 ∷ parts_text parts ++ tail) × ((tail ≡ []) ⊎ (tail ≡ 92 ∷ []))))

-- a value begins that is closed, and its first other escape has its backslash at this place
pub record HasBadEscape (text : List ℕ) (place : ℕ) : Type 0 where
  pub good : List Part
  pub escaped : ℕ
  pub others : List Part
  pub more : List ℕ
  pub are_good : AllByRecursion IsGoodPart good
  pub is_bad : (escaped ≢ 34) × (escaped ≢ 92)
  pub are_parts : AllByRecursion IsPart others
  pub text_is : text ≡ 34 ∷ parts_text (good ++ pair escaped ∷ others) ++ 34 ∷ more
  pub place_is : place ≡ 1 + length (parts_text good)

-- the text has no token at its front, and the place that is to blame
abbrev pub IsFaultAt : List ℕ → ℕ → Type 0
IsFaultAt text place =
    ((BeginsNone text ⊎ IsUnclosed text) × (place ≡ 0)) ⊎ HasBadEscape text place

-- tokens, and then, after blanks, what is none
pub record FailsAt (text : List ℕ) (place : ℕ) : Type 0 where
  pub tokens : List Token
  pub stop : ℕ
  pub blanks : List ℕ
  pub bad : List ℕ
  pub inner : ℕ
  pub lexes : Lexes 0 text tokens stop (blanks ++ bad)
  pub blank : AreBlank blanks
  pub fault : IsFaultAt bad inner
  pub place_is : place ≡ stop + length blanks + inner
