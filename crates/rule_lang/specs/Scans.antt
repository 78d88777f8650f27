-- What the scanners of one token answer.
use Rattle.std.specs.Prelude.{◌≡◌, ◌≢◌, ℕ, ◌<◌, ◌≤◌, ◌⊎◌, List, [], ◌∷◌, ◌++◌, length, Option, Some, None, MatchOption, ◌||◌, ◌==◌, if◌then◌else◌}
use Rattle.std.specs.List.{AllByRecursion}
use Rattle.rule_lang.specs.declared.scan.Found.{Found}
use Rattle.rule_lang.specs.declared.scan.Found.TheVariants as found
use Rattle.rule_lang.specs.declared.scan.Quote.{Quote}
use Rattle.rule_lang.specs.declared.scan.Quote.TheVariants as quote
use Rattle.rule_lang.specs.declared.token.TokenKind.{TokenKind}
use Rattle.rule_lang.specs.Tokens.{IsSpelled, IsFaultAt, Part, pair, parts_text, IsPart, IsGoodPart}

-- a text begins with a token of that many bytes
abbrev pub BeginsWith : TokenKind → ℕ → List ℕ → Type 0
BeginsWith kind len text =
    (spelled rest : List ℕ) × (text ≡ spelled ++ rest) × (len ≡ length spelled) × IsSpelled kind spelled rest

-- a token stands at the front, or the place to blame
abbrev pub FindsFirst : List ℕ → Found → Type 0
FindsFirst text (found.Token kind len) = BeginsWith kind len text
FindsFirst text (found.Fault at) = IsFaultAt text at

-- a token has a byte, and both are in the text
abbrev pub FoundWithin : List ℕ → Found → Type 0
FoundWithin text (found.Token kind len) = (0 < len) × (len ≤ length text)
FoundWithin text (found.Fault at) = at < length text

-- the first bad escape among the parts that were read, if there is one
abbrev pub FirstBad : List Part → Option ℕ → Type 0
FirstBad parts bad =
    MatchOption bad (AllByRecursion IsGoodPart parts) (λ at.
    (good : List Part) × ((escaped : ℕ) × ((others : List Part) × (parts ≡ good ++ pair escaped ∷ others)
    × AllByRecursion IsGoodPart good × AllByRecursion IsPart others × (escaped ≢ 34) × (escaped ≢ 92)
    × (at ≡ length (parts_text good)))))

-- what stands after an opening double quote
abbrev pub Quotes : List ℕ → Quote → Type 0
Quotes body (quote.Closed len) =
    (parts : List Part) × ((more : List ℕ) × AllByRecursion IsGoodPart parts
    × (body ≡ parts_text parts ++ 34 ∷ more) × (len ≡ length (parts_text parts)))
Quotes body (quote.BadEscape at) =
    (parts : List Part) × ((more : List ℕ) × FirstBad parts (Some at)
    × (body ≡ parts_text parts ++ 34 ∷ more))
Quotes body quote.Unclosed =
    (parts : List Part) × ((tail : List ℕ) × AllByRecursion IsPart parts
    × (body ≡ parts_text parts ++ tail) × ((tail ≡ []) ⊎ (tail ≡ 92 ∷ [])))

-- its length is below that of the text
abbrev pub QuoteWithin : List ℕ → Quote → Type 0
QuoteWithin body (quote.Closed len) = len < length body
QuoteWithin body (quote.BadEscape at) = at < length body
QuoteWithin body quote.Unclosed = Unit {0}

-- how a value that is closed at a place ends
abbrev pub closed_by : ℕ → Option ℕ → Quote
closed_by at None = quote.Closed at
closed_by at (Some bad) = quote.BadEscape bad

-- the first bad escape with one more
abbrev pub first_bad : Option ℕ → ℕ → ℕ → Option ℕ
first_bad (Some bad) at escaped = Some bad
first_bad None at escaped = if (escaped == 34) || (escaped == 92) then None else Some at
