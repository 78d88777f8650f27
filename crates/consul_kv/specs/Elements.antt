-- What an element of Consul's reply says.
use Rattle.std.specs.Prelude.{◌≡◌, ◌≢◌, ℕ, List, [], ◌∷◌, take, Option, Some, None, option_and_then, Result, Ok, Err, IsUtf8, codes, slice_get}
use Rattle.serde_json.specs.Data.{Data, null, string}
use Rattle.serde_json.specs.Find.{get, as_str}
use Rattle.base64.specs.Engines.{standard}
use Rattle.base64.specs.GeneralPurpose.{encode_of, IsBytes}
use Rattle.consul_kv.specs.Keys.{Pair}
use Rattle.consul_kv.specs.declared.element.ElementFault.{ElementFault}
use Rattle.consul_kv.specs.declared.element.ElementFault.TheVariants.{Shape, NotBase64, NotText, Memory}

-- the text under `Key`
abbrev pub key_in : Data → Option (List ℕ)
key_in element = option_and_then as_str (get (codes "Key") element)

-- what reading a text of base64 answers: the bytes that it encodes, where they are text
abbrev pub IsDecodedAs : List ℕ → Result (List ℕ) ElementFault → Type 0
IsDecodedAs base (Ok text) = IsBytes text × (base ≡ encode_of standard text) × IsUtf8 text
IsDecodedAs base (Err NotBase64) = (bytes : List ℕ) → IsBytes bytes → base ≢ encode_of standard bytes
IsDecodedAs base (Err NotText) = (bytes : List ℕ) × IsBytes bytes × (base ≡ encode_of standard bytes) × ¬ (IsUtf8 bytes)
IsDecodedAs base (Err Shape) = ⊥
IsDecodedAs base (Err Memory) = Unit {0}

-- what reading the member `Value` answers: null is the empty text
abbrev pub IsValueRead : Option Data → Result (List ℕ) ElementFault → Type 0
IsValueRead (Some null) result = result ≡ Ok []
IsValueRead (Some (string base)) result = IsDecodedAs base result
IsValueRead _ result = result ≡ Err Shape

-- the answer on the member `Value`, where the key is one
abbrev pub IsReadUnder : Option (List ℕ) → Option Data → Result Pair ElementFault → Type 0
IsReadUnder None value result = result ≡ Err Shape
IsReadUnder (Some key) value (Ok pair) = (pair.0 ≡ key) × IsValueRead value (Ok pair.1)
IsReadUnder (Some key) value (Err fault) = IsValueRead value (Err fault)

-- what reading an element answers. Other members aren't read
abbrev pub IsElementRead : Data → Result Pair ElementFault → Type 0
IsElementRead element result = IsReadUnder (key_in element) (get (codes "Value") element) result

-- each element is sound and gives the pair in its place
abbrev pub ArePairsOf : List Data → List Pair → Type 0
ArePairsOf [] [] = Unit {0}
ArePairsOf (d ∷ ds) (p ∷ ps) = IsElementRead d (Ok p) × ArePairsOf ds ps
ArePairsOf _ _ = ⊥

-- the elements before the place are sound, and the one there has the fault
abbrev pub IsFirstFaulty : List Data → ℕ → ElementFault → Type 0
IsFirstFaulty elements at fault = ((before : List Pair) × ArePairsOf (take at elements) before)
    × ((element : Data) × (slice_get elements at ≡ Some element) × IsElementRead element (Err fault))

-- the element has the fault, or memory ran out
abbrev pub IsFaultOf : Data → ElementFault → Type 0
IsFaultOf element Memory = Unit {0}
IsFaultOf element fault = IsElementRead element (Err fault)

abbrev pub IsFaultAt : List Data → ℕ → ElementFault → Type 0
IsFaultAt elements at Memory = Unit {0}
IsFaultAt elements at fault = IsFirstFaulty elements at fault
