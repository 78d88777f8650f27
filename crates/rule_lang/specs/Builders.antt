-- What contracts see of a rule that is put together.
use Rattle.std.specs.Prelude.{ℕ, List, Option, Some, MatchOption, reverse, map}
use Rattle.std.specs.Option.{option_map}
use Rattle.std.specs.List.{AllByRecursion}
use Rattle.rule_lang.specs.declared.token.Token.{Token}
use Rattle.rule_lang.specs.declared.token.TokenKind.{TokenKind}
use Rattle.rule_lang.specs.declared.token.TokenKind.TheVariants as kind
use Rattle.rule_lang.specs.declared.build.Layer.{Layer as Group}
use Rattle.rule_lang.specs.declared.build.Builder.{Builder}
use Rattle.rule_lang.specs.declared.call.CallFault.{CallFault}
use Rattle.rule_lang.specs.declared.call.CallFault.TheVariants as fault
use Rattle.rule_lang.specs.Trees.{Tree, tree_of}
use Rattle.rule_lang.specs.Calls.{IsCallFault}
use Rattle.rule_lang.specs.Values.{Stands, StandsAsValue, tokens_call, IsRightCall}
use Rattle.rule_lang.specs.Builds.{Layer, Build}

abbrev pub layer_of : Group → Layer Tree
layer_of g = record { ors = option_map tree_of g.ors; ands = option_map tree_of g.ands; nots = g.nots }

abbrev pub build_of : Builder → Build Tree
build_of b = record { name = b.name; values = b.values.items; layer = layer_of b.layer; outer = map layer_of (reverse b.outer.items) }

-- the tokens of the call that is begun stand in the text
pub record TokensStand (text : List ℕ) (name : Option Token) (values : List Token) : Type 0 where
  pub name_stands : MatchOption name (Unit {0}) (Stands text)
  pub values_stand : AllByRecursion (StandsAsValue text) values

-- the call that this token ends is right, or has this fault
abbrev pub EndsRight : List ℕ → Option Token → List Token → TokenKind → Type 0
EndsRight text (Some name) values kind.Close = IsRightCall text (tokens_call name values)
EndsRight text _ values _ = Unit {0}

abbrev pub EndsWrong : List ℕ → Option Token → List Token → TokenKind → CallFault → Type 0
EndsWrong text name values k fault.Memory = Unit {0}
EndsWrong text (Some name) values kind.Close f = IsCallFault text (tokens_call name values) f
EndsWrong text _ values _ f = ⊥
