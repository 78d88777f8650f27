-- The words of `check` are those of no other command.
use Rattle.std.proofs.Common.{◌≡◌, ℕ, List, [], ◌∷◌, ap, sym, ◌∙◌, arith}
use Rattle.command_words.specs.declared.command.Command.{Command}
use Rattle.command_words.specs.declared.command.Command.TheVariants.{Route, Check, Replay}
use Rattle.command_words.specs.declared.command.CheckPlan.{CheckPlan}
use Rattle.command_words.specs.declared.command.RoutePlan.{RoutePlan}
use Rattle.command_words.specs.Commands.{IsCommand, name_of}
use Rattle.proxy_cmd.specs.Output.{IsRoute, IsCheck, IsReplay}

abbrev first_word : List (List ℕ) → List ℕ
first_word [] = []
first_word (word ∷ words) = word

abbrev first_byte : List ℕ → ℕ
first_byte [] = 0
first_byte (b ∷ bytes) = b

-- words are of one command's name
named_as : (words : List (List ℕ)) (c d : Command) → IsCommand words c → IsCommand words d → name_of c ≡ name_of d
named_as words c d (rest, s, is, sorts, says) (rest', s', is', sorts', says') = ap first_word (sym is ∙ is')

pub no_route : (words : List (List ℕ)) (plan : RoutePlan) (other : CheckPlan) → IsRoute words plan → IsCheck words other → ⊥
no_route words plan other r k = let e : 114 ≡ 99 = ap first_byte (named_as words (Route plan) (Check other) r k) in let f : ⊥ = omega (arith, e) in f

pub no_replay : (words : List (List ℕ)) (other : CheckPlan) → IsReplay words → IsCheck words other → ⊥
no_replay words other r k = let e : 114 ≡ 99 = ap first_byte (named_as words Replay (Check other) r k) in let f : ⊥ = omega (arith, e) in f
