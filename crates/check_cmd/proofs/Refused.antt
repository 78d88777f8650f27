-- A refusal in place of a configuration.
use Rattle.std.proofs.Common.{◌≡◌, ℕ, List, Option, Err, subst}
use Rattle.px_base.specs.declared.answer.Answer.{Answer}
use Rattle.config_input.specs.declared.fault.NoConfig.{NoConfig}
use Rattle.config_input.specs.declared.fault.NoConfig.TheVariants as why
use Rattle.config_input.specs.Inputs.{IsConfigRead, IsRefused}

-- the answer that was handed on is one of a refusal
pub refused_read : (left : Option (List ℕ)) (failed : Type 0) (e : NoConfig) (answer : Answer) → e ≡ why.Refused answer → IsConfigRead left ⊥ failed (Err e)
    → IsRefused left answer.status answer.text.items
refused_read left failed e answer is h = let P : NoConfig → Type 0 = λ x. IsConfigRead left ⊥ failed (Err x) in subst P is h
