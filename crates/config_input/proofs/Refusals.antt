-- What a refusal's status is not.
use Rattle.std.proofs.Common.{◌≢◌, ℕ, List, Option, arith}
use Rattle.config_input.specs.Inputs.{IsRefused, too_long, no_config}

-- neither that of a command that is done, nor one that says that a source or a sink failed
pub refused_apart : (left : Option (List ℕ)) (status : ℕ) (text : List ℕ) → IsRefused left status text → (status ≢ 0) × (status ≢ 5) × (status ≢ 6)
refused_apart left status text (too_long over is told) = (λ e. omega (arith, is, e), λ e. omega (arith, is, e), λ e. omega (arith, is, e))
refused_apart left status text (no_config bytes fault was means other is told) = (λ e. omega (arith, is, e), λ e. omega (arith, is, e), λ e. omega (arith, is, e))
