-- The bit that the shift brings down is the bit of the mask.
use Rattle.std.proofs.lemmas.Nat.{bit_set_by_shift}
use Rattle.std.proofs.lemmas.Bool.{eqb-true, eq-eqb}
use Rattle.wrr_deadlines.proofs.choice.is_up.Goals as goal

pub returns : goal.returns
returns c =
    let shift = bit_set_by_shift c.args.mask c.args.child in
    (λ t. shift.0 (eqb-true _ 1 t), λ b. eq-eqb _ 1 (shift.1 b))
