-- What a search through the pops finds.
use Rattle.std.proofs.Common.{◌≡◌, ℕ, ◌+◌, ◌-◌, ◌<◌, ◌≤◌, List, length, arith}
use Rattle.std.specs.Prelude.{IsBitSet}
use Rattle.wrr_deadlines.specs.Schedule.{weight_of, IsWeighted}
use Rattle.wrr_deadlines.specs.Turn.{first_pops, popped_child}
use Rattle.wrr_deadlines.specs.Reduced.{period_len}
use Rattle.wrr_deadlines.specs.Choice.{HasUp, PicksFrom}
use Rattle.wrr_deadlines.proofs.Earliest.{IsNext-next_child, weight_past}
use Rattle.wrr_deadlines.proofs.Pops.{popped_child-is}
use Rattle.wrr_deadlines.proofs.Periodic.{popped_in_period}

-- a popped child has a positive weight
pub popped_child-weighs : (ws : List ℕ) (n : ℕ) → IsWeighted ws → 0 < weight_of ws (popped_child ws n)
popped_child-weighs ws n some = rw popped_child-is (IsNext-next_child ws (first_pops ws (n - 1)) some).weighs

pub popped_child-within : (ws : List ℕ) (n : ℕ) → IsWeighted ws → popped_child ws n < length ws
popped_child-within ws n some = weight_past ws (popped_child ws n) (popped_child-weighs ws n some)

pub IsWeighted-from_up : (ws : List ℕ) (mask : ℕ) → HasUp ws mask → IsWeighted ws
IsWeighted-from_up ws mask has = record { heavy = has.one; weighs = has.weighs }

-- the first pop in the mask is the lawful pick
pub PicksFrom-found : (ws : List ℕ) (mask start before to child : ℕ) → IsWeighted ws → before ≡ start → before < to → to ≤ before + period_len ws → child ≡ popped_child ws to → IsBitSet mask child → ((n : ℕ) → before < n → n < to → ¬ (IsBitSet mask (popped_child ws n))) → PicksFrom ws mask start (record { from = before; to = to; child = child })
PicksFrom-found ws mask start before to child some begins onward within popped up passed = record {
  begins = begins;
  within = omega arith;
  lawful = record {
    onward = onward;
    popped = popped;
    weighs = rw popped (popped_child-weighs ws to some);
    up = up;
    passed = passed;
  };
}

-- no mask with a child of positive weight is passed over for a whole period
pub not_all_passed : (ws : List ℕ) (mask start : ℕ) → HasUp ws mask → ((n : ℕ) → start < n → n ≤ start + period_len ws → ¬ (IsBitSet mask (popped_child ws n))) → ⊥
not_all_passed ws mask start has passed =
    let found = popped_in_period ws start has.one (IsWeighted-from_up ws mask has) has.weighs in
    passed found.0 found.1 found.2 (rw found.3 has.up)
