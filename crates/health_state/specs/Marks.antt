-- The mask of the servers that are up, by the verdicts of their probes.
use Rattle.std.specs.Prelude.{ℕ, ◌+◌, ◌*◌, ◌==◌, Bool, true, if◌then◌else◌, List, [], ◌∷◌, fold, replicate, slice_set}

-- A verdict: the server that was probed, and whether it is good.
pub record Mark : Type 0 where
  pub server : ℕ
  pub good : Bool

-- Which of `count` servers are up: all at first, and each verdict sets or clears its server's flag.
abbrev pub ups_after : ℕ → List Mark → List Bool
ups_after count marks = fold (λ ups mark. slice_set ups mark.server mark.good) (replicate count true) marks

-- The number whose bits are these flags, the first one lowest.
abbrev pub flags_mask : List Bool → ℕ
flags_mask [] = 0
flags_mask (flag ∷ flags) = (if flag then 1 else 0) + 2 * flags_mask flags

-- The mask of `count` servers after these verdicts.
abbrev pub mask_of : ℕ → List Mark → ℕ
mask_of count marks = flags_mask (ups_after count marks)

-- Whether a server's last verdict is good. One without a verdict is up.
abbrev pub last_verdict : List Mark → ℕ → Bool
last_verdict marks server = fold (λ up mark. if mark.server == server then mark.good else up) true marks
