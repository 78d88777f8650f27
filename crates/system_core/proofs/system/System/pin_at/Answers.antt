use Rattle.std.proofs.Common.{refl}
use Rattle.system_core.proofs.Choosing.{pins_at}
use Rattle.system_core.proofs.system.System.pin_at.Goals as goal

pub returns : goal.returns
returns c = pins_at c.args.self.now _ c.args.place c.requires.0 c.in_ok-pin.ensures.driven.0 c.requires.1 (record { timeline = c.pin.ensures.timeline; stopped = refl }) refl refl
    c.in_ok-pin.ensures.driven.1 (c.in_ok-pin.ensures.driven.2 c.requires.0 c.requires.1)
