use Rattle.std.proofs.Common.{rules, ap, ◌∙◌}
use Rattle.memory_world.specs.declared.mark.Mark.{Mark}
use Rattle.memory_world.proofs.MarkLemmas.{first_within, first_mark, first_link}
use Rattle.memory_world.proofs.mark.mark_at.Goals as goal

pub bounds-marks-at : goal.bounds-marks-at
bounds-marks-at c = let within = first_within c.args.marks.now c.args.link c.args.at c.requires in search (rules, within)

pub offset_bounds-marks-at : goal.offset_bounds-marks-at
offset_bounds-marks-at c = let within = first_within c.args.marks.now c.args.link c.args.at c.requires in search (rules, within)

pub returns-clause-mark : goal.returns-clause-mark
returns-clause-mark c = first_mark c.args.marks.now c.args.link c.args.at _ c.requires

pub returns-clause-link : goal.returns-clause-link
returns-clause-link c = ap (λ (m : Mark). m.link) (first_mark c.args.marks.now c.args.link c.args.at _ c.requires) ∙ first_link c.args.marks.now c.args.link c.args.at c.requires
