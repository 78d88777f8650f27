use Rattle.std.proofs.Common.{rules, List, [], ◌∷◌, ◌++◌, ap, ◌∙◌}
use Rattle.memory_world.specs.declared.record.Record.{Record}
use Rattle.memory_world.specs.Books.{BookView}
use Rattle.memory_world.proofs.MarkLemmas.{count_most, added_from, come_keeps}
use Rattle.memory_world.proofs.Kept.{log_more, keeps}
use Rattle.memory_world.proofs.book.Book.come.Goals as goal

pub invariant_of-self-2 : goal.invariant_of-self-2
invariant_of-self-2 c =
    let most = count_most c.push.new.self.items in (
      search (rules, most),
      keeps c.self.inside.marks.items c.push.new.self.items c.self.inside.told.items c.and-self-inside.result.items c.self.inside.records.items c.push_reserved.new.self.items c.args.entry 0 c.self.inside.has_lost
          (come_keeps c.self.inside.marks.items c.push.new.self.items c.args.mark c.in_ok-push.ensures.items) c.and-self-inside.ensures (c.push_reserved.ensures.items ∙ ap (λ (rs : List Record). rs ++ c.args.entry ∷ []) c.reserve.ensures.items) c.self.invariant.1.0 c.self.invariant.1.1,
    )

pub returns-clause-log : goal.returns-clause-log
returns-clause-log c = log_more c.args.self.now.log c.self.inside.told.items c.and-self-inside.result.items c.args.entry 0 (ap (λ (v : BookView). v.log) c.self.view_is) c.and-self-inside.ensures

pub returns-clause-marks : goal.returns-clause-marks
returns-clause-marks c = added_from c.args.self.now.marks c.self.inside.marks.items c.push.new.self.items c.args.mark (search rules) c.in_ok-push.ensures.items c.requires
