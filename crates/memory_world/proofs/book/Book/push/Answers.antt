use Rattle.std.proofs.Common.{rules, List, [], ◌∷◌, ◌++◌, ap, ◌∙◌}
use Rattle.memory_world.specs.declared.record.Record.{Record}
use Rattle.memory_world.proofs.MarkLemmas.{count_most}
use Rattle.memory_world.proofs.Kept.{view_more, keeps}
use Rattle.memory_world.proofs.book.Book.push.Goals as goal

pub invariant_of-self-2 : goal.invariant_of-self-2
invariant_of-self-2 c =
    let most = count_most c.self.inside.marks.items in (
      search (rules, most),
      keeps c.self.inside.marks.items c.self.inside.marks.items c.self.inside.told.items c.and-self-inside.result.items c.self.inside.records.items c.push_reserved.new.self.items c.args.entry 0 c.self.inside.has_lost
          (λ l h. h) c.and-self-inside.ensures (c.push_reserved.ensures.items ∙ ap (λ (rs : List Record). rs ++ c.args.entry ∷ []) c.reserve.ensures.items) c.self.invariant.1.0 c.self.invariant.1.1,
    )

pub returns-clause-ok : goal.returns-clause-ok
returns-clause-ok c = view_more c.args.self.now c.self.inside.told.items c.and-self-inside.result.items c.self.inside.marks.items c.self.inside.has_lost c.args.entry 0 c.self.view_is c.and-self-inside.ensures
