use Rattle.std.proofs.Common.{rules, List, [], ◌∷◌, ◌++◌, ap, ◌∙◌}
use Rattle.memory_world.specs.declared.record.Record.{Record}
use Rattle.memory_world.specs.Books.{BookView, is_spare}
use Rattle.memory_world.proofs.MarkLemmas.{count_most}
use Rattle.memory_world.proofs.Kept.{log_more, keeps, loses}
use Rattle.memory_world.proofs.book.Book.tell.Goals as goal

pub invariant_of-self : goal.invariant_of-self
invariant_of-self c =
    let most = count_most c.self.inside.marks.items in (
      search (rules, most),
      loses c.self.inside.marks.items c.self.inside.told.items c.and-self-inside.result.items c.self.inside.records.items c.reserve.new.self.items c.args.entry 0
          (ap (λ (v : BookView). is_spare v.marks c.args.entry) c.self.view_is ∙ c.requires) c.and-self-inside.ensures c.reserve.ensures.items c.self.invariant.1.0,
    )

pub invariant_of-self-2 : goal.invariant_of-self-2
invariant_of-self-2 c =
    let most = count_most c.self.inside.marks.items in (
      search (rules, most),
      keeps c.self.inside.marks.items c.self.inside.marks.items c.self.inside.told.items c.and-self-inside-2.result.items c.self.inside.records.items c.push_reserved.new.self.items c.args.entry 0 c.self.inside.has_lost
          (λ l h. h) c.and-self-inside-2.ensures (c.push_reserved.ensures.items ∙ ap (λ (rs : List Record). rs ++ c.args.entry ∷ []) c.reserve.ensures.items) c.self.invariant.1.0 c.self.invariant.1.1,
    )

pub returns-in_default-clause-log : goal.returns-in_default-clause-log
returns-in_default-clause-log c = log_more c.args.self.now.log c.self.inside.told.items c.and-self-inside.result.items c.args.entry 0 (ap (λ (v : BookView). v.log) c.self.view_is) c.and-self-inside.ensures

pub returns-clause-log : goal.returns-clause-log
returns-clause-log c = log_more c.args.self.now.log c.self.inside.told.items c.and-self-inside-2.result.items c.args.entry 0 (ap (λ (v : BookView). v.log) c.self.view_is) c.and-self-inside-2.ensures
