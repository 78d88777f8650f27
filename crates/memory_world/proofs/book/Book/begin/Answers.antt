use Rattle.std.proofs.Common.{rules, List, [], ◌∷◌, ◌++◌, ap, ◌∙◌, ◌≡◌}
use Rattle.memory_world.specs.declared.record.Record.{Record}
use Rattle.memory_world.specs.declared.record.Record.TheVariants as kept
use Rattle.memory_world.specs.Books.{BookView}
use Rattle.memory_world.specs.Marks.{open_count}
use Rattle.memory_world.proofs.MarkLemmas.{count_most, count_wait, wait_keeps}
use Rattle.memory_world.proofs.Kept.{log_more, keeps}
use Rattle.memory_world.proofs.book.Book.begin.Goals as goal

pub invariant_of-self-2 : goal.invariant_of-self-2
invariant_of-self-2 c =
    let most = count_most c.self.inside.marks.items in
    let same : open_count c.begin_all.new.marks.items ≡ open_count c.self.inside.marks.items = ap open_count c.begin_all.ensures ∙ count_wait c.self.inside.marks.items in (
      search (rules, most, same),
      keeps c.self.inside.marks.items c.begin_all.new.marks.items c.self.inside.told.items c.and-self-inside.result.items c.self.inside.records.items c.push_reserved.new.self.items (kept.Waited c.args.until) 0 c.self.inside.has_lost
          (wait_keeps c.self.inside.marks.items c.begin_all.new.marks.items c.begin_all.ensures) c.and-self-inside.ensures (c.push_reserved.ensures.items ∙ ap (λ (rs : List Record). rs ++ kept.Waited c.args.until ∷ []) c.reserve.ensures.items) c.self.invariant.1.0 c.self.invariant.1.1,
    )

pub returns-clause-log : goal.returns-clause-log
returns-clause-log c = log_more c.args.self.now.log c.self.inside.told.items c.and-self-inside.result.items (kept.Waited c.args.until) 0 (ap (λ (v : BookView). v.log) c.self.view_is) c.and-self-inside.ensures
