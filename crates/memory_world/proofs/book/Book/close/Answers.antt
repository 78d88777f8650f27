use Rattle.std.proofs.Common.{rules, ◌≡◌, ℕ, ◌+◌, sym, ap, ◌∙◌}
use Rattle.memory_world.specs.Books.{BookView}
use Rattle.memory_world.specs.declared.mark.Mark.{Mark}
use Rattle.memory_world.specs.Marks.{mark_of, open_count}
use Rattle.memory_world.proofs.MarkLemmas.{count_falls}
use Rattle.memory_world.proofs.Kept.{log_more, keeps}
use Rattle.memory_world.proofs.book.Book.close.Goals as goal

pub invariant_of-self : goal.invariant_of-self
invariant_of-self c =
    let was = ap (λ (k : ℕ). (mark_of c.self.inside.marks.items k).is_open) (ap (λ (m : Mark). m.link) c.closed.ensures)
    ∙ ap (λ (v : BookView). (mark_of v.marks c.args.mark.link).is_open) c.self.view_is ∙ sym (ap (λ (m : Mark). m.is_open) c.requires.mark) ∙ c.requires.open in
    let fewer : open_count c.put_mark.new.marks.items + 1 ≡ open_count c.self.inside.marks.items = count_falls _ _ _ _ c.put_mark.ensures.count was (ap (λ (m : Mark). m.is_open) c.closed.ensures) in
    let held = c.self.invariant.0 in (
      search (rules, fewer, held),
      keeps c.self.inside.marks.items c.put_mark.new.marks.items c.self.inside.told.items c.and-self-inside.result.items c.self.inside.records.items c.push_reserved.new.self.items c.args.entry 0 c.self.inside.has_lost
          (λ l h. c.put_mark.ensures.put.has l ∙ h) c.and-self-inside.ensures c.push_reserved.ensures.items c.self.invariant.1.0 c.self.invariant.1.1,
    )

pub returns-clause-log : goal.returns-clause-log
returns-clause-log c = log_more c.args.self.now.log c.self.inside.told.items c.and-self-inside.result.items c.args.entry 0 (ap (λ (v : BookView). v.log) c.self.view_is) c.and-self-inside.ensures
