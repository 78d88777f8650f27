use Rattle.std.proofs.Common.{◌≡◌, sym, ap, ◌∙◌, arith}
use Rattle.memory_world.specs.Books.{BookView}
use Rattle.memory_world.specs.Marks.{mark_of, open_count}
use Rattle.memory_world.proofs.MarkLemmas.{count_stays}
use Rattle.memory_world.proofs.Kept.{kept_still}
use Rattle.memory_world.proofs.book.Book.put.Goals as goal

pub invariant_of-self : goal.invariant_of-self
invariant_of-self c =
    let same : open_count c.put_mark.new.marks.items ≡ open_count c.self.inside.marks.items = count_stays _ _ _ _ c.put_mark.ensures.count (c.requires.open ∙ sym (ap (λ (v : BookView). (mark_of v.marks c.args.mark.link).is_open) c.self.view_is)) in
    let held = c.self.invariant.0 in
    (omega (arith, same, held), (kept_still _ _ _ _ c.put_mark.ensures.put.has c.self.invariant.1.0, c.self.invariant.1.1))
