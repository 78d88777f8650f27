use Rattle.std.proofs.Common.{◌∙◌, ap, ap₂, subst, sym, length, List, ℕ}
use Rattle.httparse.specs.declared.spans.HeaderSpan.{HeaderSpan}
use Rattle.head_view.specs.Lines.{lines_at}
use Rattle.http_wire.specs.Lines.{AreSpelled}
use Rattle.http_wire.proofs.Laid.{taken_out, fewer, spelled_as, read_as}
use Rattle.http_wire.proofs.lines.edits.take_line.Goals as goal

pub lay_out-requires : goal.lay_out-requires
lay_out-requires c =
    let start = rw c.as_slice-2.ensures.value at c.bounds_of-start.ensures.start in
    let end = rw c.as_slice-2.ensures.value at c.bounds_of-start.ensures.end in
    rw c.as_slice-3.ensures.value
    (fewer c.args.text.now.items c.cut.new.text.items c.args.spans.now.items c.remove.new.self.items c.args.at c.bounds_of-start.result.0 c.bounds_of-start.result.1
    c.requires.spelled start end c.cut.ensures c.remove.ensures.items)

pub returns-clause-spelled : goal.returns-clause-spelled
returns-clause-spelled c =
    let start = rw c.as_slice-2.ensures.value at c.bounds_of-start.ensures.start in
    let end = rw c.as_slice-2.ensures.value at c.bounds_of-start.ensures.end in
    spelled_as c.cut.new.text.items _ c.lay_out.new.spans.items c.lay_out.ensures.laid
    (taken_out c.args.text.now.items c.cut.new.text.items c.args.spans.now.items c.remove.new.self.items c.args.at c.bounds_of-start.result.0 c.bounds_of-start.result.1
    c.requires.spelled start end c.cut.ensures c.remove.ensures.items).0

pub returns-clause-lines : goal.returns-clause-lines
returns-clause-lines c =
    let start = rw c.as_slice-2.ensures.value at c.bounds_of-start.ensures.start in
    let end = rw c.as_slice-2.ensures.value at c.bounds_of-start.ensures.end in
    read_as c.cut.new.text.items _ c.lay_out.new.spans.items c.lay_out.ensures.laid
    ∙ (taken_out c.args.text.now.items c.cut.new.text.items c.args.spans.now.items c.remove.new.self.items c.args.at c.bounds_of-start.result.0 c.bounds_of-start.result.1
    c.requires.spelled start end c.cut.ensures c.remove.ensures.items).1
