use Rattle.std.proofs.Common.{◌∙◌}
use Rattle.body_codec.proofs.Spelling.{line_failed, line_end_failed, bytes_failed, chunk_end_failed}
use Rattle.body_codec.proofs.writing.write_chunk.Goals as goal

pub returns-in_err-write_size-clause-err : goal.returns-in_err-write_size-clause-err
returns-in_err-write_size-clause-err c = line_failed _ c.args.out.now.items c.write_size.new.out.items c.args.piece.now c.in_err-write_size.ensures.err

pub returns-in_err-extend_from_slice-clause-err : goal.returns-in_err-extend_from_slice-clause-err
returns-in_err-extend_from_slice-clause-err c =
    line_end_failed _ c.args.out.now.items c.extend_from_slice.new.self.items c.args.piece.now (c.in_err-extend_from_slice.ensures.items ∙ c.in_ok-write_size.ensures.ok)

pub returns-in_err-extend_from_slice-2-clause-err : goal.returns-in_err-extend_from_slice-2-clause-err
returns-in_err-extend_from_slice-2-clause-err c =
    bytes_failed _ c.args.out.now.items c.write_size.new.out.items c.extend_from_slice-2.new.self.items c.args.piece.now c.in_ok-write_size.ensures.ok
    (c.in_err-extend_from_slice-2.ensures.items ∙ c.in_ok-extend_from_slice.ensures.items)

pub returns-in_err-extend_from_slice-3-clause-err : goal.returns-in_err-extend_from_slice-3-clause-err
returns-in_err-extend_from_slice-3-clause-err c =
    chunk_end_failed _ c.args.out.now.items c.write_size.new.out.items c.extend_from_slice.new.self.items c.extend_from_slice-3.new.self.items c.args.piece.now c.in_ok-write_size.ensures.ok
    c.in_ok-extend_from_slice.ensures.items (c.in_err-extend_from_slice-3.ensures.items ∙ c.in_ok-extend_from_slice-2.ensures.items)
