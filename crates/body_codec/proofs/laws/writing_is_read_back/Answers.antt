use Rattle.body_codec.specs.Writing.{joined, written_body}
use Rattle.body_codec.specs.declared.reading.Framing.TheVariants as framed
use Rattle.body_codec.proofs.Continuations.{is_read}
use Rattle.body_codec.proofs.Spelling.{is_written}
use Rattle.body_codec.proofs.laws.writing_is_read_back.Goals as goal

pub returns : goal.returns
returns c = record {
  body = is_written;
  read = λ pieces all. is_read framed.Chunked (written_body pieces) (joined pieces) (is_written pieces all);
}
