use Rattle.body_codec.proofs.writing.+write_size.Given as goal

abbrev pub decreases-write_size : goal.decreases-write_size
decreases-write_size l = l.size
