use Rattle.command_words.proofs.Makings.{made_sorted, sorted_made}
use Rattle.command_words.proofs.laws.words_are_made_of_pieces.Goals as goal

pub returns : goal.returns
returns c = λ words s. (sorted_made words s, made_sorted words s)
