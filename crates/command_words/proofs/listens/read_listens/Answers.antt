use Rattle.std.proofs.Common.{◌≡◌, ◌∙◌, sym, ap, map, false}
use Rattle.command_words.specs.Commands.{are_apart as are_names_apart, entry_of}
use Rattle.command_words.proofs.ListenRows.{never_apart}
use Rattle.command_words.proofs.listens.read_listens.Goals as goal

pub returns-else-are_apart : goal.returns-else-are_apart
returns-else-are_apart c =
    let twice : are_names_apart (map entry_of c.in_ok-listens.listens) ≡ false = ap (λ xs. are_names_apart (map entry_of xs)) (sym c.as_slice.ensures) ∙ sym c.are_apart.ensures ∙ c.if-are_apart.false in
    λ _ ms h apart. never_apart c.args.words.now c.in_ok-listens.listens c.in_ok-listens.ensures twice ms h apart
