use Rattle.std.proofs.Common.{◌≡◌, ◌∙◌, ◌∷◌, sym, ap, map, string_bytes, Global}
use Rattle.command_words.specs.Names.{text_of}
use Rattle.command_words.proofs.read.read_words.Goals as goal

pub returns-in-Some-command_named : goal.returns-in-Some-command_named
returns-in-Some-command_named c =
    let cut = ap (map (string_bytes {Z = Global})) c.in-Some.ensures.cases.0 in
    let all : map (string_bytes {Z = Global}) c.args.words.now ≡ text_of c.in-Some-command_named.name ∷ map (string_bytes {Z = Global}) c.in-Some.rest.now =
    cut ∙ ap (λ v. v ∷ map (string_bytes {Z = Global}) c.in-Some.rest.now) (sym c.as_bytes.ensures.value ∙ c.in-Some-command_named.ensures) in
    rw all c.read_rest.ensures
