use Rattle.std.proofs.Common.{◌∙◌, ◌++◌, sym, ap, length, List, ℕ}
use Rattle.std.proofs.lemmas.Bool.{false≢true}
use Rattle.std.proofs.lemmas.Bool.Decides.{Decides-eqb}
use Rattle.std.proofs.lemmas.List.{take_rest}
use Rattle.std.proofs.lemmas.Slice.Eq.{starts_is}
use Rattle.middleware_stage.proofs.redirects.behind.Goals as goal

pub returns-then-starts_with : goal.returns-then-starts_with
returns-then-starts_with c =
    let both = starts_is Decides-eqb c.args.text.now c.args.front.now c.starts_with.result c.starts_with.ensures.value in
    both.0 c.if-starts_with.true ∙ ap (λ (x : List ℕ). c.args.front.now ++ x) (sym (take_rest c.args.text.now (length c.args.front.now)))

pub returns-else-starts_with : goal.returns-else-starts_with
returns-else-starts_with c = λ rest e.
    let both = starts_is Decides-eqb c.args.text.now c.args.front.now c.starts_with.result c.starts_with.ensures.value in
    false≢true (sym c.if-starts_with.false ∙ both.1 rest e)
