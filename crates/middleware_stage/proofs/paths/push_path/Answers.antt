use Rattle.std.proofs.Common.{◌∙◌, ◌++◌, List, ℕ, sym, ap}
use Rattle.middleware_stage.specs.Paths.{is_path_byte}
use Rattle.middleware_stage.proofs.Escapes.{all_pass}
use Rattle.middleware_stage.proofs.paths.push_path.Goals as goal

pub returns-then-are_path_bytes : goal.returns-then-are_path_bytes
returns-then-are_path_bytes c =
    c.in_ok-extend_from_slice.ensures.items
    ∙ ap (λ (x : List ℕ). c.args.out.now.items ++ x) (sym (all_pass is_path_byte c.args.text.now (sym c.are_path_bytes.ensures ∙ c.if-are_path_bytes.true)))
