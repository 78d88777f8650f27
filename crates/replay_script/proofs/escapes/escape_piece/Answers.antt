use Rattle.std.proofs.Common.{◌≡◌, ◌∷◌, ◌∙◌, ℕ, List, MatchOption, sym, subst, ap}
use Rattle.replay_script.specs.Escapes.{BeginsWithPiece}
use Rattle.replay_script.proofs.escapes.escape_piece.Goals as goal

pub returns-in-120 : goal.returns-in-120
returns-in-120 c =
    let is : c.args.text.now ≡ 120 ∷ c.in_ok-kind.rest.now = c.in_ok-kind.ensures.cases.0 ∙ ap (λ b. b ∷ c.in_ok-kind.rest.now) c.in-120.is in
    subst (λ (t : List ℕ). MatchOption c.hex_piece.result ((byte : ℕ) (rest : List ℕ) → ¬ (BeginsWithPiece (92 ∷ t) byte rest)) (λ piece. BeginsWithPiece (92 ∷ t) piece.0 piece.1.now)) (sym is) c.hex_piece.ensures
