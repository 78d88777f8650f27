use Rattle.std.proofs.Common.{◌≡◌, ◌∷◌, ◌∙◌, ℕ, List, MatchOption, sym, subst, ap}
use Rattle.replay_script.specs.Escapes.{BeginsWithPiece}
use Rattle.replay_script.proofs.Pieces.{plain_front}
use Rattle.replay_script.proofs.escapes.first_piece.Goals as goal

pub returns-then-byte-eq92 : goal.returns-then-byte-eq92
returns-then-byte-eq92 c =
    let is : c.args.text.now ≡ 92 ∷ c.in_ok-byte.rest.now = c.in_ok-byte.ensures.cases.0 ∙ ap (λ b. b ∷ c.in_ok-byte.rest.now) c.if-byte-eq92.true in
    subst (λ (t : List ℕ). MatchOption c.escape_piece.result ((byte : ℕ) (rest : List ℕ) → ¬ (BeginsWithPiece t byte rest)) (λ piece. BeginsWithPiece t piece.0 piece.1.now)) (sym is) c.escape_piece.ensures

pub returns-then-is_printable : goal.returns-then-is_printable
returns-then-is_printable c =
    plain_front c.args.text.now c.in_ok-byte.byte.now c.in_ok-byte.rest.now c.in_ok-byte.ensures.cases.0 (sym c.is_printable.ensures ∙ c.if-is_printable.true) c.if-byte-eq92.false
