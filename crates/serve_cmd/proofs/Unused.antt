-- A desk at which nothing was done.
use Rattle.std.proofs.Common.{◌≡◌, ℕ, List, ap, ◌∙◌}
use Rattle.conversation.specs.Plans.{Plan}
use Rattle.desk.specs.Desks.{Desk}
use Rattle.serve_cmd.specs.Ready.{IsUnused}

-- it sees more configurations
pub unused_more : (old new : Desk) (generations : List Plan) → new ≡ record old { generations = generations } → IsUnused old → IsUnused new
unused_more old new generations same unused = record {
  pins = ap (λ (d : Desk). d.pins) same ∙ unused.pins;
  refused = ap (λ (d : Desk). d.refused) same ∙ unused.refused;
  seats = λ number. ap (λ (d : Desk). d.attended number) same ∙ unused.seats number;
}
