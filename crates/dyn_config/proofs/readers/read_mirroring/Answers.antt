use Rattle.std.proofs.Common.{map, ap, ◌∙◌, List, Bor}
use Rattle.field_tree.specs.declared.tree.Tree.{Tree}
use Rattle.std.proofs.Common.{not, w64}
use Rattle.std.proofs.lemmas.Int.{to_z-of_z}
use Rattle.dyn_config.proofs.Fields.{mirroring_made}
use Rattle.dyn_config.proofs.readers.read_mirroring.Goals as goal

pub returns : goal.returns
returns c =
    let seen = λ (elements : List (Bor Tree)). map (λ (element : Bor Tree). element.now) elements in
    mirroring_made c.args.style c.args.tree.now (seen c.as_slice-found.result.now) c.in_ok-service.service c.in_ok-mirrors.mirrors c.in_ok-percents.percents _ _
    (ap seen c.as_slice-found.ensures.value ∙ c.in_ok-list.ensures) c.in_ok-service.ensures c.in_ok-mirrors.ensures c.in_ok-percents.ensures (to_z-of_z w64 c.number_under-max_body.result (record { sfits = c.number_under-max_body.type_inv }) ∙ c.number_under-max_body.ensures) (ap not c.flag_under-mirrors_bodies.ensures)
