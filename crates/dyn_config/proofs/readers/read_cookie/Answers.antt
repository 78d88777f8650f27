use Rattle.std.proofs.Common.{◌∙◌, w64}
use Rattle.std.proofs.lemmas.Int.{to_z-of_z}
use Rattle.dyn_config.proofs.Fields.{cookie_made}
use Rattle.dyn_config.proofs.readers.read_cookie.Goals as goal

pub returns : goal.returns
returns c =
    cookie_made c.args.style c.args.tree.now c.in_ok-name.name c.in_ok-same_site.same_site c.in_ok-path.path c.in_ok-domain.domain c.flag_under-secure.result c.flag_under-http_only.result _
    c.in_ok-name.ensures c.flag_under-secure.ensures c.flag_under-http_only.ensures c.in_ok-same_site.ensures (to_z-of_z w64 c.number_under-max_age.result (record { sfits = c.number_under-max_age.type_inv }) ∙ c.number_under-max_age.ensures) c.in_ok-path.ensures c.in_ok-domain.ensures
