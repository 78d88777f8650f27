use Rattle.http_wire.specs.Spelling.{target_text}
use Rattle.middleware_stage.proofs.Urls.{cut_front}
use Rattle.middleware_stage.proofs.redirects.is_authority_and_target.Goals as goal

pub returns-in-Some : goal.returns-in-Some
returns-in-Some c =
    cut_front c.args.text.now c.args.request.now.host c.in-Some.rest.now (target_text c.args.request.now.path c.args.request.now.query) c.is_target.result
    (rw c.as_slice.ensures at c.in-Some.ensures) c.is_target.ensures
