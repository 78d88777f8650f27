use Rattle.middleware_stage.specs.Redirects.{query_text}
use Rattle.middleware_stage.proofs.Urls.{no_front, cut_front, same_text, target_is}
use Rattle.middleware_stage.proofs.redirects.is_target.Goals as goal

pub returns-in-None : goal.returns-in-None
returns-in-None c =
    let path = c.args.request.now.path in
    let query = c.args.request.now.query in
    same_text c.args.text.now _ _ _ (no_front c.args.text.now path (query_text query) (rw c.as_slice.ensures at c.in-None.ensures)) (target_is path query)

pub returns-in-Some : goal.returns-in-Some
returns-in-Some c =
    let path = c.args.request.now.path in
    let query = c.args.request.now.query in
    same_text c.args.text.now _ _ c.is_query.result
    (cut_front c.args.text.now path c.in-Some.rest.now (query_text query) c.is_query.result (rw c.as_slice.ensures at c.in-Some.ensures) c.is_query.ensures)
    (target_is path query)
