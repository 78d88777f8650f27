use Rattle.std.proofs.Common.{ap, Err}
use Rattle.head_view.proofs.LineFeeds.{line_feeds-exceeds}
use Rattle.head_view.proofs.scan.scan_request.Goals as goal

pub returns-in-Err-TooManyHeaders-clause-too_many :
    goal.returns-in-Err-TooManyHeaders-clause-too_many
returns-in-Err-TooManyHeaders-clause-too_many c =
    let e = c.in-Err-TooManyHeaders in
    (λ x. e.ensures.found x.0 x.1 x.2 x.3, line_feeds-exceeds _ _ (e.ensures.too_many (ap Err e.field-0-is)))
