use Rattle.std.proofs.Common.{ap, ◌∙◌, List, ℕ, ◌==◌}
use Rattle.std.specs.Prelude.{not, filter}
use Rattle.desk.proofs.Keeps.{seat_gone, seat_gone_others}
use Rattle.desk.proofs.seats.Seats.retire.Goals as goal

pub returns-clause-gone : goal.returns-clause-gone
returns-clause-gone c = seat_gone c.args.self.now.numbers.items c.forget_number.new.numbers.items c.begin.new.self.told.items c.args.number
    (c.forget_number.ensures ∙ ap (filter (λ (k : ℕ). not (k == c.args.number))) (ap (λ v. v.items) c.begin.ensures.numbers))

pub returns-clause-others : goal.returns-clause-others
returns-clause-others c = seat_gone_others c.args.self.now.numbers.items c.forget_number.new.numbers.items c.args.self.now.told.items c.begin.new.self.told.items c.args.number
    (c.forget_number.ensures ∙ ap (filter (λ (k : ℕ). not (k == c.args.number))) (ap (λ v. v.items) c.begin.ensures.numbers)) c.begin.ensures.told
