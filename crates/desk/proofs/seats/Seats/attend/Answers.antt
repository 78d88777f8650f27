use Rattle.std.proofs.Common.{rules, ℕ, ◌==◌, List, ◌∷◌, [], ◌++◌, sym, ap, ◌∙◌}
use Rattle.std.specs.List.{list_any}
use Rattle.desk.proofs.Keeps.{seat_new, seat_new_others}
use Rattle.desk.proofs.seats.Seats.attend.Goals as goal

pub returns-then-not-contains-clause-seat : goal.returns-then-not-contains-clause-seat
returns-then-not-contains-clause-seat c = seat_new c.args.self.now.numbers.items c.push_reserved.new.self.items c.args.self.now.told.items c.begin.new.self.told.items c.args.number
    (ap (λ (xs : List ℕ). list_any (λ k. k == c.args.number) xs) (sym (c.as_slice.ensures.value ∙ c.reserve.ensures.items)) ∙ sym c.contains.ensures.value ∙ (search rules))
    (c.push_reserved.ensures.items ∙ ap (λ (xs : List ℕ). xs ++ c.args.number ∷ []) (ap (λ v. v.items) c.begin.ensures.numbers ∙ c.reserve.ensures.items))
    c.begin.ensures.told

pub returns-then-not-contains-clause-others : goal.returns-then-not-contains-clause-others
returns-then-not-contains-clause-others c = seat_new_others c.args.self.now.numbers.items c.push_reserved.new.self.items c.args.self.now.told.items c.begin.new.self.told.items c.args.number
    (c.push_reserved.ensures.items ∙ ap (λ (xs : List ℕ). xs ++ c.args.number ∷ []) (ap (λ v. v.items) c.begin.ensures.numbers ∙ c.reserve.ensures.items))
    c.begin.ensures.told
