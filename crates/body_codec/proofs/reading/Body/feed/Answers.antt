use Rattle.std.proofs.Common.{◌≡◌, List, ℕ, ◌-◌, drop, take, length, subst, sym, ◌∙◌, arith, length-drop}
use Rattle.std.proofs.lemmas.List.{take_all}
use Rattle.body_codec.specs.Feeding.{FramedTo, ContentTo, Fails}
use Rattle.body_codec.specs.declared.phases.Phase.TheVariants.{Bad}
use Rattle.body_codec.proofs.Runs.{takes}
use Rattle.body_codec.proofs.Continuations.{takes_of_body, fails_body, stays_bad}
use Rattle.body_codec.proofs.reading.Body.feed.Goals as goal

pub returns-in-Ok-clause-fed : goal.returns-in-Ok-clause-fed
returns-in-Ok-clause-fed c =
    let piece : List ℕ = c.args.piece.now in
    let at : ℕ = c.in-Ok.reached.at in
    let framed : FramedTo c.args.self.now piece at c.in-Ok.reached.phase =
    subst (λ q. FramedTo q piece at c.in-Ok.reached.phase) c.self.view_is c.in-Ok.ensures in
    let all : take (length piece - at) (drop at piece) ≡ drop at piece = take_all _ _ (omega (arith, length-drop at piece)) in
    let taken : ContentTo c.in-Ok.reached.phase (drop at piece) c.take_content-taken.result.at c.take_content-taken.result.phase =
    subst (λ rest. ContentTo c.in-Ok.reached.phase rest c.take_content-taken.result.at c.take_content-taken.result.phase) all c.take_content-taken.ensures in
    takes c.args.self.now piece at c.take_content-taken.result.at c.in-Ok.reached.phase c.take_content-taken.result.phase _ framed taken c.is_done.ensures

pub returns-in-Ok-clause-grammar : goal.returns-in-Ok-clause-grammar
returns-in-Ok-clause-grammar c = λ framing seen before.
    takes_of_body framing seen c.args.piece.now c.args.self.now c.take_content-taken.result.phase _ _ _ _ before (returns-in-Ok-clause-fed c)

pub returns-in-Err-clause-fed : goal.returns-in-Err-clause-fed
returns-in-Err-clause-fed c = subst (λ q. Fails q c.args.piece.now c.in-Err.at Bad) c.self.view_is c.in-Err.ensures

pub returns-in-Err-clause-grammar : goal.returns-in-Err-clause-grammar
returns-in-Err-clause-grammar c = λ framing seen before.
    fails_body framing seen c.args.piece.now c.args.self.now Bad c.in-Err.at before (returns-in-Err-clause-fed c)

pub returns-in-Bad-clause-grammar : goal.returns-in-Bad-clause-grammar
returns-in-Bad-clause-grammar c = λ framing seen before.
    fails_body framing seen c.args.piece.now c.args.self.now c.args.self.now 0 before (stays_bad c.args.self.now c.args.piece.now (sym c.self.view_is ∙ c.in-Bad.is))
