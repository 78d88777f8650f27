use Rattle.std.proofs.Common.{refl, ◌∙◌}
use Rattle.rule_lang.specs.Trees.{tree_of}
use Rattle.rule_eval.specs.Calls.{calls_of}
use Rattle.rule_eval.proofs.Firsts.{err_same, on_ok, calls_and, calls_or, tells_left, tells_right, sound_both, number_both}
use Rattle.rule_eval.proofs.compiling.+compile_part.Goals as goal

pub returns-in_err-left-in-And-clause-fault : goal.returns-in_err-left-in-And-clause-fault
returns-in_err-left-in-And-clause-fault g t c =
    let l = calls_of (tree_of c.get-in-And.result.now) in
    let r = calls_of (tree_of c.in-And.right) in
    let all = calls_and c.args.rule.now c.in-And.left c.in-And.right c.get-in-And.result.now c.in-And.right c.in-And.is c.get-in-And.ensures refl in
    err_same _ c.from_residual-in_err-left-in-And.result c.in_err-left-in-And.field-0.0 c.from_residual-in_err-left-in-And.ensures.1
    (λ left sound here. tells_left _ left l r _ _ c.in_err-left-in-And.field-0.0 all (c.in_err-left-in-And.ensures.fault left sound here))

pub returns-in_err-right-in-And-clause-fault : goal.returns-in_err-right-in-And-clause-fault
returns-in_err-right-in-And-clause-fault g t c =
    let l = calls_of (tree_of c.get-in-And.result.now) in
    let r = calls_of (tree_of c.get-in-And-2.result.now) in
    let all = calls_and c.args.rule.now c.in-And.left c.in-And.right c.get-in-And.result.now c.get-in-And-2.result.now c.in-And.is c.get-in-And.ensures c.get-in-And-2.ensures in
    let done = c.in_ok-left-in-And.ensures in
    err_same _ c.from_residual-in_err-right-in-And.result c.in_err-right-in-And.field-0.0 c.from_residual-in_err-right-in-And.ensures.1
    (λ left sound here. tells_right _ left l r _ _ _ _ _ c.in_err-right-in-And.field-0.0 all sound done.sound here done.next done.still c.in_err-right-in-And.ensures.fault)

pub returns-in_ok-right-in-And-clause-sound : goal.returns-in_ok-right-in-And-clause-sound
returns-in_ok-right-in-And-clause-sound g t c =
    let l = calls_of (tree_of c.get-in-And.result.now) in
    let r = calls_of (tree_of c.get-in-And-2.result.now) in
    let all = calls_and c.args.rule.now c.in-And.left c.in-And.right c.get-in-And.result.now c.get-in-And-2.result.now c.in-And.is c.get-in-And.ensures c.get-in-And-2.ensures in
    on_ok _ _ (sound_both _ l r all c.in_ok-left-in-And.ensures.sound c.in_ok-right-in-And.ensures.sound)

pub returns-in_ok-right-in-And-clause-next : goal.returns-in_ok-right-in-And-clause-next
returns-in_ok-right-in-And-clause-next g t c =
    let l = calls_of (tree_of c.get-in-And.result.now) in
    let r = calls_of (tree_of c.get-in-And-2.result.now) in
    let all = calls_and c.args.rule.now c.in-And.left c.in-And.right c.get-in-And.result.now c.get-in-And-2.result.now c.in-And.is c.get-in-And.ensures c.get-in-And-2.ensures in
    on_ok _ _ (number_both _ l r _ _ _ all c.in_ok-left-in-And.ensures.next c.in_ok-right-in-And.ensures.next)

pub returns-in_err-left-in-Or-clause-fault : goal.returns-in_err-left-in-Or-clause-fault
returns-in_err-left-in-Or-clause-fault g t c =
    let l = calls_of (tree_of c.get-in-Or.result.now) in
    let r = calls_of (tree_of c.in-Or.right) in
    let all = calls_or c.args.rule.now c.in-Or.left c.in-Or.right c.get-in-Or.result.now c.in-Or.right c.in-Or.is c.get-in-Or.ensures refl in
    err_same _ c.from_residual-in_err-left-in-Or.result c.in_err-left-in-Or.field-0.0 c.from_residual-in_err-left-in-Or.ensures.1
    (λ left sound here. tells_left _ left l r _ _ c.in_err-left-in-Or.field-0.0 all (c.in_err-left-in-Or.ensures.fault left sound here))

pub returns-in_err-right-in-Or-clause-fault : goal.returns-in_err-right-in-Or-clause-fault
returns-in_err-right-in-Or-clause-fault g t c =
    let l = calls_of (tree_of c.get-in-Or.result.now) in
    let r = calls_of (tree_of c.get-in-Or-2.result.now) in
    let all = calls_or c.args.rule.now c.in-Or.left c.in-Or.right c.get-in-Or.result.now c.get-in-Or-2.result.now c.in-Or.is c.get-in-Or.ensures c.get-in-Or-2.ensures in
    let done = c.in_ok-left-in-Or.ensures in
    err_same _ c.from_residual-in_err-right-in-Or.result c.in_err-right-in-Or.field-0.0 c.from_residual-in_err-right-in-Or.ensures.1
    (λ left sound here. tells_right _ left l r _ _ _ _ _ c.in_err-right-in-Or.field-0.0 all sound done.sound here done.next done.still c.in_err-right-in-Or.ensures.fault)

pub returns-in_ok-right-in-Or-clause-sound : goal.returns-in_ok-right-in-Or-clause-sound
returns-in_ok-right-in-Or-clause-sound g t c =
    let l = calls_of (tree_of c.get-in-Or.result.now) in
    let r = calls_of (tree_of c.get-in-Or-2.result.now) in
    let all = calls_or c.args.rule.now c.in-Or.left c.in-Or.right c.get-in-Or.result.now c.get-in-Or-2.result.now c.in-Or.is c.get-in-Or.ensures c.get-in-Or-2.ensures in
    on_ok _ _ (sound_both _ l r all c.in_ok-left-in-Or.ensures.sound c.in_ok-right-in-Or.ensures.sound)

pub returns-in_ok-right-in-Or-clause-next : goal.returns-in_ok-right-in-Or-clause-next
returns-in_ok-right-in-Or-clause-next g t c =
    let l = calls_of (tree_of c.get-in-Or.result.now) in
    let r = calls_of (tree_of c.get-in-Or-2.result.now) in
    let all = calls_or c.args.rule.now c.in-Or.left c.in-Or.right c.get-in-Or.result.now c.get-in-Or-2.result.now c.in-Or.is c.get-in-Or.ensures c.get-in-Or-2.ensures in
    on_ok _ _ (number_both _ l r _ _ _ all c.in_ok-left-in-Or.ensures.next c.in_ok-right-in-Or.ensures.next)

pub returns-in_ok-right-in-And-clause-still : goal.returns-in_ok-right-in-And-clause-still
returns-in_ok-right-in-And-clause-still g t c = on_ok _ _ (c.in_ok-right-in-And.ensures.still ∙ c.in_ok-left-in-And.ensures.still)

pub returns-in_ok-right-in-Or-clause-still : goal.returns-in_ok-right-in-Or-clause-still
returns-in_ok-right-in-Or-clause-still g t c = on_ok _ _ (c.in_ok-right-in-Or.ensures.still ∙ c.in_ok-left-in-Or.ensures.still)
