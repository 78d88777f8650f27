use Rattle.std.proofs.Common.{◌≡◌, ◌+◌, ◌++◌, ◌∷◌, [], subst, sym, ap, ◌∙◌, take, get_or}
use Rattle.std.proofs.lemmas.List.{take_more, take_all}
use Rattle.std.proofs.Math.Seq.{split_at}
use Rattle.std.specs.List.{AllByRecursion}
use Rattle.rule_lang.specs.declared.token.TokenKind.TheVariants as kind
use Rattle.rule_lang.specs.Forms.{IsRule}
use Rattle.rule_lang.specs.Values.{Stands, call_tree, IsRightCall}
use Rattle.rule_lang.specs.Builds.{trees, whole_of, Build, build_steps, scan_steps, scan_start, form_tree}
use Rattle.rule_lang.specs.Builders.{build_of, TokensStand}
use Rattle.rule_lang.proofs.Expecting.{mark_of}
use Rattle.rule_lang.proofs.Building.{build_start, whole_built, whole_scanned}
use Rattle.rule_lang.proofs.Growing.{step_stands, step_nots, NotsWithin, steps_agree, start_agrees, Agree, one_more_right, first_fault, all_at, build_more, on_ok, finished}
use Rattle.rule_lang.proofs.build.build.Goals as goal

pub loop-token-preserved : goal.loop-token-preserved
loop-token-preserved c =
    let i = c.loop-token.token-index in
    let b = c.loop-token.builder in
    let e = c.in-Ok.next in
    let text = c.args.text.now in
    let front = take i c.args.tokens.now in
    let t = get_or c.args.tokens.now i (mark_of kind.Or) in
    let more : take (i + 1) c.args.tokens.now ≡ front ++ t ∷ [] = take_more c.args.tokens.now i (mark_of kind.Or) c.loop-token-test.true in
    let here : Stands text t = all_at (Stands text) c.args.tokens.now i (mark_of kind.Or) c.loop-token-test.true c.requires.stand in
    let next : build_of e ≡ Rattle.rule_lang.specs.Builds.build_step trees (call_tree text) (build_of b) t = c.in-Ok.ensures.next in
    let agree : Agree (build_steps trees (call_tree text) build_start front) (scan_steps scan_start front) = steps_agree trees (call_tree text) front build_start scan_start start_agrees in
    let name_is = sym agree.name ∙ ap (λ x. x.name) c.loop-token.invariant.built in
    let values_is = sym agree.values ∙ ap (λ x. x.values) c.loop-token.invariant.built in
    record {
      built = ap (λ l. build_steps trees (call_tree text) build_start l) more ∙ build_more trees (call_tree text) front t (build_of b) (build_of e) c.loop-token.invariant.built next;
      ready = subst (λ x. TokensStand text x.name x.values) (sym next) (step_stands trees (call_tree text) text (build_of b) t here c.loop-token.invariant.ready);
      nots = subst (λ x. NotsWithin (i + 1) x) (sym next) (step_nots trees (call_tree text) i (build_of b) t c.loop-token.invariant.nots);
      right = subst (λ l. AllByRecursion (IsRightCall text) (scan_steps scan_start l).calls) (sym more)
          (one_more_right text front t b.name b.values.items name_is values_is c.loop-token.invariant.right c.in-Ok.ensures.good);
    }

pub returns-in-Err-clause-fault : goal.returns-in-Err-clause-fault
returns-in-Err-clause-fault c = λ f rule.
    let i = c.loop-token.token-index in
    let b = c.loop-token.builder in
    let text = c.args.text.now in
    let front = take i c.args.tokens.now in
    let t = get_or c.args.tokens.now i (mark_of kind.Or) in
    let split = split_at c.args.tokens.now i (mark_of kind.Or) c.loop-token-test.true in
    let agree : Agree (build_steps trees (call_tree text) build_start front) (scan_steps scan_start front) = steps_agree trees (call_tree text) front build_start scan_start start_agrees in
    let name_is = sym agree.name ∙ ap (λ x. x.name) c.loop-token.invariant.built in
    let values_is = sym agree.values ∙ ap (λ x. x.values) c.loop-token.invariant.built in
    first_fault text front _ t b.name b.values.items c.in-Err.fault f name_is values_is c.loop-token.invariant.right (subst (λ l. IsRule l f) split rule) c.in-Err.ensures.fault

pub finish-requires : goal.finish-requires
finish-requires c =
    let (f, rule) = c.requires.rule in
    let text = c.args.text.now in
    let all = take_all c.loop-token.token-index c.args.tokens.now c.loop-token-test.false in
    let built = ap (λ l. build_steps trees (call_tree text) build_start l) (sym all) ∙ c.loop-token.invariant.built in
    (form_tree text f, sym (ap (λ b. whole_of trees b.layer.ors b.layer.ands) built) ∙ whole_built trees (call_tree text) c.args.tokens.now f rule)

pub returns-clause-tree : goal.returns-clause-tree
returns-clause-tree c =
    let text = c.args.text.now in
    let all = take_all c.loop-token.token-index c.args.tokens.now c.loop-token-test.false in
    let built = ap (λ l. build_steps trees (call_tree text) build_start l) (sym all) ∙ c.loop-token.invariant.built in
    finished text c.args.tokens.now _ c.finish.result
    (λ f rule. sym (ap (λ b. whole_of trees b.layer.ors b.layer.ands) built) ∙ whole_built trees (call_tree text) c.args.tokens.now f rule)
    c.finish.ensures.tree

pub returns-clause-right : goal.returns-clause-right
returns-clause-right c =
    let text = c.args.text.now in
    let all = take_all c.loop-token.token-index c.args.tokens.now c.loop-token-test.false in
    on_ok c.finish.result _ (λ f rule. subst (AllByRecursion (IsRightCall text)) (ap (λ l. (scan_steps scan_start l).calls) all ∙ whole_scanned c.args.tokens.now f rule) c.loop-token.invariant.right)
