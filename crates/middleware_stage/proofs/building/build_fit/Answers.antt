use Rattle.middleware_stage.specs.Views.{regex_text, replacement_text}
use Rattle.middleware_stage.proofs.Lawful.{path_fit, redirect_fit}
use Rattle.middleware_stage.proofs.building.build_fit.Goals as goal

pub returns-in-Rewrite-clause-built : goal.returns-in-Rewrite-clause-built
returns-in-Rewrite-clause-built g c =
    let w = rw c.in-Rewrite.is at c.in_ok-rewrite-in-ReplacePathRegex.ensures.built in
    path_fit c.args.def.now c.in-ReplacePathRegex.regex c.in-ReplacePathRegex.replacement (regex_text c.in-Rewrite.rewrite) (replacement_text c.in-Rewrite.rewrite)
    (g.S.PatternShop.refusals c.args.shop.now) (g.S.PatternShop.refusals c.build_rewrite.new.shop) c.built.result c.built.ensures c.in-ReplacePathRegex.is w.0 w.1 w.2 w.3

pub returns-in-Rewrite-2-clause-built : goal.returns-in-Rewrite-2-clause-built
returns-in-Rewrite-2-clause-built g c =
    let w = rw c.in-Rewrite-2.is at c.in_ok-rewrite-in-RedirectRegex.ensures.built in
    redirect_fit c.args.def.now c.in-RedirectRegex.regex c.in-RedirectRegex.replacement (regex_text c.in-Rewrite-2.rewrite) (replacement_text c.in-Rewrite-2.rewrite)
    c.in-RedirectRegex.permanent
    (g.S.PatternShop.refusals c.args.shop.now) (g.S.PatternShop.refusals c.build_rewrite-in-RedirectRegex.new.shop) c.built-in-Rewrite-2.result c.built-in-Rewrite-2.ensures c.in-RedirectRegex.is w.0 w.1 w.2 w.3
