use Rattle.std.proofs.Common.{rules}
use Rattle.rule_eval.specs.Patterns.{IsBuiltFrom}
use Rattle.rule_eval.proofs.Reading.{readable_of_built, readable_of_pattern, unreadable}
use Rattle.rule_eval.proofs.building.build.Goals as goal

pub returns-in-Ok-clause-read : goal.returns-in-Ok-clause-read
returns-in-Ok-clause-read c =
    let b : IsBuiltFrom c.args.text.now c.in-Ok.regex = search rules in
    readable_of_built c.args.text.now c.in-Ok.regex b

pub returns-in-Err-Syntax-clause-syntax : goal.returns-in-Err-Syntax-clause-syntax
returns-in-Err-Syntax-clause-syntax c =
    let e = c.in-Err-Syntax in
    let grammar = rw (c.size_limit.ensures, c.new.ensures.config, c.new.ensures.source) at e.ensures.by_grammar in
    let kind = rw e.field-0-is at e.ensures.kind in
    λ _ r. unreadable c.args.text.now e.field-0-0.kind kind (grammar e.field-0-0 e.field-0-is) r

pub returns-in-Err-CompiledTooBig-clause-too_big : goal.returns-in-Err-CompiledTooBig-clause-too_big
returns-in-Err-CompiledTooBig-clause-too_big c =
    let e = c.in-Err-CompiledTooBig in
    let read = rw (e.field-0-is, c.size_limit.ensures, c.new.ensures.config, c.new.ensures.source) at e.ensures.kind in
    λ _. readable_of_pattern c.args.text.now read

pub returns-in-Err-Internal-clause-too_big : goal.returns-in-Err-Internal-clause-too_big
returns-in-Err-Internal-clause-too_big c =
    let e = c.in-Err-Internal in
    let read = rw (e.field-0-is, c.size_limit.ensures, c.new.ensures.config, c.new.ensures.source) at e.ensures.kind in
    λ _. readable_of_pattern c.args.text.now read
