use Rattle.std.proofs.Common.{refl, sym, ap, subst, eqb-true, arith, ◌+◌, length, length-drop}
use Rattle.rule_lang.specs.declared.token.Token.{Token}
use Rattle.rule_lang.specs.Tokens.{Lexes}
use Rattle.rule_lang.proofs.Lexing.{tokens_end, lexes_next, lexes_fail}
use Rattle.rule_lang.proofs.lex.read_tokens.Goals as goal

pub returns-then-is_empty-clause-tokens : goal.returns-then-is_empty-clause-tokens
returns-then-is_empty-clause-tokens c =
    tokens_end c.args.text.now c.tokens.tokens.items c.tokens.at c.tokens.rest.now c.from_place-front.result.now c.blanks-skipped.result c.tokens.invariant.lexes
    c.blanks-skipped.ensures.within c.blanks-skipped.ensures.before c.from_place-front.ensures (eqb-true _ _ (sym c.if-is_empty.ensures))

pub tokens-preserved : goal.tokens-preserved
tokens-preserved c =
    let t : Token = record { kind = c.in-Token.kind; start = c.tokens.at + c.blanks-skipped.result; end = c.tokens.at + c.blanks-skipped.result + c.in-Token.len } in
    let next = lexes_next c.args.text.now c.tokens.tokens.items c.tokens.at c.tokens.rest.now c.from_place-front.result.now c.from_place-rest.result.now c.blanks-skipped.result c.in-Token.len t
    c.tokens.invariant.lexes c.blanks-skipped.ensures.within c.blanks-skipped.ensures.before c.from_place-front.ensures c.in-Token.ensures.finds c.from_place-rest.ensures refl refl in
    let front_len = ap length c.from_place-front.ensures in
    let next_len = ap length c.from_place-rest.ensures in
    let within = c.blanks-skipped.ensures.within in
    let inner = c.in-Token.ensures.within in
    record {
      lexes = subst (λ l. Lexes 0 c.args.text.now l t.end c.from_place-rest.result.now) (sym c.in_default.ensures.items) next;
      len = omega (arith, length-drop c.blanks-skipped.result c.tokens.rest.now, length-drop c.in-Token.len c.from_place-front.result.now, c.tokens.invariant.len, inner.1);
    }

pub returns-in-Fault-clause-fault : goal.returns-in-Fault-clause-fault
returns-in-Fault-clause-fault c =
    lexes_fail c.args.text.now c.tokens.tokens.items c.tokens.at c.tokens.rest.now c.from_place-front.result.now c.blanks-skipped.result c.in-Fault.inner c.tokens.invariant.lexes
    c.blanks-skipped.ensures.within c.blanks-skipped.ensures.before c.from_place-front.ensures c.in-Fault.ensures.finds
