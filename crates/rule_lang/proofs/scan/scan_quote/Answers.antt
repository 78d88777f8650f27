use Rattle.std.proofs.Common.{subst, sym, Option, ℕ, length, get_or, ◌+◌}
use Rattle.rule_lang.proofs.Lexing.{pair_split, one_split, not_empty}
use Rattle.rule_lang.proofs.Quotes.{Scanned, scanned_pair, scanned_character}
use Rattle.rule_lang.proofs.scan.scan_quote.Goals as goal

pub loop-rest-preserved-then-byte-eq92 : goal.loop-rest-preserved-then-byte-eq92
loop-rest-preserved-then-byte-eq92 c =
    let P : Option ℕ → Type 0 = λ bad. Scanned c.args.body.now c.from_place-rest.result.now (c.loop-rest.at + 2) bad in
    subst P (sym c.bad_so_far-bad.ensures)
    (scanned_pair c.args.body.now c.loop-rest.rest.now _ c.loop-rest.at (get_or c.loop-rest.rest.now 1 0) c.loop-rest.bad c.loop-rest.invariant
    (pair_split c.loop-rest.rest.now _ c.if-rest-lt2.false c.if-byte-eq92.true c.from_place-rest.ensures))

pub loop-rest-preserved : goal.loop-rest-preserved
loop-rest-preserved c =
    let some = not_empty (length c.loop-rest.rest.now) (sym c.loop-rest-test.ensures) in
    scanned_character c.args.body.now c.loop-rest.rest.now _ c.loop-rest.at (get_or c.loop-rest.rest.now 0 0) c.loop-rest.bad c.loop-rest.invariant
    c.if-byte-eq34.false c.if-byte-eq92.false (one_split c.loop-rest.rest.now _ some c.from_place-rest-else-byte-eq92.ensures)
