use Rattle.std.proofs.Common.{◌≡◌, ◌≤◌, length, take, sym, arith}
use Rattle.std.proofs.lemmas.List.{take_all, length-take-le}
use Rattle.conn_machine.proofs.conn.front.Goals as goal

pub returns-then-input-le16384-clause-front : goal.returns-then-input-le16384-clause-front
returns-then-input-le16384-clause-front c = sym (take_all 16384 c.args.input.now c.if-input-le16384.true)

pub slice_bounds-result-end : goal.slice_bounds-result-end
slice_bounds-result-end c = let h : 16384 ≤ length c.args.input.now = omega arith in sym (length-take-le 16384 c.args.input.now h)

pub returns-else-input-le16384-clause-short : goal.returns-else-input-le16384-clause-short
returns-else-input-le16384-clause-short c =
    let h : 16384 ≤ length c.args.input.now = omega arith in
    let e : length (take 16384 c.args.input.now) ≡ 16384 = length-take-le 16384 c.args.input.now h in
    omega (arith, e)
