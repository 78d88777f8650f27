use Rattle.std.proofs.Common.{◌<◌, ◌∙◌, arith}
use Rattle.body_codec.proofs.Spelling.{size_failed, digit_failed, size_whole}
use Rattle.body_codec.proofs.writing.+write_size.Goals as goal

pub returns-in_err-write_size-clause-err : goal.returns-in_err-write_size-clause-err
returns-in_err-write_size-clause-err t c =
    let some : 0 < c.args.size = omega (arith, c.if-size-eq0.false) in
    size_failed _ c.args.out.now.items c.write_size.new.out.items c.args.size some c.in_err-write_size.ensures.err

pub returns-in_err-push-clause-err : goal.returns-in_err-push-clause-err
returns-in_err-push-clause-err t c =
    let some : 0 < c.args.size = omega (arith, c.if-size-eq0.false) in
    digit_failed _ c.args.out.now.items c.push.new.self.items c.args.size some (c.in_err-push.ensures.items ∙ c.in_ok-write_size.ensures.ok)

pub returns-clause-ok : goal.returns-clause-ok
returns-clause-ok t c =
    let some : 0 < c.args.size = omega (arith, c.if-size-eq0.false) in
    size_whole c.args.out.now.items c.write_size.new.out.items c.push.new.self.items c.args.size c.hex_digit.result some c.in_ok-write_size.ensures.ok c.hex_digit.ensures c.in_ok-push.ensures.items
