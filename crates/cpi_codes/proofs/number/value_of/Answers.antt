use Rattle.std.proofs.Common.{◌+◌, arith}
use Rattle.std.proofs.lemmas.Str.Parse.{digits_value-take-le}
use Rattle.cpi_codes.proofs.Digits.{decimal_more}
use Rattle.cpi_codes.proofs.number.value_of.Goals as goal

pub returns-then-value-from : goal.returns-then-value-from
returns-then-value-from c =
    let i = c.loop-digit.digit-index in
    let more = decimal_more c.args.digits.now i c.loop-digit-test.true c.requires in
    let part = digits_value-take-le 10 c.args.digits.now (i + 1) (omega arith) in
    omega arith

pub loop-digit-preserved : goal.loop-digit-preserved
loop-digit-preserved c =
    let more = decimal_more c.args.digits.now c.loop-digit.digit-index c.loop-digit-test.true c.requires in
    (omega arith, omega arith)
