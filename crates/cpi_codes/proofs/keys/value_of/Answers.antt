use Rattle.std.proofs.Common.{arith}
use Rattle.cpi_codes.specs.Key.{is_digit_of_key}
use Rattle.cpi_codes.proofs.Digits.{passes_at, key_more, power_more, power_le}
use Rattle.cpi_codes.proofs.keys.value_of.Goals as goal

pub digit_of-requires : goal.digit_of-requires
digit_of-requires c = passes_at is_digit_of_key c.args.digits.now c.loop-digit.digit-index c.loop-digit-test.true
    c.requires.digits

pub overflow_mul-value : goal.overflow_mul-value
overflow_mul-value c =
    let below = power_more c.loop-digit.digit-index c.loop-digit.value 0 c.loop-digit.invariant.1 (omega arith) in
    let most = power_le c.loop-digit.digit-index (omega arith) in
    omega arith

pub overflow_add-value : goal.overflow_add-value
overflow_add-value c =
    let below = power_more c.loop-digit.digit-index c.loop-digit.value c.from.result c.loop-digit.invariant.1
    (omega arith) in
    let most = power_le c.loop-digit.digit-index (omega arith) in
    omega arith

pub loop-digit-preserved : goal.loop-digit-preserved
loop-digit-preserved c =
    let below = power_more c.loop-digit.digit-index c.loop-digit.value c.from.result c.loop-digit.invariant.1
    (omega arith) in
    let more = key_more c.args.digits.now c.loop-digit.digit-index c.loop-digit-test.true in
    (omega arith, below)
