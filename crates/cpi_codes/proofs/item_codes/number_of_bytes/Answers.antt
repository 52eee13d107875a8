use Rattle.std.proofs.Common.{arith}
use Rattle.cpi_codes.proofs.Bytes.{bytes_number_more, power_more, power_le}
use Rattle.cpi_codes.proofs.item_codes.number_of_bytes.Goals as goal

pub overflow_mul-value : goal.overflow_mul-value
overflow_mul-value c =
    let below = power_more c.loop-place.place c.loop-place.value 0 c.loop-place.invariant.1 (omega arith) in
    let most = power_le c.loop-place.place c.loop-place-test.true in
    omega arith

pub overflow_add-value : goal.overflow_add-value
overflow_add-value c =
    let below = power_more c.loop-place.place c.loop-place.value c.from.result c.loop-place.invariant.1 (omega arith) in
    let most = power_le c.loop-place.place c.loop-place-test.true in
    omega arith

pub loop-place-preserved : goal.loop-place-preserved
loop-place-preserved c =
    let below = power_more c.loop-place.place c.loop-place.value c.from.result c.loop-place.invariant.1 (omega arith) in
    let more = bytes_number_more c.args.text.now c.loop-place.place c.requires c.loop-place-test.true in
    (omega arith, below, omega arith)
