use Rattle.std.proofs.Common.{◌-◌, ◌%◌, arith, refl, length-set, ◌∙◌}
use Rattle.std.proofs.lemmas.Grind.{same_number_lists}
use Rattle.cpi_codes.specs.ItemCode.{with_zero_bytes}
use Rattle.cpi_codes.proofs.Bytes.{text_of_code, text_parts, length_filled, whole_number, last_byte, set_at}
use Rattle.cpi_codes.proofs.item_codes.bytes_of.Goals as goal

pub loop-place-init : goal.loop-place-init
loop-place-init c = (
  refl,
  omega arith,
  λ text h. whole_number text c.args.value h,
  λ text h k low high. absurd (omega arith),
)

pub loop-place-preserved : goal.loop-place-preserved
loop-place-preserved c =
    let place = c.loop-place.place in
    let before = c.loop-place.invariant in (
      length-set c.loop-place.bytes (place - 1) (c.loop-place.rest % 256) ∙ before.0,
      omega arith,
      λ text h. (last_byte text place c.loop-place.rest (text_of_code text c.args.value h).0 (omega arith) before.1
          (before.2 text h)).0,
      λ text h k low high.
          let last = last_byte text place c.loop-place.rest (text_of_code text c.args.value h).0
          (omega arith) before.1 (before.2 text h) in
          set_at c.loop-place.bytes (with_zero_bytes text) (place - 1) k (c.loop-place.rest % 256) before.0
          (omega arith) last.1 (λ j after here. before.3 text h j (omega arith) here) low high,
    )

pub returns : goal.returns
returns c = λ text h.
    let len = length_filled text (text_parts text (text_of_code text c.args.value h).0).1 in
    same_number_lists c.loop-place.bytes (with_zero_bytes text) (omega arith)
    (λ k here. c.loop-place.invariant.3 text h k (omega arith) (omega arith))
