use Rattle.std.proofs.Common.{arith, ◌≡◌, ◌≤◌, ◌<◌, ◌+◌, ℕ, length, get_or, take, map, sym, ap}
use Rattle.std.proofs.Common.{◌∙◌, subst}
use Rattle.cpi_index.specs.Carried.{Carried}
use Rattle.cpi_index.specs.Series.{element_at, carried_serial, frozen_serial}
use Rattle.cpi_index.specs.Month.{row_of_base}
use Rattle.cpi_index.specs.Places.{AreBuckets}
use Rattle.cpi_index.specs.MonthGroups.{rows_in_samples}
use Rattle.cpi_index.proofs.Merge.{weaker}
use Rattle.cpi_index.proofs.Rising.{next_above, same_row}
use Rattle.cpi_index.proofs.InSamples.{one_more_base}
use Rattle.cpi_index.proofs.month_groups.rows_by_place.Goals as goal

pub loop-i-preserved : goal.loop-i-preserved
loop-i-preserved c =
    let i = c.loop-i.i in
    let bases = c.args.bases.now in
    let b = c.index-bases-i.result in
    let s = c.serial-serial.result in
    let inv = c.loop-i.invariant in
    let within : i < length bases = c.loop-i-test.true in
    let at_b : carried_serial (get_or bases i b) ≤ s = omega (arith, ap carried_serial c.index-bases-i.is) in
    let price : element_at carried_serial s c.skip_below-prices.result.now ≡ element_at carried_serial s
    c.args.before.now =
    c.skip_below-prices.ensures.found s (omega arith) ∙ inv.prices s b within at_b in
    let quote : element_at frozen_serial s c.skip_below-quotes.result.now ≡ element_at frozen_serial s
    c.args.frozen.now =
    c.skip_below-quotes.ensures.found s (omega arith) ∙ inv.quotes s b within at_b in
    let above : (n : ℕ) (d : Carried) → i + 1 < length bases →
    carried_serial (get_or bases (i + 1) d) ≤ n → s ≤ n =
    λ n d h le. omega (
      arith,
      next_above carried_serial bases 0 i b d c.requires.bases h,
      ap carried_serial c.index-bases-i.is,
    ) in
    let at_s : (n : ℕ) (d : Carried) → i + 1 < length bases →
    carried_serial (get_or bases (i + 1) d) ≤ n → carried_serial (get_or bases i b) ≤ n =
    λ n d h le. omega (arith, above n d h le) in
    let row : c.first_row-row.result ≡ row_of_base c.args.before.now c.args.frozen.now b =
    c.first_row-row.ensures ∙ same_row b c.skip_below-prices.result.now c.args.before.now
    c.skip_below-quotes.result.now c.args.frozen.now
    (ap (λ k. element_at carried_serial k c.skip_below-prices.result.now) (sym c.serial-serial.ensures.value) ∙ price
    ∙ ap (λ k. element_at carried_serial k c.args.before.now) c.serial-serial.ensures.value)
    (ap (λ k. element_at frozen_serial k c.skip_below-quotes.result.now) (sym c.serial-serial.ensures.value) ∙ quote
    ∙ ap (λ k. element_at frozen_serial k c.args.frozen.now) c.serial-serial.ensures.value) in
    record {
      samples = λ plan are.
          subst (λ rows. AreBuckets (length c.args.counts.now) rows c.push_row.new.groups.items)
          (one_more_base plan c.args.before.now c.args.frozen.now bases c.args.places.now i b
          c.first_row-row.result within are c.index-bases-i.is row)
          (c.in_ok-push_row.ensures (length c.args.counts.now)
          (rows_in_samples plan c.args.before.now c.args.frozen.now (take i bases)) (inv.samples plan are));
      prices = λ n d h le. c.skip_below-prices.ensures.found n (above n d h le)
          ∙ inv.prices n b within (at_s n d h le);
      quotes = λ n d h le. c.skip_below-quotes.ensures.found n (above n d h le)
          ∙ inv.quotes n b within (at_s n d h le);
      prices_rise = weaker 0 s (map carried_serial c.skip_below-prices.result.now)
          (omega arith) c.skip_below-prices.ensures.rises;
      quotes_rise = weaker 0 s (map frozen_serial c.skip_below-quotes.result.now)
          (omega arith) c.skip_below-quotes.ensures.rises;
    }
