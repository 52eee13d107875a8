use Rattle.std.proofs.Common.{◌≡◌, length}
use Rattle.std.specs.List.{AllByRecursion}
use Rattle.std.specs.declared.cmp.Ordering.TheVariants.{Less}
use Rattle.cpi_rows.specs.Keyed.{IsInOrder}
use Rattle.cpi_survey.specs.Quote.{quote_cmp, quote_key}
use Rattle.cpi_survey.specs.LastPrice.{latest_quote, is_earlier}
use Rattle.cpi_survey.proofs.last_price.observed_before.Given as goal

abbrev pub invariant-loop-quote : goal.invariant-loop-quote
invariant-loop-quote l = record {
  order : IsInOrder quote_cmp quote_key l.earlier;
  below : AllByRecursion (λ q. quote_cmp (quote_key q) (l.slot, l.fn.month) ≡ Less) l.earlier;
  latest : latest_quote (is_earlier l.slot l.fn.month) l.quotes ≡ latest_quote (is_earlier l.slot l.fn.month)
      l.earlier;
}

abbrev pub decreases-loop-quote : goal.decreases-loop-quote
decreases-loop-quote l = length l.earlier
