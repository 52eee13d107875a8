-- The greatest receipt after a quote with a new one is put.
use Rattle.std.proofs.Common.{◌≡◌, ◌<◌, ◌≤◌, Bool, true, false, List, [], ◌∷◌, ◌++◌, max, refl, arith}
use Rattle.std.specs.Prelude.{filter}
use Rattle.std.specs.Ordering.{is_lt, is_gt}
use Rattle.cpi_rows.specs.Keyed.{with_row}
use Rattle.cpi_survey.specs.Quote.{QuoteRow}
use Rattle.cpi_survey.specs.Quote.{greatest_receipt, quote_cmp, quote_key}

greatest_append : (xs ys : List QuoteRow) → greatest_receipt (xs ++ ys) ≡ max (greatest_receipt xs)
    (greatest_receipt ys)
greatest_append [] ys = omega arith
greatest_append (x ∷ xs) ys = rw (greatest_append xs ys) (omega arith)

greatest_filter : (p : QuoteRow → Bool) (xs : List QuoteRow) → greatest_receipt (filter p xs) ≤ greatest_receipt xs
greatest_filter p [] = omega arith
greatest_filter p (x ∷ xs) = cases (p x) refl (greatest_filter p xs)
  where
    cases : (t : Bool) → p x ≡ t → greatest_receipt (filter p xs) ≤ greatest_receipt xs →
        greatest_receipt (filter p (x ∷ xs)) ≤ greatest_receipt (x ∷ xs)
    cases true e rest = rw e (omega arith)
    cases false e rest = rw e (omega arith)

pub greatest_put : (q : QuoteRow) (qs : List QuoteRow) → greatest_receipt qs < q.receipt →
    q.receipt ≡ greatest_receipt (with_row quote_cmp quote_key q qs)
greatest_put q qs new =
    let front = filter (λ r. is_lt (quote_cmp (quote_key r) (quote_key q))) qs in
    let back = filter (λ r. is_gt (quote_cmp (quote_key r) (quote_key q))) qs in
    let joined = greatest_append front (q ∷ back) in
    let low = greatest_filter (λ r. is_lt (quote_cmp (quote_key r) (quote_key q))) qs in
    let high = greatest_filter (λ r. is_gt (quote_cmp (quote_key r) (quote_key q))) qs in
    rw joined (omega arith)
