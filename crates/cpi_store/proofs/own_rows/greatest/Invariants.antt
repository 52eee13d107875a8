use Rattle.std.proofs.Common.{◌≡◌, drop}
use Rattle.std.specs.Prelude.{max}
use Rattle.cpi_survey.specs.Quote.{greatest_receipt}
use Rattle.cpi_store.proofs.own_rows.greatest.Given as goal

abbrev pub invariant-all : goal.invariant-all
invariant-all l = max l.most (greatest_receipt (drop l.quote-index l.quotes)) ≡ greatest_receipt l.quotes
