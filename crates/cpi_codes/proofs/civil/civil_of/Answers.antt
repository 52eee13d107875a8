use Rattle.std.proofs.Common.{◌≤◌, arith, rules, ℕ, ℤ}
use Rattle.std.proofs.lemmas.Bool.Decides.{nat_tests}
use Rattle.jiff_core.specs.Calendar.{days_in_month}
use Rattle.jiff_core.specs.declared.civil.datetime.DateTime.{DateTime}
use Rattle.cpi_codes.specs.Civil.{IsCivilText, IsWritable}
use Rattle.cpi_codes.proofs.civil.civil_of.Goals as goal

month_days : (y : ℤ) (m : ℕ) → days_in_month y m ≤ 31
month_days y m = grind (arith, nat_tests)

bounds : (text : _) (year : ℕ) (time : DateTime) → IsCivilText text year time →
    IsWritable year time.date.month time.date.day time.time.hour time.time.minute
bounds text year time is =
    let days = month_days time.date.year time.date.month in
    (is.four, omega (arith, time.date.month_in.1), omega (arith, time.date.day_in.1, days), search rules, search rules)

pub returns-in_err-fields-clause-none : goal.returns-in_err-fields-clause-none
returns-in_err-fields-clause-none c = rw c.from_residual.ensures
    (λ year time is. c.in_err-fields.ensures.none year time.date.month time.date.day time.time.hour time.time.minute
    (bounds _ year time is) is.spelled)
