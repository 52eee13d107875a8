-- A civil time of the years that the office knows is a moment, by every clock.
use Rattle.std.proofs.Common.{◌≡◌, ℕ, List, pos, ◌≤ℤ◌, refl, arith}
use Rattle.jiff.proofs.SpanFacts.{signed_arith}
use Rattle.jiff.specs.Words.{ambiguous_at, civil_seconds, compatible_offset}
use Rattle.jiff_core.specs.Calendar.{IsCivilDate, day_count}
use Rattle.jiff_core.specs.Date.{epoch_day}
use Rattle.jiff_core.specs.declared.civil.date.Date.{Date}
use Rattle.jiff_core.specs.declared.civil.datetime.DateTime.{DateTime}
use Rattle.jiff_core.proofs.CalendarLemmas.{day_count-day_of_year, day_count-epoch, day_count-later_year}
use Rattle.jiff_core.proofs.CalendarLemmas.{day_count-lt_year, days_from_civil-day_count, days_in_year_bounds}
use Rattle.jiff_core.proofs.MarchLemmas.{day_count-early}
use Rattle.cpi_codes.specs.Civil.{IsCivilText}
use Rattle.cpi_codes.specs.Zone.{IsOfficeYear, ZoneRule, second_in}

day_count_end : day_count (pos 2200) 1 1 ≡ 4_455_959
day_count_end = day_count-early (pos 2200) 12199 1 1 refl (omega arith) (omega arith) (omega arith)

-- the days from 2000 to 2199 lie between the second of 1970 and 2200
days : (date : Date) (year : ℕ) → date.year ≡ pos year → IsOfficeYear year → (pos 2 ≤ℤ epoch_day date)
    × (epoch_day date ≤ℤ pos 84_005)
days date year is office =
    let civil : IsCivilDate date.year date.month date.day = (date.year_in, date.month_in, date.day_in) in
    let low = day_count-later_year (pos 1970) date.year (omega (arith, signed_arith)) (omega (arith, signed_arith)) in
    let length = days_in_year_bounds (pos 1970) in
    let day = day_count-day_of_year date.year date.month date.day date.day_in.0 in
    let high = day_count-lt_year date.year date.month date.day (pos 2200) 1 1 civil (omega arith)
    (omega (arith, signed_arith)) in
    let number = days_from_civil-day_count date.year date.month date.day in
    (omega (arith, signed_arith, day_count-epoch), omega (arith, signed_arith, day_count_end))

pub is_moment : (zone : ZoneRule) (text : List ℕ) (year : ℕ) (time : DateTime) → IsCivilText text year time →
    IsOfficeYear year → (pos 0 ≤ℤ second_in zone time) × (second_in zone time ≤ℤ pos 9_999_999_999)
unfolding civil_seconds
is_moment zone text year time is office =
    let day = days time.date year is.year_is office in
    let offset = (compatible_offset (ambiguous_at zone time)).in_range in
    let hour = time.time.hour_in in
    let minute = time.time.minute_in in
    let second = time.time.second_in in
    (omega (arith, signed_arith), omega (arith, signed_arith))
