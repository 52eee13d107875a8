-- The moment that a civil text means by the clock of a place, computed.
use Rattle.std.specs.Prelude.{ℕ, ◌+◌, ◌-◌, ◌*◌, ◌&&◌, Bool, List, get_or, Option, Some, None, if◌then◌else◌, nat_le}
use Rattle.std.specs.Prelude.{bytes_eq, ℤ, pos, unsigned_abs}
use Rattle.jiff_core.specs.Calendar.{days_in_month}
use Rattle.jiff_core.specs.declared.civil.datetime.DateTime.{DateTime}
use Rattle.cpi_codes.specs.Civil.{civil_text}
use Rattle.cpi_codes.specs.Zone.{ZoneRule, second_in}
use Rattle.cpi_codes.specs.Following.{◌>>=◌}
use Rattle.cpi_codes.specs.Ranges.{below, within}
use Rattle.cpi_codes.specs.CivilParts.{is_year, is_full_minute, is_full_second}

-- the time of the calendar at a full minute, if the calendar has it in a year of at most four digits
unfoldable pub time_at : ℕ → ℕ → ℕ → ℕ → ℕ → Option DateTime
time_at year month day hour minute = do
  four_digits ← below 10000 year
  in_year ← within 1 12 month
  in_month ← within 1 (days_in_month (pos year) month) day
  in_day ← below 24 hour
  in_hour ← below 60 minute
  Some (record {
    date = record {
      year = pos year;
      month = month;
      day = day;
      year_in = is_year year four_digits;
      month_in =
          in_year;
      day_in = in_month;
    };
    time = record {
      hour = hour;
      minute = minute;
      second = 0;
      subsec_nanosecond = 0;
      hour_in = in_day;
      minute_in =
          in_hour;
      second_in = is_full_minute;
      subsec_in = is_full_second;
    };
  })

-- the number that two digits write, from a place on
abbrev pub number_of_two_digits : List ℕ → ℕ → ℕ
number_of_two_digits text at = (get_or text at 0 - 48) * 10 + (get_or text (at + 1) 0 - 48)

-- the time that a text YYYY-MM-DDTHH:MM writes: that of the numbers at their places, if the text is how they are
-- written
unfoldable pub civil_of : List ℕ → Option DateTime
civil_of text =
    let year = number_of_two_digits text 0 * 100 + number_of_two_digits text 2 in
    let month = number_of_two_digits text 5 in
    let day = number_of_two_digits text 8 in
    let hour = number_of_two_digits text 11 in
    let minute = number_of_two_digits text 14 in
    if bytes_eq text (civil_text year month day hour minute) then time_at year month day hour minute else None

-- a year that the office knows
abbrev pub is_office_year : ℤ → Bool
is_office_year year = nat_le 2000 (unsigned_abs year) && nat_le (unsigned_abs year) 2199

-- the second since 1970 UTC at which a clock by the rule shows the time of the text, if the text writes one in a year
-- that
-- the office knows
unfoldable pub moment_in : ZoneRule → List ℕ → Option ℕ
moment_in zone text = civil_of text >>= λ time. if is_office_year time.date.year then Some
    (unsigned_abs (second_in zone time)) else None
