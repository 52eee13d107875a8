-- Months of the years 2000 to 2199, as the number of months since 2000-01.
use Rattle.std.specs.Prelude.{ℕ, ◌+◌, ◌-◌, ◌*◌, ◌/◌, ◌%◌, Bool, ◌&&◌, ◌==◌, nat_le, if◌then◌else◌, List, ◌++◌, length}
use Rattle.std.specs.Prelude.{take, drop, slice_index, codes, Result, Ok, Err}
use Rattle.std.specs.List.{list_all}
use Rattle.std.specs.Char.{is_ascii_digit}
use Rattle.std.specs.Str.Parse.{digits_value}
use Rattle.std.specs.Fmt.{decimal}
use Rattle.cpi_codes.specs.declared.months.MonthFault.{MonthFault}
use Rattle.cpi_codes.specs.declared.months.MonthFault.TheVariants.{Shape, Range}

-- the year of a month
abbrev pub year_of : ℕ → ℕ
year_of month = 2000 + month / 12

-- which month of its year it is, January being 1
abbrev pub month_of_year : ℕ → ℕ
month_of_year month = 1 + month % 12

-- how many months a month of a year comes after 2000-01
abbrev pub months_since_2000 : ℕ → ℕ → ℕ
months_since_2000 year month = 12 * (year - 2000) + (month - 1)

abbrev pub is_in_calendar : ℕ → ℕ → Bool
is_in_calendar year month = nat_le 2000 year && nat_le year 2199 && nat_le 1 month && nat_le month 12

-- a month of a year, or that there is no such month
abbrev pub month_in : ℕ → ℕ → Result ℕ MonthFault
month_in year month = if is_in_calendar year month then Ok (months_since_2000 year month) else Err Range

-- four digits, a dash and two digits
abbrev pub has_month_shape : List ℕ → Bool
has_month_shape text = length text == 7 && list_all is_ascii_digit (take 4 text) && slice_index text 4 == 45
    && list_all is_ascii_digit (drop 5 text)

-- the month that a text writes: first its shape is looked at, and then the year and the month
abbrev pub month_of : List ℕ → Result ℕ MonthFault
month_of text = if has_month_shape text then month_in (digits_value 10 (take 4 text))
    (digits_value 10 (drop 5 text)) else Err Shape

-- a number below 100 in two digits
abbrev pub below_hundred : ℕ → List ℕ
below_hundred n = decimal (n / 10) ++ decimal (n % 10)

-- the one spelling of a month
abbrev pub month_text : ℕ → List ℕ
month_text month = decimal (year_of month) ++ codes "-" ++ below_hundred (month_of_year month)
