-- The texts of civil times, as the clock of a place shows them.
use Rattle.std.specs.Prelude.{◌≡◌, ℕ, ◌+◌, ◌/◌, ◌%◌, ◌<◌, List, [], ◌∷◌, ◌++◌, pos, codes}
use Rattle.jiff_core.specs.declared.civil.datetime.DateTime.{DateTime}

-- a number below 100 in two digits
abbrev pub in_two_digits : ℕ → List ℕ
in_two_digits n = (48 + n / 10) ∷ (48 + n % 10) ∷ []

-- a year below 10000 in four
abbrev pub in_four_digits : ℕ → List ℕ
in_four_digits n = in_two_digits (n / 100) ++ in_two_digits (n % 100)

-- YYYY-MM-DDTHH:MM
abbrev pub civil_text : ℕ → ℕ → ℕ → ℕ → ℕ → List ℕ
civil_text year month day hour minute =
    in_four_digits year ++ codes "-" ++ in_two_digits month ++ codes "-" ++ in_two_digits day
    ++ codes "T" ++ in_two_digits hour ++ codes ":" ++ in_two_digits minute

-- numbers that such a text has digits for
abbrev pub IsWritable : ℕ → ℕ → ℕ → ℕ → ℕ → Type 0
IsWritable year month day hour minute = (year < 10000) × (month < 100) × (day < 100) × (hour < 100) × (minute < 100)

-- the text is this time of the calendar, at a full minute
pub record IsCivilText (text : List ℕ) (year : ℕ) (time : DateTime) : Type 0 where
  pub year_is : time.date.year ≡ pos year
  pub four : year < 10000
  pub spelled : text ≡ civil_text year time.date.month time.date.day time.time.hour time.time.minute
  pub second : time.time.second ≡ 0
  pub fraction : time.time.subsec_nanosecond ≡ 0

-- a text is one time of the calendar at most
abbrev pub OneTime : Type 0
OneTime = (text : List ℕ) (y z : ℕ) (a b : DateTime) → IsCivilText text y a → IsCivilText text z b → (y ≡ z) × (a ≡ b)
