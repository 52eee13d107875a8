-- What holds of all numbers, months, keys and item codes.
use Rattle.std.specs.Prelude.{◌≡◌, ℕ, ◌<◌, ◌≤◌, ◌^◌, List, Some, Ok}
use Rattle.std.specs.Fmt.{decimal}
use Rattle.std.specs.Ordering.{nat_cmp}
use Rattle.std.specs.Cmp.Lexicographic.{slice_cmp}
use Rattle.cpi_codes.specs.Number.{number_in}
use Rattle.cpi_codes.specs.Month.{month_of, month_text}
use Rattle.cpi_codes.specs.Key.{key_of}
use Rattle.cpi_codes.specs.ItemCode.{item_code_of}

-- the decimal text of a number in range is read as that number
abbrev pub NumbersAreReadAgain : Type 0
NumbersAreReadAgain = (low high n : ℕ) → low ≤ n → n ≤ high → n < 2 ^ 64 → number_in low high (decimal n) ≡ Some n

-- a text that is read as a number is the number's decimal text
abbrev pub NumbersHaveOneSpelling : Type 0
NumbersHaveOneSpelling = (low high n : ℕ) (text : List ℕ) → n < 2 ^ 64 → number_in low high text ≡ Some n →
    text ≡ decimal n

-- the text of a month is read as that month
abbrev pub MonthsAreReadAgain : Type 0
MonthsAreReadAgain = (month : ℕ) → month < 2400 → month_of (month_text month) ≡ Ok month

-- a text that is read as a month is the month's text
abbrev pub MonthsHaveOneSpelling : Type 0
MonthsHaveOneSpelling = (month : ℕ) (text : List ℕ) → month_of text ≡ Ok month → text ≡ month_text month

-- two texts of one key are one text
abbrev pub KeysHaveOneSpelling : Type 0
KeysHaveOneSpelling = (key : ℕ) (a b : List ℕ) → key_of a ≡ Some key → key_of b ≡ Some key → a ≡ b

-- two texts of one item code are one text
abbrev pub ItemCodesHaveOneSpelling : Type 0
ItemCodesHaveOneSpelling = (code : ℕ) (a b : List ℕ) → item_code_of a ≡ Some code → item_code_of b ≡ Some code → a ≡ b

-- item codes stand in the byte order of their texts
abbrev pub ItemCodesAreInByteOrder : Type 0
ItemCodesAreInByteOrder = (x y : ℕ) (a b : List ℕ) → item_code_of a ≡ Some x → item_code_of b ≡ Some y →
    nat_cmp x y ≡ slice_cmp nat_cmp a b
