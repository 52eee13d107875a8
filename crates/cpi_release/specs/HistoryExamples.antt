-- Small histories, computed: the table of a month after those before it, and which fault comes first.
use Rattle.std.specs.Prelude.{◌≡◌, ℕ, ℤ, pos, negsuc, Bool, true, false, List, [], ◌∷◌, ◌++◌, map, take, codes}
use Rattle.std.specs.Prelude.{Option, Some, None}
use Rattle.cpi_codes.specs.declared.codes.Code.{Code}
use Rattle.cpi_plan.specs.Plan.{Plan}
use Rattle.cpi_plan.specs.declared.plan_rows.Node.{Node}
use Rattle.cpi_survey.specs.declared.mark.Mark.{Mark}
use Rattle.cpi_survey.specs.declared.mark.Mark.TheVariants.{Price, Missing}
use Rattle.cpi_survey.specs.declared.mark.Reason.TheVariants.{Stock}
use Rattle.cpi_index.specs.Carried.{Carried}
use Rattle.cpi_index.specs.Frozen.{Frozen}
use Rattle.cpi_index.specs.Examples.{all_items, rice, flour, quote}
use Rattle.cpi_index.specs.declared.fault.IndexFault.{IndexFault}
use Rattle.cpi_index.specs.declared.fault.IndexFault.TheVariants.{NoReference, NoSample, NoMatch, OutOfRange}
use Rattle.cpi_release.specs.Releasing.{Freeze, plan_in, release_of_month, fault_of, all_released}
use Rattle.cpi_release.specs.Releases.{levels_of}
use Rattle.cpi_release.specs.CsvTable.{csv_table}
use Rattle.cpi_release.specs.declared.level.Level.{Level}
use Rattle.cpi_release.specs.declared.release.Release.{Release}

-- ---- plans: rice alone, with item 1; or rice with 600,000 parts and flour with 400,000, item 3 in one of them
abbrev pub node : Code → ℕ → Node
node code weight = record { code = code; title = codes "All items"; weight = weight }

abbrev pub rice_alone : ℕ → Plan
rice_alone year = record {
  year = year;
  nodes = node all_items 1000000 ∷ node rice 1000000 ∷ [];
  weights = record { code = rice; parts = 1000000 } ∷ [];
  places = record { item = 1; aggregate = rice } ∷ [];
  reference = None;
}

abbrev pub rice_and_flour : ℕ → Code → Plan
rice_and_flour year third = record {
  year = year;
  nodes = node all_items 1000000 ∷ node rice 600000 ∷ node flour 400000 ∷ [];
  weights = record { code = rice; parts = 600000 } ∷ record { code = flour; parts = 400000 } ∷ [];
  places =
      record { item = 1; aggregate = rice } ∷ record { item = 2; aggregate = flour }
      ∷ record { item = 3; aggregate = third } ∷ [];
  reference = None;
}

-- ---- freezes; December 2025 is month 311. A slot prices an item up to December 2027, which is month 335
abbrev pub priced : ℕ → ℕ → Mark → Frozen
priced slot item mark = quote slot item 335 mark

abbrev pub freeze : ℕ → List Frozen → Freeze
freeze month quotes = record {
  month = month;
  revision = 1;
  frozen_at = 0;
  publishes = 0;
  frozen = quotes;
  carry = [];
}

abbrev pub under_carry : List Code → Freeze → Freeze
under_carry aggregates x = record x { carry = aggregates }

-- what a month's table says: index, chained level, both changes, and whether something was imputed
abbrev pub Line : Type 0
Line = ℕ × ℕ × ℤ × Option ℤ × Bool

abbrev pub line : Level → Line
line l = (l.within, l.chained, l.month_change, l.year_change, l.imputed)

-- of all items and of rice alone, which are alike
abbrev pub twice : Line → List Line
twice l = l ∷ l ∷ []

abbrev pub table_at : ℕ → List Release → List Line
table_at month releases = map line (levels_of releases month)

-- the table of a month, and its fault, after these releases
abbrev pub table_after : List Plan → List Release → Freeze → List Line
table_after plans before x = map line (release_of_month (plan_in plans before x.month) before x).levels

abbrev pub fault_after : List Plan → List Release → Freeze → Option IndexFault
fault_after plans before x = fault_of (plan_in plans before x.month) before x

-- a month's release as it stands
abbrev pub standing : ℕ → List Frozen → List Carried → List Level → Release
standing month quotes carried levels = record {
  month = month;
  revision = 1;
  frozen_at = 0;
  publishes = 0;
  frozen = quotes;
  carry = [];
  carried = carried;
  levels = levels;
}

abbrev pub level_row : Code → ℕ → Level
level_row code chained = record {
  code = code;
  title = [];
  weight = 1000000;
  within = 100000000;
  chained = chained;
  month_change = pos 0;
  year_change = None;
  imputed = false;
}

-- ---- two years of one series: 200 in December 2025, 210 in each month of 2026, and 220 in January 2027
abbrev pub rice_at : ℕ → Mark → Freeze
rice_at month mark = freeze month (priced 1 1 mark ∷ [])

abbrev pub two_years : Freeze → List Release
two_years last = all_released (rice_alone 2026 ∷ rice_alone 2027 ∷ []) (
    rice_at 311 (Price 200)
    ∷ map (λ month. rice_at month (Price 210)) (312 ∷ 313 ∷ 314 ∷ 315 ∷ 316 ∷ 317 ∷ 318 ∷ 319 ∷ 320 ∷ 321 ∷ 322 ∷ [])
    ++ last ∷ rice_at 324 (Price 220) ∷ [])

abbrev pub observed : List Release
observed = two_years (rice_at 323 (Price 210))

-- the price of December 2026 is missing, and rice is carried unchanged
abbrev pub unobserved : List Release
unobserved = two_years (under_carry (rice ∷ []) (rice_at 323 (Missing Stock)))

abbrev pub january_2027 : List ℕ
january_2027 = codes "00,1000000,104.761905,110.000000,4.8,4.8,0,All items\n"

-- the first release has no rows; in December the annual change is from the link level
abbrev pub TwoYears : Type 0
TwoYears =
    (table_at 311 observed ≡ [])
    × (table_at 312 observed ≡ twice (105000000, 105000000, pos 50, None, false))
    × (table_at 323 observed ≡ twice (105000000, 105000000, pos 0, Some (pos 50), false))
    × (csv_table (take 1 (levels_of observed 324)) ≡ january_2027)

abbrev pub CarriedDecember : Type 0
CarriedDecember =
    (table_at 323 unobserved ≡ twice (105000000, 105000000, pos 0, Some (pos 50), true))
    × (csv_table (take 1 (levels_of unobserved 324)) ≡ january_2027)

-- ---- linking: all items had a level in December, rice is new in the year, and flour is gone
abbrev pub linked : List Release
linked =
    standing 311 (priced 1 1 (Price 200) ∷ []) [] (level_row all_items 112345678 ∷ level_row flour 98000000 ∷ []) ∷ []

abbrev pub Linking : Type 0
Linking =
    table_after (rice_alone 2026 ∷ []) linked (rice_at 312 (Price 210))
    ≡ (105000000, 117962962, pos 50, None, false) ∷ (105000000, 105000000, pos 50, None, false) ∷ []

-- ---- an item that was missing in January and returns in February
abbrev pub two_prices : ℕ → Mark → Mark → Freeze
two_prices month a b = freeze month (priced 1 1 a ∷ priced 2 1 b ∷ [])

abbrev pub back_in_february : List Release
back_in_february = all_released (rice_alone 2026 ∷ []) (
    two_prices 311 (Price 200) (Price 300) ∷ two_prices 312 (Price 210) (Missing Stock)
    ∷ two_prices 313 (Price 210) (Price 330) ∷ [])

abbrev pub Returning : Type 0
Returning =
    (table_at 312 back_in_february ≡ twice (105000000, 105000000, pos 50, None, true))
    × (table_at 313 back_in_february ≡ twice (108000000, 108000000, pos 29, None, false))

-- ---- a change of plan: item 3 was rice in 2026 and is flour in 2027. Its price of December was carried; slot 4 ended
-- in that December, so its price of January counts nowhere
abbrev pub third_carried : Carried
third_carried = record {
  series = record { collector = 7; slot = 3 };
  item = 3;
  last_month = 335;
  ticks = 3000000;
  knum = 10000;
  kden = 1;
  observed = false;
  imputed = true;
}

abbrev pub end_of_2026 : List Release
end_of_2026 =
    standing 323 (
    priced 1 1 (Price 100) ∷ priced 2 2 (Price 200) ∷ priced 3 3 (Missing Stock) ∷ quote 4 1 323 (Price 1000) ∷ [])
    (third_carried ∷ []) [] ∷ []

abbrev pub start_of_2027 : Freeze
start_of_2027 =
    freeze 324 (
    priced 1 1 (Price 110) ∷ priced 2 2 (Price 210) ∷ priced 3 3 (Price 360) ∷ quote 4 1 323 (Price 5000) ∷ [])

abbrev pub MovedItem : Type 0
MovedItem =
    (table_after (rice_and_flour 2027 flour ∷ []) end_of_2026 start_of_2027
    ≡ (111600000, 111600000, pos 116, None, false) ∷ (110000000, 110000000, pos 100, None, false)
    ∷ (114000000, 114000000, pos 140, None, false) ∷ [])
    × (table_after (rice_and_flour 2027 rice ∷ []) end_of_2026 start_of_2027
    ≡ (112500000, 112500000, pos 125, None, false) ∷ (117500000, 117500000, pos 175, None, false)
    ∷ (105000000, 105000000, pos 50, None, false) ∷ [])

-- ---- nothing of flour is matched in February: refused, but where flour may be carried unchanged
abbrev pub rice_and_flour_at : ℕ → Mark → Mark → Freeze
rice_and_flour_at month a b = freeze month (priced 1 1 a ∷ priced 2 2 b ∷ [])

abbrev pub both : List Plan
both = rice_and_flour 2026 rice ∷ []

abbrev pub until_january : List Release
until_january = all_released both (
    rice_and_flour_at 311 (Price 200) (Price 500) ∷ rice_and_flour_at 312 (Price 210) (Price 490) ∷ [])

abbrev pub february : Freeze
february = rice_and_flour_at 313 (Price 210) (Missing Stock)

abbrev pub Unmatched : Type 0
Unmatched =
    (fault_after both until_january february ≡ Some (NoMatch flour))
    × (fault_after both until_january (under_carry (rice ∷ []) february) ≡ Some (NoMatch flour))
    × (fault_after both until_january (under_carry (flour ∷ []) february) ≡ None)
    × (table_after both until_january (under_carry (flour ∷ []) february)
    ≡ (102200000, 102200000, pos 0, None, true) ∷ (105000000, 105000000, pos 0, None, false)
    ∷ (98000000, 98000000, pos 0, None, true) ∷ [])

-- ---- the order of faults: each kind over all aggregates before the next
abbrev pub fault_from : Mark → Mark → Mark → Mark → Option IndexFault
fault_from a b c d =
    fault_after both (standing 311 (rice_and_flour_at 311 a b).frozen [] [] ∷ []) (rice_and_flour_at 312 c d)

abbrev pub FirstFault : Type 0
FirstFault =
    (fault_from (Price 1) (Missing Stock) (Price 100000000) (Price 490) ≡ Some (NoSample flour))
    × (fault_from (Price 1) (Price 500) (Price 100000000) (Missing Stock) ≡ Some (NoMatch flour))
    × (fault_from (Price 1) (Price 500) (Price 100000000) (Price 490) ≡ Some (OutOfRange rice))
    × (fault_from (Price 1) (Price 500) (Price 100000) (Price 490) ≡ None)
    × (fault_from (Missing Stock) (Missing Stock) (Price 210) (Price 490) ≡ Some (NoSample rice))

-- the greatest index; and a chained level past its limit, after indices within theirs
abbrev pub highest : List Release
highest = standing 311 (priced 1 1 (Price 200) ∷ []) [] (level_row rice 1000000000000000 ∷ []) ∷ []

abbrev pub lowest : List Release
lowest = standing 311 (priced 1 1 (Price 1) ∷ []) [] [] ∷ []

-- 10^8 minor units in the December before; and a chained level of one millionth
abbrev pub costly : List Release
costly = standing 311 (priced 1 1 (Price 100000000) ∷ []) [] [] ∷ []

abbrev pub sunk : List Release
sunk = standing 311 (priced 1 1 (Price 200) ∷ []) [] (level_row rice 1 ∷ []) ∷ []

-- a price of 1 after 10^8 is the least index, a fall by 99.999999 percent; half of a level of 1 is rounded up to 1, and
-- less than half of it to nothing
abbrev pub LeastLimits : Type 0
LeastLimits =
    (table_after (rice_alone 2026 ∷ []) costly (rice_at 312 (Price 1)) ≡ twice (1, 1, negsuc 999, None, false))
    × (fault_after (rice_alone 2026 ∷ []) sunk (rice_at 312 (Price 100)) ≡ None)
    × (fault_after (rice_alone 2026 ∷ []) sunk (rice_at 312 (Price 99)) ≡ Some (OutOfRange rice))

abbrev pub Limits : Type 0
Limits =
    (table_after (rice_alone 2026 ∷ []) lowest (rice_at 312 (Price 100000))
    ≡ twice (10000000000000, 10000000000000, pos 99999000, None, false))
    × (fault_after (rice_alone 2026 ∷ []) highest (rice_at 312 (Price 201)) ≡ Some (OutOfRange rice))
    × (fault_after (rice_alone 2026 ∷ []) highest (rice_at 312 (Price 200)) ≡ None)

-- ---- weights moved by prices: rice has 600,000 parts and flour 400,000 of November 2025
abbrev pub referring : List Plan
referring = record (rice_and_flour 2026 rice) { reference = Some 310 } ∷ []

-- the chained levels of rice and flour
abbrev pub levels_at : ℕ → ℕ → List Level
levels_at a b = level_row rice a ∷ level_row flour b ∷ []

-- November's table, and December's with the prices of that month
abbrev pub november : List Level → Release
november levels = standing 310 [] [] levels

abbrev pub end_of_2025 : Mark → List Level → Release
end_of_2025 mark levels = standing 311 (rice_and_flour_at 311 mark (Price 100)).frozen [] levels

abbrev pub start_of_2026 : Freeze
start_of_2026 = rice_and_flour_at 312 (Price 102) (Price 101)

abbrev pub weights_after : List Plan → List Release → Freeze → List ℕ
weights_after plans before x = map (λ l. l.weight) (release_of_month (plan_in plans before x.month) before x).levels

-- December's levels are 105 and 98 where November's are 100
abbrev pub by_december : List Release → List Release
by_december before = before ++ end_of_2025 (Price 100) (levels_at 105000000 98000000) ∷ []

abbrev pub by_november : List Release
by_november = by_december (november (levels_at 100000000 100000000) ∷ [])

-- the second revision of November has 98 for flour
abbrev pub by_revision : List Release
by_revision = by_december (
    november (levels_at 100000000 100000000)
    ∷ record (november (levels_at 100000000 98000000)) { revision = 2 } ∷ [])

-- the weights in use are those of the table, and all items are averaged by them; the plan's own weights stay 600,000
-- and 400,000, and where a month is revised its latest levels count
abbrev pub MovedWeights : Type 0
MovedWeights =
    (weights_after referring by_november start_of_2026 ≡ 1022000 ∷ 630000 ∷ 392000 ∷ [])
    × (table_after referring by_november start_of_2026
    ≡ (101616438, 101616438, pos 16, None, false) ∷ (102000000, 107100000, pos 20, None, false)
    ∷ (101000000, 98980000, pos 10, None, false) ∷ [])
    × (weights_after both by_november start_of_2026 ≡ 1000000 ∷ 600000 ∷ 400000 ∷ [])
    × (weights_after referring by_revision start_of_2026 ≡ 1030000 ∷ 630000 ∷ 400000 ∷ [])

-- ---- no weights in use: November has no table, or an aggregate no row in one of the two; and then a weight past its
-- limit. Each comes before an aggregate without a sample
abbrev pub fault_by : List Level → List Level → Option IndexFault
fault_by reference link =
    fault_after referring (november reference ∷ end_of_2025 (Missing Stock) link ∷ []) start_of_2026

abbrev pub WeightFaults : Type 0
WeightFaults =
    (fault_after referring (by_december []) start_of_2026 ≡ Some (NoReference rice))
    × (fault_by (level_row rice 100000000 ∷ []) (levels_at 105000000 98000000) ≡ Some (NoReference flour))
    × (fault_by (levels_at 100000000 100000000) (level_row rice 105000000 ∷ []) ≡ Some (NoReference flour))
    × (fault_by (levels_at 1 100000000) (level_row rice 105000000 ∷ []) ≡ Some (NoReference flour))
    × (fault_by (levels_at 1 100000000) (levels_at 105000000 98000000) ≡ Some (OutOfRange rice))
    × (fault_by (levels_at 100000000 100000000) (levels_at 105000000 98000000) ≡ Some (NoSample rice))
