-- The formulas of the theorem, computed at months that were worked by hand.
use Rattle.std.specs.Prelude.{◌≡◌, ℕ, pos, negsuc, Bool, true, false, List, [], ◌∷◌, map, take}
use Rattle.std.specs.Prelude.{Option, Some, None, option_map}
use Rattle.cpi_codes.specs.declared.series.SeriesId.{SeriesId}
use Rattle.cpi_plan.specs.Plan.{Plan}
use Rattle.cpi_survey.specs.declared.mark.Mark.{Mark}
use Rattle.cpi_survey.specs.declared.mark.Mark.TheVariants.{Price, Missing, Comparable, Other}
use Rattle.cpi_survey.specs.declared.mark.Reason.TheVariants.{Stock}
use Rattle.cpi_index.specs.Carried.{Carried}
use Rattle.cpi_index.specs.Examples.{all_items, rice, flour}
use Rattle.cpi_index.specs.Row.{Row}
use Rattle.cpi_release.specs.HistoryExamples.{line, twice, rice_alone, rice_and_flour, rice_at}
use Rattle.cpi_release.specs.HistoryExamples.{standing, level_row, linked, observed, until_january, february, end_of_2026}
use Rattle.cpi_release.specs.Theorem.{round, M, C_of, I_of, change, W, link, last, year_ago, I, L_now, table, B, base}
use Rattle.cpi_release.specs.declared.release.Release.{Release}

-- ---- rice: bases of 200, 300 and 500; January 210, 300 and 540; February 220, missing, 540; March 220, another item at
-- 400, and 540; April 220, 410 and 540
abbrev pub at_ticks : ℕ → ℕ → ℕ → Bool → Carried
at_ticks ticks knum kden observed = record {
  series = record { collector = 7; slot = 1 };
  item = 1;
  last_month = 335;
  ticks = ticks;
  knum = knum;
  kden = kden;
  observed = observed;
  imputed = false;
}

abbrev pub series_at : Mark → ℕ → Carried → Row
series_at mark base before = record { mark = Some mark; link = at_ticks base 10000 1 true; before = before }

abbrev pub in_february : List Row
in_february =
    series_at (Price 220) 2000000 (at_ticks 2100000 10000 1 true)
    ∷ series_at (Missing Stock) 3000000 (at_ticks 3000000 10000 1 true)
    ∷ series_at (Comparable 540) 5000000 (at_ticks 5400000 10000 1 true) ∷ []

abbrev pub in_march : List Row
in_march =
    series_at (Price 220) 2000000 (at_ticks 2200000 10000 1 true)
    ∷ series_at (Other 400) 3000000 (at_ticks 3040000 10000 1 false)
    ∷ series_at (Price 540) 5000000 (at_ticks 5400000 10000 1 true) ∷ []

abbrev pub in_april : List Row
in_april =
    series_at (Price 220) 2000000 (at_ticks 2200000 10000 1 true)
    ∷ series_at (Price 410) 3000000 (at_ticks 3040000 3040000 400 true)
    ∷ series_at (Price 540) 5000000 (at_ticks 5400000 10000 1 true) ∷ []

-- a series that is back isn't matched
abbrev pub one_back : List Row
one_back = series_at (Price 220) 2000000 (at_ticks 2100000 10000 1 false) ∷ []

abbrev pub prices_of : List Carried → List (ℕ × ℕ × ℕ × Bool)
prices_of cs = map (λ c. (c.ticks, c.knum, c.kden, c.imputed)) cs

abbrev pub Samples : Type 0
Samples =
    (round 5 2 ≡ 3) × (round 4 3 ≡ 1)
    × (M in_february ≡ (7600000, 7500000)) × (M one_back ≡ (1, 1))
    × (prices_of (C_of in_february)
    ≡ (2200000, 10000, 1, false) ∷ (3040000, 10000, 1, true) ∷ (5400000, 10000, 1, false) ∷ [])
    × (prices_of (C_of in_march)
    ≡ (2200000, 10000, 1, false) ∷ (3040000, 3040000, 400, true) ∷ (5400000, 10000, 1, false) ∷ [])
    × (I_of in_february ≡ 106400000) × (I_of in_march ≡ 106400000) × (I_of in_april ≡ 107160000)

-- ---- changes: of 3.16 in 107 points 2.953 percent; and those that round to nothing
abbrev pub Changes : Type 0
Changes =
    (change 107000000 103840000 ≡ negsuc 29) × (change 100000000 102200000 ≡ pos 22)
    × (change 100000000 99950000 ≡ negsuc 0) × (change 100000000 99950001 ≡ pos 0)

-- ---- weights: 600,000 for rice, moved from 100 in June to 110 in December; and as they were sent
abbrev pub june_and_december : List Release
june_and_december =
    standing 305 [] [] (level_row rice 100000000 ∷ []) ∷ standing 311 [] [] (level_row rice 110000000 ∷ []) ∷ []

abbrev pub moved : Plan
moved = record (rice_and_flour 2026 rice) { reference = Some 305 }

abbrev pub Weights : Type 0
Weights =
    (W moved june_and_december 312 (record { code = rice; parts = 600000 }) ≡ 660000)
    × (W (rice_and_flour 2026 rice) june_and_december 312 (record { code = rice; parts = 600000 }) ≡ 600000)

-- ---- levels: all items had 112.345678 in December, and rice none; a January's change is from there, and so is the
-- change in a year of a December
abbrev pub Links : Type 0
Links =
    (link (rice_alone 2026) linked 312 all_items ≡ 112345678)
    × (link (rice_alone 2026) linked 312 rice ≡ 100000000)
    × (last (rice_alone 2026) linked 312 all_items ≡ 112345678)
    × (year_ago (rice_alone 2026) linked 323 all_items ≡ Some 112345678)
    × (year_ago (rice_alone 2026) linked 322 all_items ≡ None)
    × (I (rice_and_flour 2026 rice) [] 312 (λ e. in_february) all_items ≡ 106400000)
    × (L_now (rice_alone 2026) linked 312 (λ e. in_february) all_items ≡ 119535801)

-- ---- bases: a price, a price that was carried, and neither; slot 4 ended in December
abbrev pub slot : ℕ → SeriesId
slot number = record { collector = 7; slot = number }

abbrev pub ticks_of : Option Carried → Option ℕ
ticks_of c = option_map (λ c. c.ticks) c

abbrev pub Bases : Type 0
Bases =
    (ticks_of (B end_of_2026 323 (slot 1)) ≡ Some 1000000)
    × (ticks_of (B end_of_2026 323 (slot 3)) ≡ Some 3000000)
    × (ticks_of (B end_of_2026 323 (slot 4)) ≡ Some 10000000)
    × (ticks_of (B end_of_2026 323 (slot 9)) ≡ None)
    × (ticks_of (base (rice_and_flour 2027 flour) end_of_2026 324 (slot 3)) ≡ Some 3000000)
    × (ticks_of (base (rice_and_flour 2027 flour) end_of_2026 324 (slot 4)) ≡ None)

-- ---- tables: rice 210 and flour missing, with nothing to move it by, after 200 and 500 in December and 490 in January;
-- and January 2027 after two years of one series
abbrev pub Tables : Type 0
Tables =
    (map line (table (rice_and_flour 2026 rice) until_january 313 february.frozen)
    ≡ (102200000, 102200000, pos 0, None, true) ∷ (105000000, 105000000, pos 0, None, false)
    ∷ (98000000, 98000000, pos 0, None, true) ∷ [])
    × (map line (table (rice_alone 2027) (take 13 observed) 324 (rice_at 324 (Price 220)).frozen)
    ≡ twice (104761905, 110000000, pos 48, Some (pos 48), false))
