-- Series in their order: by collector, and then by slot.
use Rattle.std.specs.Prelude.{ℕ, ◌≡◌, ◌≤◌, ◌+◌, ◌*◌, ◌-◌, ◌==◌, Bool, true, ◌&&◌, nat_le, List, [], ◌∷◌, Option}
use Rattle.std.specs.Prelude.{map, find}
use Rattle.cpi_codes.specs.declared.series.SeriesId.{SeriesId}
use Rattle.cpi_codes.specs.declared.limits.TheConstants.{GREATEST_SLOT}
use Rattle.cpi_index.specs.Carried.{Carried}
use Rattle.cpi_index.specs.Frozen.{Frozen}
use Rattle.cpi_index.specs.Row.{Row}

-- the number of a series among all that there can be: at most 9,999 collectors with 400 slots each
abbrev pub serial : SeriesId → ℕ
serial s = GREATEST_SLOT * (s.collector - 1) + (s.slot - 1)

abbrev pub carried_serial : Carried → ℕ
carried_serial c = serial c.series

abbrev pub frozen_serial : Frozen → ℕ
frozen_serial q = serial q.series

abbrev pub row_serial : Row → ℕ
row_serial r = serial r.link.series

-- strictly rising, with none below n
abbrev pub rises_from : ℕ → List ℕ → Bool
rises_from n [] = true
rises_from n (x ∷ xs) = nat_le n x && rises_from (x + 1) xs

abbrev pub rises : List ℕ → Bool
rises xs = rises_from 0 xs

-- in the order of their series, no series twice
abbrev pub are_by_series : {X : Type 0} → (X → ℕ) → List X → Bool
are_by_series key xs = rises (map key xs)

-- the element of a series, by its number
abbrev pub element_at : {X : Type 0} → (X → ℕ) → ℕ → List X → Option X
element_at key n xs = find (λ x. key x == n) xs

-- slots are 1 to 400
abbrev pub AreSlots : SeriesId → SeriesId → Type 0
AreSlots s t = ((1 ≤ s.slot) × (s.slot ≤ GREATEST_SLOT)) × ((1 ≤ t.slot) × (t.slot ≤ GREATEST_SLOT))
    × (1 ≤ s.collector) × (1 ≤ t.collector)

-- one number, one series
abbrev pub IsOneSeries : SeriesId → SeriesId → Type 0
IsOneSeries s t = AreSlots s t → serial s ≡ serial t → (s.collector ≡ t.collector) × (s.slot ≡ t.slot)
