-- One elementary aggregate at a time: its index, or its lack.
use Rattle.std.specs.Prelude.{ℕ, Bool, not, List, Option, Some, None, sum_by, if◌then◌else◌}
use Rattle.std.specs.List.{list_any}
use Rattle.cpi_index.specs.Row.{Row}
use Rattle.cpi_index.specs.Sample.{is_none_of}
use Rattle.cpi_index.specs.Aggregate.{carried_rows, lacks_a_match, are_in_limits, dutot_index, is_index}
use Rattle.cpi_index.specs.declared.lack.GroupLack.{GroupLack}
use Rattle.cpi_index.specs.declared.lack.GroupLack.TheVariants.{NoSample, NoMatch, PriceOutOfRange, IndexOutOfRange}

-- the sum of the carried prices, and that of the bases
abbrev pub ticks_now : List Row → ℕ
ticks_now rows = sum_by (λ c. c.ticks) (carried_rows rows)

abbrev pub ticks_base : List Row → ℕ
ticks_base rows = sum_by (λ r. r.link.ticks) rows

-- the Dutot index of a sample: the sum of its carried prices over the sum of its bases
abbrev pub group_index : List Row → ℕ
group_index rows = dutot_index (ticks_now rows) (ticks_base rows)

-- whether a price of the sample is imputed in the month
abbrev pub has_imputed : List Row → Bool
has_imputed rows = list_any (λ c. c.imputed) (carried_rows rows)

-- the lack of an aggregate without an index: the first that holds
abbrev pub lack_of : Bool → List Row → Option GroupLack
lack_of unchanged rows =
    if is_none_of rows then Some NoSample else
    if lacks_a_match unchanged rows then Some NoMatch else
    if not (are_in_limits rows) then Some PriceOutOfRange else
    if not (is_index (group_index rows)) then Some IndexOutOfRange else None
