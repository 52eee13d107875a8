-- The bounds round the last price, and whether a price is within them.
use Rattle.std.specs.Prelude.{ℕ, ◌+◌, ◌*◌, ◌/◌, Bool, ◌&&◌, nat_le, if◌then◌else◌}
use Rattle.cpi_plan.specs.declared.items.Item.{Item}
use Rattle.cpi_survey.specs.declared.tolerance.Verdict.{Verdict}
use Rattle.cpi_survey.specs.declared.tolerance.Verdict.TheVariants.{Inside, Outside}

-- the least price inside: the item's low per mille of the last price, rounded up
abbrev pub low_bound : Item → ℕ → ℕ
low_bound item last = (last * item.low + 999) / 1000

-- the greatest price inside: the item's high per mille of the last price, rounded down
abbrev pub high_bound : Item → ℕ → ℕ
high_bound item last = last * item.high / 1000

-- from the low bound to the high one, both included
abbrev pub is_inside : Item → ℕ → ℕ → Bool
is_inside item last price = nat_le (low_bound item last) price && nat_le price (high_bound item last)

-- whether a price is within the bounds round the last one
abbrev pub verdict : Item → ℕ → ℕ → Verdict
verdict item last price =
    if is_inside item last price then Inside else Outside (low_bound item last) (high_bound item last)
