-- Marks: when two are the same, the price that was observed, and the price that is checked.
use Rattle.std.specs.Prelude.{ℕ, Bool, true, false, ◌==◌, Option, Some, None}
use Rattle.cpi_survey.specs.declared.mark.Reason.{Reason}
use Rattle.cpi_survey.specs.declared.mark.Reason.TheVariants.{Stock, Closed, Gone, Refused}
use Rattle.cpi_survey.specs.declared.mark.Mark.{Mark}
use Rattle.cpi_survey.specs.declared.mark.Mark.TheVariants.{Price, Missing, Comparable, Other}

-- the same reason
abbrev pub is_same_reason : Reason → Reason → Bool
is_same_reason Stock Stock = true
is_same_reason Closed Closed = true
is_same_reason Gone Gone = true
is_same_reason Refused Refused = true
is_same_reason _ _ = false

-- the same kind of mark with the same value
abbrev pub is_same_mark : Mark → Mark → Bool
is_same_mark (Price p) (Price q) = p == q
is_same_mark (Missing r) (Missing s) = is_same_reason r s
is_same_mark (Comparable p) (Comparable q) = p == q
is_same_mark (Other p) (Other q) = p == q
is_same_mark _ _ = false

-- the price that was observed: any mark but missing has one
abbrev pub observed_price : Mark → Option ℕ
observed_price (Price p) = Some p
observed_price (Missing reason) = None
observed_price (Comparable p) = Some p
observed_price (Other p) = Some p

-- the price that is checked against the last one: of the item itself or of a comparable replacement
abbrev pub checked_price : Mark → Option ℕ
checked_price (Price p) = Some p
checked_price (Missing reason) = None
checked_price (Comparable p) = Some p
checked_price (Other p) = None

-- a replacement, comparable or not
abbrev pub is_replacement : Mark → Bool
is_replacement (Price p) = false
is_replacement (Missing reason) = false
is_replacement (Comparable p) = true
is_replacement (Other p) = true
