use Rattle.std.specs.Ordering.{nat_cmp}
use Rattle.cpi_rows.proofs.Places.{none_in_order}
use Rattle.cpi_survey.proofs.public.Public.new.Goals as goal

pub from_parts-requires-clause-items : goal.from_parts-requires-clause-items
from_parts-requires-clause-items c = rw c.new.ensures (none_in_order nat_cmp (λ i. i.code))

pub from_parts-requires-clause-plans : goal.from_parts-requires-clause-plans
from_parts-requires-clause-plans c = rw c.new-2.ensures.items (none_in_order nat_cmp (λ y. y.year))

pub from_parts-requires-clause-calendar : goal.from_parts-requires-clause-calendar
from_parts-requires-clause-calendar c = rw c.new-3.ensures.items (none_in_order nat_cmp (λ r. r.month))
