use Rattle.std.proofs.Common.{◌≡◌, ℕ, ◌+◌, ◌<◌}
use Rattle.sqlite.specs.Held.{state}
use Rattle.cpi_sql_rows.specs.Shelf.{IsCleanBook, IsPlanTaken, HasTables, Looked, StaysOpen}
use Rattle.cpi_sql_rows.specs.Lists.{years, plans_of, nodes_in, places_in, references_in}
use Rattle.cpi_sql_reads.proofs.years.plans.Given as goal

abbrev pub invariant-years : goal.invariant-years
invariant-years g l =
    let old = state g.S.Store l.fn.conn in
    let now = state g.S.Store l.conn in record {
      look : Looked old now (StaysOpen old now);
      read : IsCleanBook now → HasTables old
          → l.plans.items ≡ plans_of (years l.n) (nodes_in (old.now.trees 6)) (places_in (old.now.trees 8))
          (references_in (old.now.trees 34));
      taken : IsCleanBook now → HasTables old → (k : ℕ) → k < l.n → IsPlanTaken (2000 + k) old.now.trees;
    }
