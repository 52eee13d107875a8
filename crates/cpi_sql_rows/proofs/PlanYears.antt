-- The rowids and the years that a query shows of a table of plans.
use Rattle.std.proofs.Common.{◌≡◌, ℕ, ℤ, Less, List, [], ◌∷◌, map, Some, is_some, refl, ap, subst, ◌∙◌}
use Rattle.std.specs.List.{AllByRecursion}
use Rattle.std.specs.List.Sorted.{IsPermutation, IsStrictlySortedBy}
use Rattle.std.specs.Ordering.{int_cmp}
use Rattle.std.proofs.lemmas.List.Sorted.{IsPermutation-map, IsPermutation-sym}
use Rattle.sqlite.specs.declared.types.Value.TheVariants.{Null}
use Rattle.sqlite.specs.Order.{Row, column}
use Rattle.sqlite.specs.Program.{overlay}
use Rattle.sqlite.specs.State.{State, Shown}
use Rattle.sqlite.proofs.Callers.{reads_as}
use Rattle.sqlite_rules.proofs.ProbeLemmas.{mapped_has}
use Rattle.sqlite_trees.proofs.ListLemmas.{map-map}
use Rattle.cpi_rows.specs.Keyed.{IsInOrder}
use Rattle.cpi_sql_rows.specs.declared.plan_rows.PlanRow.{PlanRow}
use Rattle.cpi_sql_rows.specs.declared.rowids.Rowid.{Rowid}
use Rattle.cpi_sql_rows.specs.Finding.{AreOfYears, ArePlanRows, AsksYears, plan_row_from, rowid_from}
use Rattle.cpi_sql_rows.specs.WholeRows.{year_in}
use Rattle.cpi_sql_rows.specs.Read.{AreRead}
use Rattle.cpi_sql_rows.specs.Shelf.{AllStand}
use Rattle.cpi_sql_rows.specs.Texts.{select, columns, by_columns}
use Rattle.cpi_sql_rows.proofs.Distinct.{rowids_read, shown_all}
use Rattle.cpi_sql_rows.proofs.Lists.{bound_is, some_is, stands_as}
use Rattle.cpi_sql_rows.proofs.Reading.{has_permuted}

-- the rowid of such a row
abbrev id_of : PlanRow → Rowid
id_of p = record { number = p.number }

read_parts : (x : Row) (p : PlanRow) → plan_row_from x ≡ Some p
    → (rowid_from (column x 0) ≡ Some (id_of p)) × (year_in 1 x ≡ Some p.year)
read_parts x p e =
    let id = bound_is (rowid_from (column x 0)) _ p e in
    let year = bound_is (year_in 1 x) _ p id.2 in
    let is = some_is year.2 in (
      id.1 ∙ ap (λ (q : PlanRow). Some (id_of q)) is,
      year.1 ∙ ap (λ (q : PlanRow). Some q.year) is,
    )

-- the rows show the rowids too
ids_read : (rows : List Row) (read : List PlanRow) → AreRead plan_row_from rows read
    → AreRead (λ x. rowid_from (column x 0)) (map (λ x. column x 0 ∷ []) rows) (map id_of read)
ids_read [] [] e = refl
ids_read [] (p ∷ read) e = cc
ids_read (x ∷ rows) [] e = cc
ids_read (x ∷ rows) (p ∷ read) e =
    let here : plan_row_from x ≡ Some p = cc in
    let later : AreRead plan_row_from rows read = cc in
    let one = (read_parts x p here).0 in
    let rest = ids_read rows read later in
    λ i. one i ∷ rest i

ids_above : (n : ℤ) (read : List PlanRow) → AllByRecursion (λ p. int_cmp n p.number ≡ Less) read
    → AllByRecursion (λ i. int_cmp n i.number ≡ Less) (map id_of read)
ids_above n [] h = tt
ids_above n (p ∷ read) h = (h.0, ids_above n read h.1)

-- and they rise as the rows do
ids_rise : (read : List PlanRow) → IsInOrder int_cmp (λ p. p.number) read
    → IsInOrder int_cmp (λ i. i.number) (map id_of read)
unfolding IsStrictlySortedBy
ids_rise [] up = tt
ids_rise (p ∷ read) up = (ids_above p.number read up.0, ids_rise read up.1)

module _ (place : ℕ) (table rows : List Row) (read : List PlanRow)
    (same : IsPermutation (map (λ r. column r 0 ∷ column r place ∷ []) table) rows)
    (is : AreRead plan_row_from rows read) where
  abbrev shape : Row → Row
  shape r = column r 0 ∷ column r place ∷ []

  ids_shown : IsPermutation (map (λ r. column r 0 ∷ []) table) (map (λ x. column x 0 ∷ []) rows)
  ids_shown = subst (λ l. IsPermutation l (map (λ x. column x 0 ∷ []) rows))
      (map-map (λ x. column x 0 ∷ []) shape table)
      (IsPermutation-map (λ x. column x 0 ∷ []) (map shape table) rows same)

  years_read : AreOfYears place table
  unfolding AllStand
  years_read r h =
      let it = stands_as plan_row_from rows read (shape r) is
      (has_permuted rows (map shape table) (shape r) (IsPermutation-sym _ _ same) (mapped_has shape table r h)) in
      ap is_some (read_parts (shape r) it.0 it.1).1

  pub plan_rows : IsInOrder int_cmp (λ p. p.number) read → ArePlanRows place table
  plan_rows order = record {
    rowids = rowids_read table (map (λ x. column x 0 ∷ []) rows) (map id_of read) ids_shown (ids_read rows read is)
        (ids_rise read order);
    years = years_read;
  }

pub plan_rows_found : (text : List ℕ) (tree place : ℕ) (old new : State) (rows : List Row) (read : List PlanRow)
    → AsksYears old.now.schema text tree place → Shown text [] old new rows → AreRead plan_row_from rows read
    → IsInOrder int_cmp (λ p. p.number) read → ArePlanRows place (old.now.trees tree)
plan_rows_found text tree place old new rows read asks shown is order =
    let shape = 0 ∷ place ∷ [] in
    let r = reads_as text [] old new old.now.schema refl (select tree [] shape asks.order asks.names) asks.command
    asks.plain asks.listing rows shown in
    let all =
    shown_all tree (columns shape) (by_columns asks.order) (overlay old.now.trees []) [] rows (r.answer Null) in
    plan_rows place (old.now.trees tree) rows read
    (subst (λ l. IsPermutation (map (λ r. column r 0 ∷ column r place ∷ []) l) rows) (asks.stored old.now.trees) all)
    is order
