-- The statements on the tables of plans: a row added, and the rows of a year dropped.
use Rattle.std.proofs.Common.{◌≡◌, ℕ, ◌≤◌, pos, List, [], ◌∷◌, ◌++◌, Some, Option, Result, refl, ap, ◌∙◌}
use Rattle.std.proofs.lemmas.Bool.{le-leb}
use Rattle.std.specs.declared.cmp.Ordering.{Ordering}
use Rattle.std.specs.Cmp.{IsTotalOrder}
use Rattle.sqlite.specs.declared.types.Value.TheVariants.{Null, Int, Text}
use Rattle.sqlite.specs.Order.{Row, column}
use Rattle.sqlite.specs.Source.TheVariants.{Values}
use Rattle.sqlite.specs.State.{State}
use Rattle.cpi_codes.specs.CodeOf.{spelled_code}
use Rattle.cpi_codes.specs.ItemCode.{item_code_of}
use Rattle.cpi_plan.specs.declared.plan_rows.Place.{Place}
use Rattle.cpi_plan.specs.declared.plan_rows.Node.{Node}
use Rattle.cpi_rows.specs.Keyed.{IsInOrder}
use Rattle.cpi_rows.specs.Held.{held_cmp, held_key}
use Rattle.cpi_sql_writes.specs.Rest.{IsNumber, KeepsBut}
use Rattle.cpi_sql_rows.specs.Shelf.{IsKeyed}
use Rattle.cpi_sql_rows.specs.Tables.{table_of_nodes, table_of_plan_items, table_of_plan_refs}
use Rattle.cpi_sql_rows.specs.declared.reference_months.ReferenceMonth.{ReferenceMonth}
use Rattle.cpi_sql_rows.specs.Texts.{drop_places_text, drop_nodes_text, drop_references_text, add_reference_text}
use Rattle.cpi_sql_rows.specs.Texts.{given_pair, is_first_parameter}
use Rattle.cpi_sql_rows.specs.Lists.{place_in_row, node_in, reference_month_in_row, month_from, number_within, name_of}
use Rattle.cpi_sql_rows.specs.Lists.{and_then}
use Rattle.cpi_sql_rows.proofs.Lists.{bound_is, ranged_is, same_number, equal_number, some_is}
use Rattle.cpi_sql_rows.proofs.Reading.{equality}
use Rattle.cpi_sql_rows.proofs.Texts.{drop_places_is, drop_nodes_is, drop_references_is}
use Rattle.cpi_sql_rows.proofs.Texts.{add_reference_is}
use Rattle.cpi_sql_rows.proofs.Writing.{cast_int, cast_null}
use Rattle.cpi_sql_writes.specs.Columns.{AreColumns}
use Rattle.cpi_sql_writes.specs.PlanSteps.{is_of_year, IsYearNumber}
use Rattle.cpi_sql_writes.specs.Within.{AddsTo, Changes, Drops, RanStatement, Replaces, Within}
use Rattle.cpi_sql_writes.proofs.AddedRows.{list_kept, list_replaced}
use Rattle.cpi_sql_writes.proofs.Replaced.{Replaced}
use Rattle.cpi_sql_writes.proofs.TableSteps.{adds_row, drops_rows}

-- what the columns of a row stand for
module _ (year : ℕ) where
  pub node_columns : (c t : List ℕ) (n : Node) → spelled_code c ≡ Some n.code → name_of t ≡ Some n.title
      → AreColumns table_of_nodes node_in (IsYearNumber year) n
      (Int (pos year) ∷ Text c ∷ Text t ∷ Int (pos n.weight) ∷ [])
  node_columns c t n code title = record {
    stand = λ id number is. rw (is, code, title) refl;
    taken = simp (cast_null, cast_int);
    width = refl;
  }

  pub place_columns : (i c : List ℕ) (p : Place) → item_code_of i ≡ Some p.item → spelled_code c ≡ Some p.aggregate
      → AreColumns table_of_plan_items place_in_row (IsYearNumber year) p (Int (pos year) ∷ Text i ∷ Text c ∷ [])
  place_columns i c p item code = record {
    stand = λ id number is. rw (is, item, code) refl;
    taken = simp (cast_null, cast_int);
    width = refl;
  }

module _ {A E : Type 0} (old new : State) (result : Result A E) (year : ℕ) where
  abbrev key : Row
  key = Int (pos year) ∷ []

  pub nodes_dropped : Within old new result (RanStatement drop_nodes_text key)
      → Within old new result (Changes table_of_nodes.tree (Drops (is_of_year 1 year)))
  nodes_dropped ran = drops_rows table_of_nodes 4 refl drop_nodes_text key old new result ran (is_first_parameter 1)
      (is_of_year 1 year)
      drop_nodes_is (λ r. equality (column r 1) (pos year)) (λ db. refl)

  pub places_dropped : Within old new result (RanStatement drop_places_text key)
      → Within old new result (Changes table_of_plan_items.tree (Drops (is_of_year 1 year)))
  places_dropped ran = drops_rows table_of_plan_items 5 refl drop_places_text key old new result ran
      (is_first_parameter 1)
      (is_of_year 1 year) drop_places_is (λ r. equality (column r 1) (pos year)) (λ db. refl)

  pub references_dropped : Within old new result (RanStatement drop_references_text key)
      → Within old new result (Changes table_of_plan_refs.tree (Drops (is_of_year 0 year)))
  references_dropped ran = drops_rows table_of_plan_refs 19 refl drop_references_text key old new result ran
      (is_first_parameter 0)
      (is_of_year 0 year) drop_references_is (λ r. equality (column r 0) (pos year)) (λ db. refl)

  pub reference_added : (m : ℕ) (r : ReferenceMonth) → month_from (Int (pos m)) ≡ Some r.month
      → Within old new result (RanStatement add_reference_text (key ++ Int (pos m) ∷ []))
      → Within old new result (Changes table_of_plan_refs.tree
      (AddsTo reference_month_in_row (IsYearNumber year) (r ∷ [])))
  reference_added m r month ran =
      let row = Int (pos year) ∷ Null ∷ Int (pos m) ∷ [] in
      adds_row table_of_plan_refs 19 refl add_reference_text (key ++ Int (pos m) ∷ []) old new result ran
      (Values given_pair 3)
      row (λ db. row) add_reference_is (λ limit db rows h. h.1) (λ db. simp (cast_null, cast_int))
      reference_month_in_row
      (IsYearNumber year) r (λ number is. rw (is, month) refl)

-- ---- so they replace those of the year

pub year_read : (year : ℕ) → 2000 ≤ year → year ≤ 2199 → IsYearNumber year year
year_read year low high = rw (le-leb 2000 year low, le-leb year 2199 high) refl

-- the value that a row stands for, with the year that is in one of its columns
abbrev beside_year : {X : Type 0} → ℕ → (Row → Option X) → Row → Option (ℕ × X)
beside_year place from r =
    and_then (number_within 2000 2199 (column r place)) (λ y. and_then (from r) (λ x. Some (y, x)))

-- each row of another year is there
pub year_kept : {X : Type 0} (place : ℕ) (from : Row → Option X) (year : ℕ) → 2000 ≤ year → year ≤ 2199 → (xs : List X)
    (old new : List Row) → Replaces (beside_year place from) (is_of_year place year) (IsYearNumber year) xs old new
    → KeepsBut (λ r. IsNumber year (column r place)) old new
year_kept place from year low high = list_kept (beside_year place from) (is_of_year place year) (IsYearNumber year) year
    (year_read year low high) (λ r. IsNumber year (column r place)) (λ r hit. hit)

module _ {X K : Type 0} {R : K → K → Ordering} (o : IsTotalOrder R) (key : X → K) (place : ℕ) (from : Row → Option X)
  where
    numbered : (r : Row) (n : ℕ) (x : X) → beside_year place from r ≡ Some (n, x) → column r place ≡ Int (pos n)
    numbered r n x e =
        let one = bound_is (number_within 2000 2199 (column r place)) _ _ e in
        let two = bound_is (from r) _ _ one.2 in
        let pair : ◌≡◌ {A = ℕ × X} (one.0, two.0) (n, x) = some_is two.2 in
        ranged_is 2000 2199 (column r place) one.0 one.1 ∙ ap (λ (p : ℕ × X). Int (pos p.0)) pair

    pub year_replaced : (year : ℕ) → 2000 ≤ year → year ≤ 2199 → (xs : List X) (old new : List Row)
        → IsKeyed (held_cmp R) (held_key key) (beside_year place from) old → IsInOrder R key xs
        → Replaces (beside_year place from) (is_of_year place year) (IsYearNumber year) xs old new
        → Replaced o key (beside_year place from) year xs old new
    year_replaced year low high = list_replaced (beside_year place from) o key (is_of_year place year)
        (IsYearNumber year) year (year_read year low high)
        (λ r n x e hit. same_number (column r place) n year (numbered r n x e) hit)
        (λ r x e. equal_number (column r place) year (numbered r year x e))
