-- The tables that keep a list for each of their holders, the releases or the years: the rows of one holder are read by
-- one statement.
use Rattle.std.specs.Prelude.{◌≡◌, ℕ, List, [], ◌∷◌, Option, Some, codes, map, refl}
use Rattle.std.specs.declared.cmp.Ordering.{Ordering}
use Rattle.sqlite.specs.Listing.{understood}
use Rattle.sqlite.specs.Order.{Row, column}
use Rattle.sqlite.specs.Term.{Term}
use Rattle.sqlite.specs.Tree.{Trees}
use Rattle.sqlite_tied.specs.Compute.{everything}
use Rattle.cpi_index.specs.Frozen.{Frozen}
use Rattle.cpi_index.specs.Carried.{Carried}
use Rattle.cpi_plan.specs.declared.plan_rows.Node.{Node}
use Rattle.cpi_plan.specs.declared.plan_rows.Place.{Place}
use Rattle.cpi_release.specs.declared.level.Level.{Level}
use Rattle.cpi_release.specs.declared.release.Release.{Release}
use Rattle.cpi_rows.specs.Held.{held_by, held_cmp, held_key}
use Rattle.cpi_sql_rows.specs.Asked.{AsksFor}
use Rattle.cpi_sql_rows.specs.Lists.{and_then, carrieds_in, frozens_in, levels_in, rows_in_key_order, release_from}
pub use Rattle.cpi_sql_rows.specs.WholeRows.{year_in}
use Rattle.cpi_sql_rows.specs.Lists.{node_at, place_at, reference_at, release_from_key, release_number}
use Rattle.cpi_sql_rows.specs.ReleaseRows.{frozen_after, carried_after, level_after}
use Rattle.cpi_sql_rows.specs.Shelf.{HasPlans, HasReleases, IsKeyed}
use Rattle.cpi_sql_rows.specs.Tables.{office_schema, table_of_nodes, table_of_plan_items, table_of_plan_refs}
use Rattle.cpi_sql_rows.specs.Tables.{table_of_frozen_2, table_of_carried_2, table_of_levels_2}
use Rattle.cpi_sql_rows.specs.Texts.{is_first_parameter, is_release, frozen_text, carried_text, levels_text, nodes_text}
use Rattle.cpi_sql_rows.specs.Texts.{places_text, references_text}
use Rattle.cpi_sql_rows.specs.declared.release_rows.Header.{Header}
use Rattle.cpi_sql_rows.specs.declared.reference_months.ReferenceMonth.{ReferenceMonth}

-- the number of the release in the first columns of a row
abbrev pub release_in : Row → Option ℕ
release_in r = release_from_key (column r 1) (column r 2)

-- what a row stands for, with its holder's number
abbrev pub row_with_holder : {X : Type 0} → (Row → Option ℕ) → (Row → Option X) → Row → Option (ℕ × X)
row_with_holder holder after r = and_then (holder r) (λ n. and_then (after r) (λ x. Some (n, x)))

-- the release of a header
abbrev pub release_in_tables : Trees → Header → Release
release_in_tables trees h = release_from (frozens_in (trees table_of_frozen_2.tree))
    (carrieds_in (trees table_of_carried_2.tree))
    (levels_in (trees table_of_levels_2.tree)) h

-- such a table, the text that reads it, and what the columns of its rows after the holder stand for
pub record HeldTable (X : Type 0) (terms : List Term) : Type 0 where
  pub tree : ℕ
  pub text : List ℕ
  -- the columns that are read
  pub shown : List ℕ
  pub after : Row → Option X
  pub asks : AsksFor office_schema text tree terms shown

-- the columns that are read stand for the value that the row stands for, and no two rows of a holder have one key
pub record Holds {X K : Type 0} {terms : List Term} (holder : Row → Option ℕ) (cmp : K → K → Ordering) (key : X → K)
    (stands : Row → Option X) (t : HeldTable X terms) : Type 0 where
  pub same : (r : Row) → stands (map (column r) t.shown) ≡ and_then (holder r) (λ _. t.after r)
  pub keyed : (trees : Trees) → HasPlans trees → HasReleases trees
      → IsKeyed (held_cmp cmp) (held_key key) (row_with_holder holder t.after) (trees t.tree)

-- such a table of the releases, and the list that a release has of it
pub record OfReleases {X K : Type 0} (cmp : K → K → Ordering) (key : X → K) (stands : Row → Option X)
    (t : HeldTable X is_release) (list : Release → List X) : Type 0 where
  pub holds : Holds release_in cmp key stands t
  pub lists : (trees : Trees) (h : Header) → list (release_in_tables trees h)
      ≡ held_by (release_number h.month h.revision)
      (rows_in_key_order (held_cmp cmp) (held_key key) (row_with_holder release_in t.after) (trees t.tree))

pub asks_frozen : AsksFor office_schema frozen_text table_of_frozen_2.tree is_release
    (1 ∷ 2 ∷ 3 ∷ 4 ∷ 5 ∷ 6 ∷ 7 ∷ 8 ∷ [])
unfolding understood everything
asks_frozen = record {
  order = 1 ∷ 2 ∷ 3 ∷ 4 ∷ [];
  names = codes "month" ∷ codes "revision" ∷ codes "collector" ∷ codes "slot"
      ∷ codes "item" ∷ codes "last_month" ∷ codes "mark" ∷ codes "value" ∷ [];
  command = refl;
  listing = refl;
  plain = (refl, refl);
  stored = λ _. refl;
}

-- frozen quotes, by release
abbrev pub frozen_table : HeldTable Frozen is_release
frozen_table = record {
  tree = table_of_frozen_2.tree;
  text = frozen_text;
  shown = 1 ∷ 2 ∷ 3 ∷ 4 ∷ 5 ∷ 6 ∷ 7 ∷ 8 ∷ [];
  after = frozen_after;
  asks = asks_frozen;
}

pub asks_carried : AsksFor office_schema carried_text table_of_carried_2.tree is_release
    (1 ∷ 2 ∷ 3 ∷ 4 ∷ 5 ∷ 6 ∷ 7 ∷ 8 ∷ 9 ∷ 10 ∷ 11 ∷ [])
unfolding understood everything
asks_carried = record {
  order = 1 ∷ 2 ∷ 3 ∷ 4 ∷ [];
  names = codes "month" ∷ codes "revision" ∷ codes "collector" ∷ codes "slot" ∷ codes "item" ∷ codes "last_month"
      ∷ codes "ticks" ∷ codes "knum" ∷ codes "kden" ∷ codes "observed" ∷ codes "imputed" ∷ [];
  command = refl;
  listing = refl;
  plain = (refl, refl);
  stored = λ _. refl;
}

-- carried prices, by release
abbrev pub carried_table : HeldTable Carried is_release
carried_table = record {
  tree = table_of_carried_2.tree;
  text = carried_text;
  shown = 1 ∷ 2 ∷ 3 ∷ 4 ∷ 5 ∷ 6 ∷ 7 ∷ 8 ∷ 9 ∷ 10 ∷ 11 ∷ [];
  after = carried_after;
  asks = asks_carried;
}

pub asks_level : AsksFor office_schema levels_text table_of_levels_2.tree is_release
    (1 ∷ 2 ∷ 3 ∷ 4 ∷ 5 ∷ 6 ∷ 7 ∷ 8 ∷ 9 ∷ 10 ∷ [])
unfolding understood everything
asks_level = record {
  order = 1 ∷ 2 ∷ 3 ∷ [];
  names = codes "month" ∷ codes "revision" ∷ codes "code" ∷ codes "title" ∷ codes "weight"
      ∷ codes "within" ∷ codes "chained" ∷ codes "month_change" ∷ codes "year_change" ∷ codes "imputed" ∷ [];
  command = refl;
  listing = refl;
  plain = (refl, refl);
  stored = λ _. refl;
}

-- rows of tables, by release
abbrev pub level_table : HeldTable Level is_release
level_table = record {
  tree = table_of_levels_2.tree;
  text = levels_text;
  shown = 1 ∷ 2 ∷ 3 ∷ 4 ∷ 5 ∷ 6 ∷ 7 ∷ 8 ∷ 9 ∷ 10 ∷ [];
  after = level_after;
  asks = asks_level;
}

pub asks_node : AsksFor office_schema nodes_text table_of_nodes.tree (is_first_parameter 1) (1 ∷ 2 ∷ 3 ∷ 4 ∷ [])
unfolding understood everything
asks_node = record {
  order = 1 ∷ 2 ∷ [];
  names = codes "year" ∷ codes "code" ∷ codes "title" ∷ codes "weight" ∷ [];
  command = refl;
  listing = refl;
  plain = (refl, refl);
  stored = λ _. refl;
}

-- nodes, by year
abbrev pub node_table : HeldTable Node (is_first_parameter 1)
node_table = record {
  tree = table_of_nodes.tree;
  text = nodes_text;
  shown = 1 ∷ 2 ∷ 3 ∷ 4 ∷ [];
  after = node_at;
  asks = asks_node;
}

pub asks_place : AsksFor office_schema places_text table_of_plan_items.tree (is_first_parameter 1) (1 ∷ 2 ∷ 3 ∷ [])
unfolding understood everything
asks_place = record {
  order = 1 ∷ 2 ∷ [];
  names = codes "year" ∷ codes "item" ∷ codes "code" ∷ [];
  command = refl;
  listing = refl;
  plain = (refl, refl);
  stored = λ _. refl;
}

-- places, by year
abbrev pub place_table : HeldTable Place (is_first_parameter 1)
place_table = record {
  tree = table_of_plan_items.tree;
  text = places_text;
  shown = 1 ∷ 2 ∷ 3 ∷ [];
  after = place_at;
  asks = asks_place;
}

pub asks_reference : AsksFor office_schema references_text table_of_plan_refs.tree (is_first_parameter 0) (0 ∷ 2 ∷ [])
unfolding understood everything
asks_reference = record {
  order = 0 ∷ 2 ∷ [];
  names = codes "year" ∷ codes "month" ∷ [];
  command = refl;
  listing = refl;
  plain = (refl, refl);
  stored = λ _. refl;
}

-- reference months, by year
abbrev pub reference_table : HeldTable ReferenceMonth (is_first_parameter 0)
reference_table = record {
  tree = table_of_plan_refs.tree;
  text = references_text;
  shown = 0 ∷ 2 ∷ [];
  after = reference_at;
  asks = asks_reference;
}
