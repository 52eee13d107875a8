-- The tables of the plans that were found: no two rows have one year and one code or item.
use Rattle.std.proofs.Common.{◌≡◌, ℕ, pos, List, [], ◌∷◌, Some}
use Rattle.std.proofs.Common.{IfSome, refl, sym, ap, subst, ◌∙◌}
use Rattle.std.specs.declared.cmp.Ordering.TheVariants.{Equal}
use Rattle.std.specs.Ordering.{nat_cmp}
use Rattle.sqlite.specs.declared.types.Value.{Value}
use Rattle.sqlite.specs.declared.types.Value.TheVariants.{Null, Int, Real, Text, Blob}
use Rattle.sqlite.specs.Order.{Row, column}
use Rattle.sqlite.specs.Tree.{Trees}
use Rattle.sqlite_catalog.specs.Listing.{IsSound}
use Rattle.sqlite_schema.specs.declared.schema.Constraint.TheVariants.{Unique}
use Rattle.cpi_codes.specs.CodeOf.{spelled_code}
use Rattle.cpi_codes.specs.CodeOrder.{code_cmp}
use Rattle.cpi_codes.specs.CodeText.{code_text}
use Rattle.cpi_codes.specs.ItemCode.{item_code_of}
use Rattle.cpi_codes.specs.declared.codes.Code.{Code}
use Rattle.cpi_codes.proofs.CodeIs.{same_code_is}
use Rattle.cpi_codes.proofs.ItemOrder.{codes_are_one}
use Rattle.cpi_rows.specs.Held.{held_cmp, held_key}
use Rattle.cpi_rows.proofs.Truth.{equal_of_order, then_first, then_second}
use Rattle.cpi_codes.proofs.CodeRead.{part_same}
use Rattle.cpi_codes.proofs.CodeOf.{spelled_has_text}
use Rattle.cpi_plan.specs.declared.plan_rows.Node.{Node}
use Rattle.cpi_plan.specs.declared.plan_rows.Place.{Place}
use Rattle.cpi_sql_rows.specs.Tables.{office_schema, table_of_nodes, table_of_plan_items}
use Rattle.cpi_sql_rows.specs.Lists.{number_within, text_in, number_in_value, name_from, code_from, item_from}
use Rattle.cpi_sql_rows.specs.Lists.{node_from, place_from, node_in, place_in_row, reference_month_in_row}
use Rattle.cpi_sql_rows.specs.Shelf.{IsKeyed, HasRowids}
use Rattle.cpi_sql_rows.proofs.KeyColumns.{Tells, keyed}
use Rattle.cpi_sql_rows.proofs.Lists.{bound_is, held_tied, ranged_is, some_is}

-- ---- texts

pub text_is : (v : Value) (t : List ℕ) → text_in v ≡ Some t → v ≡ Text t
text_is (Text u) t e = ap Text (some_is e)
text_is (Int n) t e = cc
text_is Null t e = cc
text_is (Real x) t e = cc
text_is (Blob b) t e = cc

-- ---- two codes that are level are one, and so are two texts of one code

pub one_code : (c d : Code) → code_cmp c d ≡ Equal → c ≡ d
one_code c d e =
    let group = then_second _ _ e in
    let class = then_second _ _ group in
    let sub = then_second _ _ class in
    same_code_is c d (equal_of_order c.division d.division (then_first _ _ e))
    (part_same c.group d.group (then_first _ _ group)) (part_same c.class d.class (then_first _ _ class))
    (part_same c.subclass d.subclass (then_first _ _ sub)) (part_same c.aggregate d.aggregate (then_second _ _ sub))

code_written : (bytes : List ℕ) (c : Code) → spelled_code bytes ≡ Some c → code_text c ≡ bytes
code_written bytes c e = subst (λ o. IfSome o (λ (x : Code). code_text x ≡ bytes)) e (spelled_has_text bytes)

-- the column has the code's text
pub code_column : (v : Value) (c : Code) → code_from v ≡ Some c → v ≡ Text (code_text c)
code_column v c e =
    let it = bound_is (text_in v) spelled_code c e in
    text_is v it.0 it.1 ∙ ap Text (sym (code_written it.0 c it.2))

-- ---- rows that are read

record HasCode (r : Row) (year : ℕ) (n : Node) : Type 0 where
  pub year_is : column r 1 ≡ Int (pos year)
  pub code_is : column r 2 ≡ Text (code_text n.code)

node_parts : (r : Row) (year : ℕ) (n : Node) → node_in r ≡ Some (year, n) → HasCode r year n
node_parts r year n e =
    let one = bound_is (number_within 2000 2199 (column r 1)) _ _ e in
    let two = bound_is (node_from (column r 2) (column r 3) (column r 4)) _ _ one.2 in
    let pair : ◌≡◌ {A = ℕ × Node} (one.0, two.0) (year, n) = some_is two.2 in
    let three = bound_is (code_from (column r 2)) _ _ two.1 in
    let four = bound_is (name_from (column r 3)) _ _ three.2 in
    let five = bound_is (number_in_value (column r 4)) _ _ four.2 in
    let made : record { code = three.0; title = four.0; weight = five.0 } ≡ two.0 = some_is five.2 in
    let code : three.0 ≡ n.code = ap (λ (w : Node). w.code) made ∙ ap (λ (p : ℕ × Node). p.1.code) pair in
    record {
      year_is = ranged_is 2000 2199 (column r 1) year (one.1 ∙ ap (λ (p : ℕ × Node). Some p.0) pair);
      code_is = code_column (column r 2) three.0 three.1 ∙ ap (λ c. Text (code_text c)) code;
    }

record HasItem (r : Row) (year : ℕ) (p : Place) : Type 0 where
  pub year_is : column r 1 ≡ Int (pos year)
  pub bytes : List ℕ
  pub item_is : column r 2 ≡ Text bytes
  pub item : item_code_of bytes ≡ Some p.item

place_parts : (r : Row) (year : ℕ) (p : Place) → place_in_row r ≡ Some (year, p) → HasItem r year p
place_parts r year p e =
    let one = bound_is (number_within 2000 2199 (column r 1)) _ _ e in
    let two = bound_is (place_from (column r 2) (column r 3)) _ _ one.2 in
    let pair : ◌≡◌ {A = ℕ × Place} (one.0, two.0) (year, p) = some_is two.2 in
    let three = bound_is (item_from (column r 2)) _ _ two.1 in
    let four = bound_is (code_from (column r 3)) _ _ three.2 in
    let made : record { item = three.0; aggregate = four.0 } ≡ two.0 = some_is four.2 in
    let read = bound_is (text_in (column r 2)) item_code_of three.0 three.1 in
    let item : three.0 ≡ p.item = ap (λ (w : Place). w.item) made ∙ ap (λ (q : ℕ × Place). q.1.item) pair in
    record {
      year_is = ranged_is 2000 2199 (column r 1) year (one.1 ∙ ap (λ (q : ℕ × Place). Some q.0) pair);
      bytes = read.0;
      item_is = text_is (column r 2) read.0 read.1;
      item = read.2 ∙ ap (λ (i : ℕ). Some i) item;
    }

-- ---- the two tables

-- both are known by the year and the next column
abbrev year_places : List ℕ
year_places = 1 ∷ 2 ∷ []

node_tells : Tells (held_cmp code_cmp) (held_key (λ (n : Node). n.code)) node_in year_places
node_tells = record {
  told = λ r x e.
      let a = node_parts r x.0 x.1 e in
      record {
        values = Int (pos x.0) ∷ Text (code_text x.1.code) ∷ [];
        are = rw (a.year_is, a.code_is) refl;
        exact = refl;
      };
  tied = λ r s x y e f tie.
      let same = held_tied code_cmp (x.0, x.1.code) (y.0, y.1.code) tie in
      let code = one_code x.1.code y.1.code same.1 in
      λ i. Int (pos (same.0 i)) ∷ Text (code_text (code i)) ∷ [];
}

place_tells : Tells (held_cmp nat_cmp) (held_key (λ (p : Place). p.item)) place_in_row year_places
place_tells = record {
  told = λ r x e.
      let a = place_parts r x.0 x.1 e in
      record {
        values = Int (pos x.0) ∷ Text a.bytes ∷ [];
        are = rw (a.year_is, a.item_is) refl;
        exact = refl;
      };
  tied = λ r s x y e f tie.
      let a = place_parts r x.0 x.1 e in
      let b = place_parts s y.0 y.1 f in
      let same = held_tied nat_cmp (x.0, x.1.item) (y.0, y.1.item) tie in
      let item = equal_of_order x.1.item y.1.item same.1 in
      let bytes = codes_are_one y.1.item a.bytes b.bytes (a.item ∙ ap (λ (n : ℕ). Some n) item) b.item in
      λ i. Int (pos (same.0 i)) ∷ Text (bytes i) ∷ [];
}

module _ (db : Trees) (sound : IsSound office_schema db) where
  pub nodes_keyed : HasRowids (db 6) → IsKeyed (held_cmp code_cmp) (held_key (λ n. n.code)) node_in (db 6)
  nodes_keyed = keyed (held_cmp code_cmp) (held_key (λ (n : Node). n.code)) node_in year_places node_tells
      table_of_nodes
      (record { at = 4; stands = refl; rule = λ db row. refl }) db (sound.obeys.rules Unique)

  pub places_keyed : HasRowids (db 8) → IsKeyed (held_cmp nat_cmp) (held_key (λ p. p.item)) place_in_row (db 8)
  places_keyed = keyed (held_cmp nat_cmp) (held_key (λ (p : Place). p.item)) place_in_row year_places place_tells
      table_of_plan_items
      (record { at = 5; stands = refl; rule = λ db row. refl }) db (sound.obeys.rules Unique)

-- a year and a month are all that a row of a reference month says
pub references_keyed : (rows : List Row) → IsKeyed (held_cmp nat_cmp) (held_key (λ m. m.month))
    reference_month_in_row rows
unfolding IsKeyed
references_keyed rows r s x y hr hs er es tie =
    let same = held_tied nat_cmp (x.0, x.1.month) (y.0, y.1.month) tie in
    let month = equal_of_order x.1.month y.1.month same.1 in
    λ i. (same.0 i, record { month = month i })
