-- An INSERT of rows whose columns are one after the other among its parameters.
use mathlib.Core.Bool.{true≢false}
use Rattle.std.proofs.Common.{◌≡◌, inl, inr, ℕ, zero, suc, ◌+◌, ◌*◌, ◌/◌, List, [], ◌∷◌, ◌++◌, length, map, take}
use Rattle.std.proofs.Common.{drop, get_or, slice_get, Some, Option, Result, refl, sym, ap, ap₂, subst, subst₂, ◌∙◌}
use Rattle.std.proofs.Common.{arith, ◌<◌, Ok, Err, OnOk, is_ok, if◌then◌else◌}
use Rattle.std.proofs.Common.{append_assoc, append-nil, zero-lt-suc, zero-mul, Bool, true, false, IsTrue}
use Rattle.std.proofs.Math.Nat.{mul-div_cancel}
use Rattle.std.proofs.Math.Seq.{get_or-append_seam}
use Rattle.std.proofs.lemmas.List.{length-append, map-append, take_more}
use Rattle.sqlite.specs.Cast.{cast_row}
use Rattle.sqlite.specs.Command.TheVariants.{Insert}
use Rattle.sqlite.specs.declared.types.Value.{Value}
use Rattle.sqlite.specs.declared.types.Value.TheVariants.{Null}
use Rattle.sqlite.specs.Edit.{are_fresh, numbered, put_all, with_rowid}
use Rattle.sqlite.specs.Effect.{value_rows}
use Rattle.sqlite.specs.Order.{Row}
use Rattle.sqlite.specs.Rowids.TheVariants.{Chosen}
use Rattle.sqlite.specs.Source.TheVariants.{Values}
use Rattle.sqlite.specs.State.{State}
use Rattle.sqlite.specs.Table.{Table}
use Rattle.sqlite.specs.Term.{Term, col, eval_all}
use Rattle.sqlite.specs.Tree.{put_row}
use Rattle.sqlite.specs.Values.{bound, bound_value}
use Rattle.sqlite_rules.specs.Lists.{Has}
use Rattle.sqlite_value.specs.declared.value.ValueRef.{ValueRef}
use Rattle.sqlite_value.specs.Value.{owned}
use Rattle.sqlite_rules.proofs.TableLemmas.{put_all_adds, put_all_has, put_all_keeps}
use Rattle.cpi_sql_rows.specs.Tables.{office_schema}
use Rattle.cpi_sql_rows.specs.Texts.{given_columns, given_rows}
use Rattle.cpi_sql_rows.proofs.TableRows.{Gives, adds_rows}
use Rattle.cpi_sql_rows.proofs.Texts.{Makes}
use Rattle.cpi_sql_rows.proofs.Writing.{as_plain}
use Rattle.cpi_sql_writes.specs.Columns.{AreColumns, AreColumnsOf, AreTextsOf, IsInsertOf, PutsColumns}
use Rattle.cpi_sql_writes.specs.Columns.{rows_at_once}
use Rattle.cpi_sql_writes.specs.Within.{AddsTo, Changes, RanStatement, Within}
use Rattle.cpi_sql_writes.proofs.TableSteps.{made_step}
use Rattle.cpi_sql_writes.proofs.Withins.{within_as}

-- ---- the terms

first_terms : (width from : ℕ) (rest : List Term)
    → take width (given_columns width from ++ rest) ≡ given_columns width from
first_terms zero from rest = refl
first_terms (suc width) from rest = ap (λ ts. col 0 from ∷ ts) (first_terms width (suc from) rest)

later_terms : (width from : ℕ) (rest : List Term) → drop width (given_columns width from ++ rest) ≡ rest
later_terms zero from rest = refl
later_terms (suc width) from rest = later_terms width (suc from) rest

columns_counted : (width from : ℕ) → length (given_columns width from) ≡ width
columns_counted zero from = refl
columns_counted (suc width) from = ap suc (columns_counted width (suc from))

rows_counted : (width count from : ℕ) → length (given_rows width count from) ≡ count * suc width
rows_counted width zero from = sym (zero-mul (suc width))
rows_counted width (suc count) from =
    ap suc (length-append (given_columns width from) (given_rows width count (from + width))
    ∙ ap₂ (λ (m n : ℕ). m + n) (columns_counted width from) (rows_counted width count (from + width)))
    ∙ omega arith

-- ---- the parameters

more_counted : {X : Type 0} (front : List X) (x : X) (from : ℕ) → length front ≡ from
    → length (front ++ x ∷ []) ≡ suc from
more_counted front x from is = length-append front (x ∷ []) ∙ omega (arith, is)

-- the columns from a place on
columns_read : (front columns back : Row) (from : ℕ) → length front ≡ from
    → eval_all (given_columns (length columns) from) ((front ++ (columns ++ back)) ∷ []) ≡ columns
columns_read front [] back from is = refl
columns_read front (v ∷ columns) back from is =
    ap₂ (λ (x : Value) (xs : Row). x ∷ xs)
    (subst (λ n. get_or (front ++ v ∷ (columns ++ back)) n Null ≡ v) is
    (get_or-append_seam front v (columns ++ back) Null))
    (subst (λ p. eval_all (given_columns (length columns) (suc from)) (p ∷ []) ≡ columns)
    (append_assoc front (v ∷ []) (columns ++ back))
    (columns_read (front ++ v ∷ []) columns back (suc from) (more_counted front v from is)))

module _ {X : Type 0} (it : Table) (entry : Row → Option (ℕ × X)) (GoesBy : ℕ → Type 0) where
  abbrev width : ℕ
  width = length it.columns

  -- the rows that the columns make
  abbrev sources : (xs : List X) (values : Row) → AreColumnsOf it entry GoesBy xs values → List Row
  sources [] values p = []
  sources (x ∷ xs) values p = (Null ∷ p.0) ∷ sources xs p.1 p.3

  rows_read : (xs : List X) (front values : Row) (from : ℕ) (p : AreColumnsOf it entry GoesBy xs values)
      → length front ≡ from
      → value_rows (front ++ values) (suc width) (length xs) (given_rows width (length xs) from) ≡ sources xs values p
  rows_read [] front values from p is = refl
  rows_read (x ∷ xs) front values from p is =
      let rest = given_rows width (length xs) (from + width) in
      let params : front ++ values ≡ front ++ (p.0 ++ p.1) = ap (λ v. front ++ v) p.4 in
      let read : eval_all (take width (given_columns width from ++ rest)) ((front ++ values) ∷ []) ≡ p.0 =
      ap₂ (λ (ts : List Term) (v : Row). eval_all ts (v ∷ [])) (first_terms width from rest) params
      ∙ subst (λ n. eval_all (given_columns n from) ((front ++ (p.0 ++ p.1)) ∷ []) ≡ p.0) p.2.width
      (columns_read front p.0 p.1 from is) in
      let counted : length (front ++ p.0) ≡ from + width =
      length-append front p.0 ∙ ap₂ (λ (m n : ℕ). m + n) is p.2.width in
      let later : value_rows (front ++ values) (suc width) (length xs) (drop width (given_columns width from ++ rest))
      ≡ sources xs p.1 p.3 =
      ap₂ (λ (ts : List Term) (v : Row). value_rows v (suc width) (length xs) ts) (later_terms width from rest)
      (params ∙ sym (append_assoc front p.0 p.1))
      ∙ rows_read xs (front ++ p.0) p.1 (from + width) p.3 counted in
      ap₂ (λ (r : Row) (rs : List Row). (Null ∷ r) ∷ rs) read later

  -- the columns of more rows after them
  pub columns_then : (xs ys : List X) (values more : Row) → AreColumnsOf it entry GoesBy xs values
      → AreColumnsOf it entry GoesBy ys more → AreColumnsOf it entry GoesBy (xs ++ ys) (values ++ more)
  columns_then [] ys values more p q = subst (λ v. AreColumnsOf it entry GoesBy ys (v ++ more)) (sym p) q
  columns_then (x ∷ xs) ys values more p q = (
    p.0,
    p.1 ++ more,
    p.2,
    columns_then xs ys p.1 more p.3 q,
    ap (λ v. v ++ more) p.4 ∙ append_assoc p.0 p.1 more,
  )

  -- columns that were added at the end, unless memory was refused
  pub columns_put : {A B D E : Type 0} (x : X) (old added new : List ValueRef) (made : Result A D) (result : Result B E)
      → new ≡ (if is_ok made then old ++ added else old) → is_ok result ≡ is_ok made
      → AreColumns it entry GoesBy x (bound added)
      → OnOk result (PutsColumns it entry GoesBy x (bound old) (bound new))
  columns_put x old added new (Ok a) (Ok b) items same are =
      (bound added, are, ap bound items ∙ map-append (λ v. bound_value (owned v)) old added)
  columns_put x old added new (Err d) (Ok b) items same are = absurd (true≢false same)
  columns_put x old added new made (Err e) items same are = tt

  -- columns that were added in two parts, unless memory was refused
  pub parts_put : {A B D E F G : Type 0} (x : X) (old first mid rest new : List ValueRef) (made_first : Result A D)
      (made : Result B E) (result : Result F G)
      → mid ≡ (if is_ok made_first then old ++ first else old) → true ≡ is_ok made_first
      → new ≡ (if is_ok made then mid ++ rest else mid) → is_ok result ≡ is_ok made
      → AreColumns it entry GoesBy x (bound first ++ bound rest)
      → OnOk result (PutsColumns it entry GoesBy x (bound old) (bound new))
  parts_put x old first mid rest new (Ok a) (Ok b) (Ok e) front done items same are = (
    bound first ++ bound rest,
    are,
    ap bound items ∙ map-append (λ v. bound_value (owned v)) mid rest
        ∙ ap (λ b. b ++ bound rest) (ap bound front ∙ map-append (λ v. bound_value (owned v)) old first)
        ∙ append_assoc (bound old) (bound first) (bound rest),
  )
  parts_put x old first mid rest new (Ok a) (Err d) (Ok e) front done items same are = absurd (true≢false same)
  parts_put x old first mid rest new (Err d) made (Ok e) front done items same are = absurd (true≢false done)
  parts_put x old first mid rest new made_first made (Err e) front done items same are = tt

  -- the columns of one row more
  pub columns_more : (rows : List X) (i : ℕ) (d : X) (all new : Row) → i < length rows
      → AreColumnsOf it entry GoesBy (take i rows) all → PutsColumns it entry GoesBy (get_or rows i d) all new
      → AreColumnsOf it entry GoesBy (take (i + 1) rows) new
  columns_more rows i d all new low p put =
      subst₂ (AreColumnsOf it entry GoesBy) (sym (take_more rows i d low)) (sym put.2)
      (columns_then (take i rows) (get_or rows i d ∷ []) all put.0 p
      (put.0, [], put.1, refl, sym (append-nil put.0)))

  -- ---- the rows that they become

  -- each row stands for the one at its place
  abbrev Stand : List X → List Row → Type 0
  Stand [] news = news ≡ []
  Stand (x ∷ xs) news = (row : Row) × (more : List Row)
      × ((number : ℕ) → GoesBy number → entry row ≡ Some (number, x)) × Stand xs more × (news ≡ row ∷ more)

  numbered_stand : (xs : List X) (values : Row) (p : AreColumnsOf it entry GoesBy xs values) (rows : List Row)
      → Stand xs (numbered Chosen rows (map (λ s. cast_row (as_plain it) (drop 0 s)) (sources xs values p)))
  numbered_stand [] values p rows = refl
  numbered_stand (x ∷ xs) values p rows =
      let new = with_rowid Chosen rows (cast_row (as_plain it) (Null ∷ p.0)) in (
        new,
        numbered Chosen (put_row new rows) (map (λ s. cast_row (as_plain it) (drop 0 s)) (sources xs p.1 p.3)),
        λ number named. subst (λ row. entry (with_rowid Chosen rows row) ≡ Some (number, x)) (sym p.2.taken)
            (p.2.stand _ number named),
        numbered_stand xs p.1 p.3 (put_row new rows),
        refl,
      )

  each_stands : (xs : List X) (news : List Row) → Stand xs news → (r : Row) → Has news r
      → (x : X) × Has xs x × ((number : ℕ) → GoesBy number → entry r ≡ Some (number, x))
  each_stands [] news p r h = absurd (subst (λ l. Has l r) p h)
  each_stands (x ∷ xs) news p r h = elim (subst (λ l. Has l r) p.4 h) [
    | inl same ↦ (x, inl refl, λ number named. ap entry same ∙ p.2 number named)
    | inr more ↦ let it = each_stands xs p.1 p.3 r more in (it.0, inr it.1, it.2)
  ]

  each_there : (xs : List X) (news : List Row) → Stand xs news → (x : X) → Has xs x
      → (r : Row) × Has news r × ((number : ℕ) → GoesBy number → entry r ≡ Some (number, x))
  each_there [] news p x h = absurd h
  each_there (y ∷ xs) news p x (inl same) = (
    p.0,
    subst (λ l. Has l p.0) (sym p.4) (inl refl),
    λ number named. p.2 number named ∙ ap (λ z. Some (number, z)) (sym same),
  )
  each_there (y ∷ xs) news p x (inr more) =
      let it = each_there xs p.1 p.3 x more in (it.0, subst (λ l. Has l it.0) (sym p.4) (inr it.1), it.2)

  added_all : (xs : List X) (news old new : List Row) → Stand xs news → new ≡ put_all old news
      → are_fresh old news ≡ true → AddsTo entry GoesBy xs old new
  added_all xs news old new stand rows fresh = λ number named. record {
    others = λ r h. elim (put_all_has news old r (subst (λ l. Has l r) rows h)) [
      | inl added ↦ let it = each_stands xs news stand r added in inr (it.0, it.1, it.2 number named)
      | inr was ↦ inl was
    ];
    kept = λ r h. subst (λ l. Has l r) (sym rows) (put_all_keeps news old r fresh h);
    there = λ x h.
        let it = each_there xs news stand x h in
        (it.0, subst (λ l. Has l it.0) (sym rows) (put_all_adds news old it.0 fresh it.1), it.2 number named);
  }

  module _ (at : ℕ) (stands : slice_get office_schema.tables at ≡ Some (as_plain it)) (count : ℕ) where
    abbrev terms : List Term
    terms = given_rows width count 0

    gives_rows : (values : Row) (xs : List X) (p : AreColumnsOf it entry GoesBy xs values) → length xs ≡ count
        → Gives it values (Values terms (suc width)) (sources xs values p)
    gives_rows values xs p counted limit db rows given =
        let rows_in : length terms / suc width ≡ length xs =
        ap (λ n. n / suc width) (rows_counted width count 0) ∙ mul-div_cancel count (zero-lt-suc width) ∙ sym counted in
        given.1 ∙ ap₂ (λ (v : Row) (n : ℕ). value_rows v (suc width) n terms) (append-nil values) rows_in
        ∙ ap (λ n. value_rows values (suc width) (length xs) (given_rows width n 0)) (sym counted)
        ∙ rows_read xs [] values 0 p refl

    -- where the statement was run
    rows_added : (text : List ℕ) (values : Row) (old new : State) → Makes text (Insert at (Values terms (suc width)))
        → IsTrue old.in_transaction → RanStatement text values old new
        → (xs : List X) → length xs ≡ count → AreColumnsOf it entry GoesBy xs values
        → Changes it.tree (AddsTo entry GoesBy xs) old new
    rows_added text values old new is inside run xs counted p =
        let gives = gives_rows values xs p counted in
        let from = Values terms (suc width) in
        made_step it.tree text values _ (adds_rows it at stands values from (sources xs values p) gives text is)
        (AddsTo entry GoesBy xs) old new (λ ids added. record {
          schema = added.schema;
          rows = added_all xs _ (old.now.trees it.tree) (new.now.trees it.tree)
              (numbered_stand xs values p (old.now.trees it.tree)) added.rows added.fresh;
          rowids = added.rowids ids;
          others = added.others;
        }) inside run

-- the statement of one row, or of thirty-two, of a table
module _ (it : Table) (at : ℕ) (stands : slice_get office_schema.tables at ≡ Some (as_plain it))
    (one_text many_text : List ℕ)
    (makes_one : Makes one_text (Insert at (Values (given_rows (length it.columns) 1 0) (suc (length it.columns)))))
    (makes_many : Makes many_text (Insert at (Values (given_rows (length it.columns) 32 0) (suc (length it.columns)))))
    (many : Bool) where
  pub many_inserted : many ≡ true → IsInsertOf it (rows_at_once many) many_text
  many_inserted is = subst (λ b. IsInsertOf it (rows_at_once b) many_text) (sym is)
      (at, stands, makes_many.0, makes_many.1)

  pub one_inserted : many ≡ false → IsInsertOf it (rows_at_once many) one_text
  one_inserted is = subst (λ b. IsInsertOf it (rows_at_once b) one_text) (sym is)
      (at, stands, makes_one.0, makes_one.1)

-- the rows of a holder are added by the statement that has their columns as its parameters
pub added_for : {X A E : Type 0} (it : Table) (entry : Row → Option (ℕ × X)) (GoesBy : ℕ → Type 0) (count : ℕ)
    (text : List ℕ) (values : Row) (xs : List X) → length xs ≡ count → AreColumnsOf it entry GoesBy xs values
    → IsInsertOf it count text → (old new : State) (result : Result A E)
    → Within old new result (RanStatement text values)
    → Within old new result (Changes it.tree (AddsTo entry GoesBy xs))
added_for it entry GoesBy count text values xs counted are is old new result ran =
    within_as old new result (RanStatement text values) (Changes it.tree (AddsTo entry GoesBy xs)) ran
    (λ inside run. rows_added it entry GoesBy is.0 is.1 count text values old new (is.2, is.3) inside run xs counted are)

-- ---- the texts of the rows

module _ {X T : Type 0} (Spells : X → T → Type 0) where
  texts_then : (xs ys : List X) (all more : List T) → AreTextsOf Spells xs all → AreTextsOf Spells ys more
      → AreTextsOf Spells (xs ++ ys) (all ++ more)
  texts_then [] ys all more p q = subst (λ ts. AreTextsOf Spells ys (ts ++ more)) (sym p) q
  texts_then (x ∷ xs) ys all more p q =
      (p.0, p.1 ++ more, p.2, texts_then xs ys p.1 more p.3 q, ap (λ ts. ts ++ more) p.4)

  -- the texts of one row more
  pub texts_more : (rows : List X) (i : ℕ) (x : X) (all : List T) (texts : T) (new : List T) → i < length rows
      → x ≡ get_or rows i x → new ≡ all ++ texts ∷ [] → AreTextsOf Spells (take i rows) all → Spells x texts
      → AreTextsOf Spells (take (i + 1) rows) new
  texts_more rows i x all texts new low at is p one =
      subst₂ (AreTextsOf Spells) (sym (take_more rows i x low ∙ ap (λ y. take i rows ++ y ∷ []) (sym at)))
      (sym is) (texts_then (take i rows) (x ∷ []) all (texts ∷ []) p (texts, [], one, refl, refl))

  pub texts_counted : (rows : List X) (all : List T) → AreTextsOf Spells rows all → length all ≡ length rows
  texts_counted [] all p = ap length p
  texts_counted (x ∷ xs) all p = ap length p.4 ∙ ap suc (texts_counted xs p.1 p.3)

  -- those of the row at a place
  pub texts_at : (rows : List X) (all : List T) (i : ℕ) (x : X) (t : T) → i < length rows → AreTextsOf Spells rows all
      → Spells (get_or rows i x) (get_or all i t)
  texts_at [] all i x t low p = absurd (omega arith)
  texts_at (y ∷ ys) all zero x t low p = subst (λ ts. Spells y (get_or ts 0 t)) (sym p.4) p.2
  texts_at (y ∷ ys) all (suc i) x t low p =
      subst (λ ts. Spells (get_or ys i x) (get_or ts (suc i) t)) (sym p.4)
      (texts_at ys p.1 i x t (omega arith) p.3)
