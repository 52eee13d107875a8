-- The columns that tell the key of what a row stands for: if they are UNIQUE, no two rows have one key.
use Rattle.std.proofs.Common.{◌≡◌, inl, inr, ℕ, ℤ, Bool, true, false, ◌&&◌, not, List, [], ◌∷◌, map, slice_get, Some}
use Rattle.std.proofs.Common.{Option, refl, sym, ap, ◌∙◌}
use Rattle.std.proofs.lemmas.Bool.{and_from, and_parts, both_ways, cases_Bool, not-true}
use Rattle.std.proofs.lemmas.Cmp.{int_ranked}
use Rattle.std.specs.Cmp.{tied_itself}
use Rattle.std.specs.List.{list_all}
use Rattle.std.specs.Ordering.{is_eq, is_ne}
use Rattle.std.specs.declared.cmp.Ordering.{Ordering}
use Rattle.std.specs.declared.cmp.Ordering.TheVariants.{Less, Equal, Greater}
use Rattle.sqlite.specs.Collation.TheVariants.{Binary}
use Rattle.sqlite.specs.Edit.{id_in}
use Rattle.sqlite.specs.Ops.{binary}
use Rattle.sqlite.specs.Order.{Row, column, value_cmp}
use Rattle.sqlite.specs.Table.{Table}
use Rattle.sqlite.specs.Tree.{Trees, rowid}
use Rattle.sqlite.specs.declared.types.Value.{Value}
use Rattle.sqlite.specs.declared.types.Value.TheVariants.{Null, Int, Real, Text, Blob}
use Rattle.sqlite_rules.proofs.ListLemmas.{has_got, some_from}
use Rattle.sqlite_rules.proofs.RuleLemmas.{keeps_at}
use Rattle.sqlite_rules.proofs.TableLemmas.{int_is}
use Rattle.sqlite_rules.specs.Lists.{Has}
use Rattle.sqlite_schema.specs.Rules.{Keeps, agree, clashes, differ, equal, passes}
use Rattle.sqlite_schema.specs.declared.schema.Constraint.TheVariants.{Unique}
use Rattle.sqlite_trees.specs.View.{is_int}
use Rattle.sqlite_value.proofs.OrderLemmas.{value_cmp-Int, value_cmp_total}
use Rattle.sqlite_value.specs.Keys.{first_key, plain}
use Rattle.cpi_rows.proofs.Truth.{equal_of_is_eq}
use Rattle.cpi_sql_rows.proofs.Lists.{some_is}
use Rattle.cpi_sql_rows.proofs.Reading.{and_true, equality, text_equality, true_of}
use Rattle.cpi_sql_rows.specs.Shelf.{HasRowids, IsKeyed, equals}
use Rattle.cpi_sql_rows.specs.Tables.{office_schema}

-- ---- rows that agree in some columns

-- a number or a text, which only its own value equals
abbrev pub is_exact : Value → Bool
is_exact (Int n) = true
is_exact (Text t) = true
is_exact Null = false
is_exact (Real x) = false
is_exact (Blob b) = false

pub int_exact : (v : Value) → is_int v ≡ true → is_exact v ≡ true
int_exact (Int n) e = refl
int_exact _ e = cc

pub equal_exact : (v w : Value) → is_exact w ≡ true → equal Binary v w ≡ equals v w
equal_exact v (Int n) e = sym (and_true _) ∙ equality v n
equal_exact v (Text t) e = sym (and_true _) ∙ text_equality v t
equal_exact v _ e = cc

-- numbers that are equal are the same
pub same_int : (v w : Value) → is_int v ≡ true → is_int w ≡ true → equals v w ≡ true → v ≡ w
same_int (Int a) (Int b) p q h = ap Int (int_ranked a b Equal (sym (equal_of_is_eq _ h) ∙ value_cmp-Int a b))
same_int (Int a) _ p q h = cc
same_int _ w p q h = cc

-- rows with the same values agree
pub agree_same : (places : List ℕ) (r s : Row) → map (column r) places ≡ map (column s) places
    → list_all is_exact (map (column s) places) ≡ true → agree plain places r places s ≡ true
unfolding first_key
agree_same [] r s same exact = refl
agree_same (p ∷ ps) r s same exact =
    let parts = and_parts _ _ exact in
    let here : column r p ≡ column s p = cc in
    let rest : map (column r) ps ≡ map (column s) ps = cc in
    and_from _ _ (equal_exact (column r p) (column s p) parts.0 ∙ ap (λ v. equals v (column s p)) here
    ∙ ap is_eq (tied_itself value_cmp_total (column s p))) (agree_same ps r s rest parts.1)

-- rows of numbers that agree have the same
pub same_agreed : (places : List ℕ) (r s : Row) → list_all is_int (map (column r) places) ≡ true
    → list_all is_int (map (column s) places) ≡ true → agree plain places r places s ≡ true
    → map (column r) places ≡ map (column s) places
unfolding first_key
same_agreed [] r s m n h = refl
same_agreed (p ∷ ps) r s m n h =
    let a = and_parts _ _ m in
    let b = and_parts _ _ n in
    let c = and_parts _ _ h in
    let here : column r p ≡ column s p = same_int (column r p) (column s p) a.0 b.0
    (sym (equal_exact (column r p) (column s p) (int_exact _ b.0)) ∙ c.0) in
    let rest = same_agreed ps r s a.1 b.1 c.1 in
    λ i. here i ∷ rest i

-- whether a row agrees rests on the values in these columns
pub agree_by : (places : List ℕ) (r a b : Row) → map (column a) places ≡ map (column b) places
    → agree plain places r places a ≡ agree plain places r places b
unfolding first_key
agree_by [] r a b same = refl
agree_by (p ∷ ps) r a b same =
    let here : column a p ≡ column b p = cc in
    let rest : map (column a) ps ≡ map (column b) ps = cc in
    let more = agree_by ps r a b rest in
    λ i. equal Binary (column r p) (here i) && more i

-- ---- a table with UNIQUE columns

-- UNIQUE keeps two rows of the table apart in these columns, and nothing else is unique there
pub record IsUnique (table : Table) (places : List ℕ) : Type 0 where
  pub at : ℕ
  pub stands : slice_get office_schema.tables at ≡ Some table
  pub rule : (db : Trees) (row : Row) → passes Unique office_schema db table row
      ≡ (not (clashes plain places (db table.tree) row) && true)

unequal : (o : Ordering) → is_eq o ≡ false → is_ne o ≡ true
unequal Less h = refl
unequal Equal h = absurd cc
unequal Greater h = refl

differs : (v w : Value) → is_int v ≡ true → is_int w ≡ true → equals v w ≡ false → differ v w ≡ true
unfolding binary
differs (Int a) (Int b) p q h = true_of _ ∙ unequal _ h
differs (Int a) _ p q h = cc
differs _ w p q h = cc

module _ (table : Table) (places : List ℕ) (u : IsUnique table places) (db : Trees)
    (keeps : Keeps Unique office_schema db) (ids : HasRowids (db table.tree)) where
  -- rows that agree in them are one
  pub one_row : (r s : Row) → Has (db table.tree) r → Has (db table.tree) s → agree plain places r places s ≡ true
      → r ≡ s
  unfolding HasRowids
  one_row r s hr hs agreed =
      let rows = db table.tree in
      let listed = has_got office_schema.tables u.at table u.stands in
      let none : clashes plain places rows s ≡ false = not-true _ (sym (and_true _) ∙ sym (u.rule db s)
      ∙ keeps_at Unique office_schema db table s keeps listed hs) in
      elim (cases_Bool (equals (rowid r) (rowid s))) [
        | inl tie ↦ ids.1 r s hr hs (equal_of_is_eq _ tie)
        | inr other ↦ absurd (both_ways _ none (some_from
            (λ x. agree plain places x places s && differ (rowid x) (rowid s)) rows r hr
            (and_from _ _ agreed (differs (rowid r) (rowid s) (ids.0 r hr) (ids.0 s hs) other))))
      ]

-- rows whose rowids agree have one number
pub rowid_agreed : (r s : Row) (a b : ℤ) → rowid r ≡ Int a → rowid s ≡ Int b
    → agree plain (0 ∷ []) r (0 ∷ []) s ≡ true → a ≡ b
rowid_agreed r s a b e f agreed =
    let same = same_agreed (0 ∷ []) r s (and_from _ _ (ap is_int e) refl) (and_from _ _ (ap is_int f) refl) agreed in
    let level : rowid r ≡ rowid s = cc in
    let is : Int a ≡ Int b = sym e ∙ level ∙ f in
    cc

-- so a table has no two of one rowid
pub one_rowid : (rows : List Row) → HasRowids rows → (r s : Row) → Has rows r → Has rows s
    → agree plain (0 ∷ []) r (0 ∷ []) s ≡ true → r ≡ s
unfolding HasRowids
one_rowid rows ids r s hr hs agreed =
    let a = int_is (rowid r) (ids.0 r hr) in
    let b = int_is (rowid s) (ids.0 s hs) in
    let level = a ∙ ap Int (rowid_agreed r s (id_in (rowid r)) (id_in (rowid s)) a b agreed) ∙ sym b in
    ids.1 r s hr hs (ap (λ v. value_cmp v (rowid s)) level ∙ tied_itself value_cmp_total (rowid s))

-- ---- the key of what a row stands for

-- what a row has in these columns
pub record Told (places : List ℕ) (r : Row) : Type 0 where
  pub values : Row
  pub are : map (column r) places ≡ values
  pub exact : list_all is_exact values ≡ true

module _ {X K : Type 0} (R : K → K → Ordering) (key : X → K) (entry : Row → Option X) (places : List ℕ) where
  -- rows that stand for one key have the same there
  pub record Tells : Type 0 where
    pub told : (r : Row) (x : X) → entry r ≡ Some x → Told places r
    pub tied : (r s : Row) (x y : X) (e : entry r ≡ Some x) (f : entry s ≡ Some y) → R (key x) (key y) ≡ Equal
        → (told r x e).values ≡ (told s y f).values

  module _ (t : Tells) where
    pub tied_agree : (r s : Row) (x y : X) → entry r ≡ Some x → entry s ≡ Some y → R (key x) (key y) ≡ Equal
        → agree plain places r places s ≡ true
    tied_agree r s x y e f tie =
        let a = t.told r x e in
        let b = t.told s y f in
        agree_same places r s (a.are ∙ t.tied r s x y e f tie ∙ sym b.are) (ap (list_all is_exact) b.are ∙ b.exact)

    -- so UNIQUE leaves no two rows of one key
    pub keyed : (table : Table) → IsUnique table places → (db : Trees) → Keeps Unique office_schema db
        → HasRowids (db table.tree) → IsKeyed R key entry (db table.tree)
    unfolding IsKeyed
    keyed table u db keeps ids r s x y hr hs er es tie =
        let same : r ≡ s = one_row table places u db keeps ids r s hr hs (tied_agree r s x y er es tie) in
        some_is (sym er ∙ ap entry same ∙ es)
