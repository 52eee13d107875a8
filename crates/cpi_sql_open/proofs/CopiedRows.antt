-- Rows that an INSERT takes from another table, into one that is empty.
use Rattle.std.proofs.Common.{◌≡◌, inl, inr, ℕ, suc, ◌+◌, ◌&&◌, Bool, true, false, List, [], ◌∷◌, ◌++◌, map, drop}
use Rattle.std.proofs.Common.{Option, if◌then◌else◌, IsTrue, Ordering, Less, Equal, Greater, true≢false, refl, sym}
use Rattle.std.proofs.Common.{ap, ap₂, subst, ◌∙◌, arith}
use Rattle.std.proofs.lemmas.Bool.{and_parts, not-true, or_parts}
use Rattle.std.proofs.lemmas.List.{append-nil}
use Rattle.std.proofs.lemmas.List.Sorted.{IsPermutation-append_comm, IsPermutation-append_left}
use Rattle.std.proofs.lemmas.List.Sorted.{IsPermutation-append_right, IsPermutation-cons, IsPermutation-map}
use Rattle.std.proofs.lemmas.List.Sorted.{IsPermutation-middle, IsPermutation-refl, IsPermutation-sym}
use Rattle.std.proofs.lemmas.List.Sorted.{IsPermutation-trans}
use Rattle.std.specs.List.{list_all}
use Rattle.std.specs.List.Sorted.{IsPermutation}
use Rattle.std.specs.Ordering.{is_eq, match_ordering}
use Rattle.sqlite.specs.declared.types.Value.{Value}
use Rattle.sqlite.specs.declared.types.Value.TheVariants.{Null, Int, Text}
use Rattle.sqlite.specs.Order.{Row, column, value_cmp}
use Rattle.sqlite.specs.Kind.{Kind}
use Rattle.sqlite.specs.Kind.TheVariants as kind
use Rattle.sqlite.specs.Cast.{cast, cast_all, cast_row}
use Rattle.sqlite.specs.Edit.{numbered, with_rowid, put_all, are_fresh, have_rowids, is_taken, next_rowid}
use Rattle.sqlite.specs.Rowids.TheVariants.{Chosen}
use Rattle.sqlite.specs.Table.{Table}
use Rattle.sqlite.specs.Term.{eval_all}
use Rattle.sqlite.specs.Tree.{put_row, rowid}
use Rattle.sqlite_schema.specs.declared.schema.Column.{Column}
use Rattle.sqlite_schema.specs.Names.{is_key}
use Rattle.sqlite_schema.specs.Rules.{is_of, are_typed, suits, has_affinity}
use Rattle.sqlite.specs.Ops.{is_null}
use Rattle.sqlite_rules.specs.Lists.{Has}
use Rattle.sqlite_trees.proofs.ListLemmas.{map-map}
use Rattle.sqlite_trees.specs.View.{is_int}
use Rattle.cpi_sql_rows.specs.Shelf.{HasRowids}
use Rattle.cpi_sql_rows.proofs.KeptRowids.{put_shaped}
use Rattle.cpi_sql_rows.proofs.Writing.{as_plain, cast_int, cast_null}
use Rattle.cpi_sql_open.proofs.Moves.{Move, table_at}

-- ---- what a strict column holds is what it makes of it

abbrev is_usual : Kind → Bool
is_usual kind.Integer = true
is_usual kind.Text = true
is_usual _ = false

same_cast : (k : Kind) (v : Value) → is_usual k ≡ true → is_of k v ≡ true → cast k v ≡ v
same_cast kind.Integer Null u e = cast_null
same_cast kind.Integer (Int n) u e = cast_int n
same_cast kind.Integer v u e = cc
same_cast kind.Text Null u e = refl
same_cast kind.Text (Text t) u e = refl
same_cast kind.Text v u e = cc
same_cast k v u e = cc

-- a column of an office's table
abbrev pub is_office_column : Column → Bool
is_office_column c = c.is_strict && is_usual c.kind

-- the columns of the row, from a place on, hold what their kinds make of it
abbrev pub Settled : List Column → ℕ → Row → Type 0
Settled [] n r = Unit {0}
Settled (c ∷ cs) n r = (cast c.kind (column r n) ≡ column r n) × Settled cs (n + 1) r

null_is : (v : Value) → is_null v ≡ true → v ≡ Null
null_is Null e = refl
null_is v e = cc

fits : (c : Column) (v : Value) → is_usual c.kind ≡ true → c.is_strict ≡ true → (b : Bool)
    → (if b then is_null v else suits c v) ≡ true → cast c.kind v ≡ v
fits c v kind strict true f = subst (λ w. cast c.kind w ≡ w) (sym (null_is v f)) (same_cast c.kind Null kind refl)
fits c v kind strict false f = same_cast c.kind v kind (typed c.is_strict strict f)
  where
    typed : (b : Bool) → b ≡ true → (if b then is_of c.kind v else has_affinity c.kind v) ≡ true
        → is_of c.kind v ≡ true
    typed true s g = g
    typed false s g = cc

settled : (key : Option ℕ) (at : ℕ) (cs : List Column) (vs : Row) (n : ℕ) (r : Row) →
    list_all is_office_column cs ≡ true
    → ((k : ℕ) → column r (n + k) ≡ column vs k) → are_typed key at cs vs ≡ true → Settled cs n r
settled key at [] vs n r usual same e = tt
settled key at (c ∷ cs) vs n r usual same e =
    let good = and_parts (is_office_column c) (list_all is_office_column cs) usual in
    let strict = and_parts c.is_strict (is_usual c.kind) good.0 in
    let cell = typed key at c cs vs strict.1 strict.0 e in
    let zeroth : n + 0 ≡ n = omega arith in
    let here : column r n ≡ column vs 0 = ap (column r) (sym zeroth) ∙ same 0 in
    let later : (k : ℕ) → column r (n + 1 + k) ≡ column (drop 1 vs) k = λ k.
    let next : n + 1 + k ≡ n + suc k = omega arith in ap (column r) next ∙ same (suc k) ∙ sym (dropped vs k) in (
      subst (λ v. cast c.kind v ≡ v) (sym here) cell.0,
      settled key (at + 1) cs (drop 1 vs) (n + 1) r good.1 later cell.1,
    )
  where
    dropped : (vs : Row) (k : ℕ) → column (drop 1 vs) k ≡ column vs (suc k)
    dropped [] k = refl
    dropped (v ∷ vs) k = refl

    typed : (key : Option ℕ) (at : ℕ) (c : Column) (cs : List Column) (vs : Row) → is_usual c.kind ≡ true
        → c.is_strict ≡ true → are_typed key at (c ∷ cs) vs ≡ true
        → (cast c.kind (column vs 0) ≡ column vs 0) × (are_typed key (at + 1) cs (drop 1 vs) ≡ true)
    typed key at c cs [] kind strict e = (same_cast c.kind Null kind refl, (and_parts _ _ e).1)
    typed key at c cs (v ∷ vs) kind strict e =
        let parts = and_parts _ _ e in (fits c v kind strict (is_key key at) parts.0, parts.1)

-- the columns of a row of a table that was found
pub row_settled : (key : Option ℕ) (cs : List Column) (r : Row) → list_all is_office_column cs ≡ true
    → are_typed key 0 cs (drop 1 r) ≡ true → Settled cs 1 r
row_settled key cs r usual e = settled key 0 cs (drop 1 r) 1 r usual (λ k. behind r k) e
  where
    behind : (r : Row) (k : ℕ) → column r (1 + k) ≡ column (drop 1 r) k
    behind [] k = refl
    behind (x ∷ r) k = let next : 1 + k ≡ suc k = omega arith in ap (column (x ∷ r)) next

-- ---- rows that are cast to themselves

abbrev pub IsCast : List Column → Row → Type 0
IsCast [] vs = Unit {0}
IsCast (c ∷ cs) [] = Unit {0}
IsCast (c ∷ cs) (v ∷ vs) = (cast c.kind v ≡ v) × IsCast cs vs

pub same_cells : (cs : List Column) (vs : Row) → IsCast cs vs → cast_all cs vs ≡ vs
same_cells [] vs h = refl
same_cells (c ∷ cs) [] h = refl
same_cells (c ∷ cs) (v ∷ vs) h = ap₂ ◌∷◌ h.0 (same_cells cs vs h.1)

pub same_row : (t : Table) (vs : Row) → IsCast t.columns vs → cast_row t (Null ∷ vs) ≡ Null ∷ vs
same_row t vs h = ap₂ ◌∷◌ cast_null (same_cells t.columns vs h)

-- ---- rowids are chosen

-- after its rowid a row is as it was before the rowid was chosen
chosen_contents : (rows before : List Row) → map (drop 1) (numbered Chosen before rows) ≡ map (drop 1) rows
chosen_contents [] before = refl
chosen_contents (r ∷ rows) before =
    ap₂ ◌∷◌ (one (is_null (rowid r))) (chosen_contents rows (put_row (with_rowid Chosen before r) before))
  where
    one : (b : Bool) → drop 1 (if b then Int (next_rowid before) ∷ drop 1 r else r) ≡ drop 1 r
    one true = refl
    one false = refl

-- a row that is put at a free rowid is one more
put_more : (new : Row) (rows : List Row) → is_taken rows new ≡ false → IsPermutation (new ∷ rows) (put_row new rows)
put_more new [] free = IsPermutation-refl (new ∷ [])
put_more new (r ∷ rows) free =
    let parts = or_parts _ _ free in
    at_this_order (value_cmp (rowid r) (rowid new)) parts.0 (put_more new rows parts.1)
  where
    at_this_order : (o : Ordering) → is_eq o ≡ false → IsPermutation (new ∷ rows) (put_row new rows)
        → IsPermutation (new ∷ r ∷ rows) (match_ordering o (r ∷ put_row new rows) (new ∷ rows) (new ∷ r ∷ rows))
    at_this_order Less other later = IsPermutation-trans _ _ _
        (IsPermutation-append_left rows (new ∷ r ∷ []) (r ∷ new ∷ [])
        (IsPermutation-append_comm (new ∷ []) (r ∷ []))) (IsPermutation-cons r _ _ later)
    at_this_order Equal other later = absurd (true≢false other)
    at_this_order Greater other later = IsPermutation-refl _

-- and so are rows at rowids that are free in turn
put_all_more : (news rows : List Row) → are_fresh rows news ≡ true → IsPermutation (news ++ rows) (put_all rows news)
put_all_more [] rows fresh = IsPermutation-refl rows
put_all_more (n ∷ news) rows fresh =
    let parts = and_parts _ _ fresh in
    IsPermutation-trans _ _ _ (IsPermutation-trans _ _ _ (IsPermutation-sym _ _ (IsPermutation-middle news n rows))
    (IsPermutation-append_right news _ _ (put_more n rows (not-true _ parts.0))))
    (put_all_more news (put_row n rows) parts.1)

-- ---- the copies of the rows of a table

-- the columns of the copy of a row
abbrev pub cells_of : Move → Row → Row
cells_of m r = eval_all m.cells ([] ∷ r ∷ [])

-- the copies of these rows, put after others
abbrev pub copies_of : Move → List Row → List Row → List Row
copies_of m before sources =
    numbered Chosen before (map (λ s. cast_row (as_plain (table_at (m.at + 6))) (drop 0 s)) sources)

-- each row is copied once into the new table, with a rowid that was chosen; those of the old one are as their kinds
-- have them
pub record Copied (m : Move) (old new : List Row) : Type 0 where
  pub sources : List Row
  pub each : IsPermutation (map (λ r. Null ∷ cells_of m r) old) sources
  pub rows : new ≡ put_all [] (copies_of m [] sources)
  pub keyed : have_rowids (copies_of m [] sources) ≡ true
  pub fresh : are_fresh [] (copies_of m [] sources) ≡ true
  pub settled : (r : Row) → Has old r → Settled (table_at m.at).columns 1 r

pub no_rowids : HasRowids []
unfolding HasRowids
no_rowids = (λ r h. absurd h, λ r s h k tie. absurd h)

pub copied_rowids : (m : Move) (old new : List Row) → Copied m old new → HasRowids new
copied_rowids m old new it = subst HasRowids (sym it.rows) (put_shaped _ [] no_rowids it.keyed it.fresh)

-- the new table takes the columns of a copy as they are
abbrev pub Fits : Move → Type 0
Fits m = (r : Row) → IsTrue (is_int (rowid r)) → Settled (table_at m.at).columns 1 r
    → IsCast (table_at (m.at + 6)).columns (cells_of m r)

map_on : {X Y : Type 0} (f g : X → Y) (xs : List X) → ((x : X) → Has xs x → f x ≡ g x) → map f xs ≡ map g xs
map_on f g [] same = refl
map_on f g (x ∷ xs) same = ap₂ ◌∷◌ (same x (inl refl)) (map_on f g xs (λ y h. same y (inr h)))

module _ (m : Move) (fits : Fits m) (old new : List Row) (it : Copied m old new)
    (ids : (r : Row) → Has old r → IsTrue (is_int (rowid r))) where
  -- a copy as the new table has it
  abbrev made : Row → Row
  made s = cast_row (as_plain (table_at (m.at + 6))) (drop 0 s)

  made_contents : (r : Row) → Has old r → drop 1 (made (Null ∷ cells_of m r)) ≡ cells_of m r
  made_contents r h = ap (drop 1)
      (same_row (as_plain (table_at (m.at + 6))) (cells_of m r) (fits r (ids r h) (it.settled r h)))

  -- so the new table holds the copies, one of each row
  pub each_copied : IsPermutation (map (cells_of m) old) (map (drop 1) new)
  each_copied =
      let copies = copies_of m [] it.sources in
      let first : map (λ s. drop 1 (made s)) (map (λ r. Null ∷ cells_of m r) old) ≡ map (cells_of m) old =
      map-map (λ s. drop 1 (made s)) (λ r. Null ∷ cells_of m r) old ∙ map_on _ _ old made_contents in
      let last : map (λ s. drop 1 (made s)) it.sources ≡ map (drop 1) copies =
      sym (map-map (drop 1) made it.sources) ∙ sym (chosen_contents (map made it.sources) []) in
      let put : IsPermutation copies new = subst (IsPermutation copies) (sym it.rows)
      (subst (λ l. IsPermutation l (put_all [] copies)) (append-nil copies) (put_all_more copies [] it.fresh)) in
      IsPermutation-trans _ _ _
      (subst (λ l. IsPermutation l (map (drop 1) copies)) first
      (subst (IsPermutation (map (λ s. drop 1 (made s)) (map (λ r. Null ∷ cells_of m r) old))) last
      (IsPermutation-map (λ s. drop 1 (made s)) _ _ it.each))) (IsPermutation-map (drop 1) copies new put)
