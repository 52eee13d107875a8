-- A statement that puts one row over another: it takes the place of the row that has its key, or else goes in.
use Rattle.std.proofs.Common.{◌≡◌, ◌⊎◌, inl, inr, ℕ, ℤ, Bool, true, false, ◌||◌, List, [], ◌∷◌, ◌++◌, map, drop}
use Rattle.std.proofs.Common.{slice_get, Some, None, Option, Ok, refl, sym, ap, subst, ◌∙◌}
use Rattle.std.proofs.lemmas.Bool.{both_ways, cases_Bool, false_from_ne_true}
use Rattle.std.specs.Cmp.{IsTotalOrder, tied_itself}
use Rattle.std.specs.List.{list_all}
use Rattle.std.specs.Ordering.{is_eq}
use Rattle.std.specs.declared.cmp.Ordering.{Ordering}
use Rattle.std.specs.declared.cmp.Ordering.TheVariants.{Equal}
use Rattle.sqlite.proofs.Callers.{one_step}
use Rattle.sqlite.specs.Cast.{cast, cast_row}
use Rattle.sqlite.specs.Command.TheVariants.{InsertOr}
use Rattle.sqlite.specs.Does.{Tally, OnRows}
use Rattle.sqlite.specs.Edit.{id_in, edit_of, edited, with_rowid, without_all, Applies}
use Rattle.sqlite.specs.Effect.{Database, Answers}
use Rattle.sqlite.specs.Kind.TheVariants.{Integer}
use Rattle.sqlite.specs.Order.{Row, column}
use Rattle.sqlite.specs.Program.{overlay}
use Rattle.sqlite.specs.Rowids.TheVariants.{Chosen, Given}
use Rattle.sqlite.specs.Rows.{shown}
use Rattle.sqlite.specs.Source.{Source}
use Rattle.sqlite.specs.State.{State, mode_of}
use Rattle.sqlite.specs.Table.{Table}
use Rattle.sqlite.specs.Term.{Term, eval_all, holds}
use Rattle.sqlite.specs.Tree.{Trees, has_rowid, rowid}
use Rattle.sqlite.specs.declared.types.Value.{Value}
use Rattle.sqlite.specs.declared.types.Value.TheVariants.{Null, Int}
use Rattle.sqlite_rules.proofs.PlaceLemmas.{given}
use Rattle.sqlite_rules.proofs.ProbeLemmas.{has_mapped, mapped_has}
use Rattle.sqlite_rules.proofs.TableLemmas.{int_is, put_all_adds, put_all_has, put_all_keeps}
use Rattle.sqlite_rules.specs.Calls.{ids_of}
use Rattle.sqlite_rules.specs.Keys.{conflicts}
use Rattle.sqlite_rules.specs.Lists.{Has}
use Rattle.sqlite_schema.specs.Rules.{Keeps, agree}
use Rattle.sqlite_schema.specs.declared.command.Conflict.TheVariants.{Abort}
use Rattle.sqlite_schema.specs.declared.program.Program.{Program}
use Rattle.sqlite_schema.specs.declared.schema.Constraint.TheVariants.{Unique}
use Rattle.sqlite_schema.specs.declared.schema.Keys.{Keys}
use Rattle.sqlite_schema.specs.declared.schema.Keys.TheVariants.{Enforced}
use Rattle.sqlite_trees.specs.View.{is_int}
use Rattle.sqlite_value.proofs.OrderLemmas.{value_cmp_total}
use Rattle.sqlite_value.specs.Keys.{plain}
use Rattle.cpi_sql_rows.proofs.Change.{IsChange, is_change}
use Rattle.cpi_sql_rows.proofs.KeptRowids.{same_rowid, shaped_after}
use Rattle.cpi_sql_rows.proofs.KeyColumns.{Tells, agree_by, same_agreed, same_int, tied_agree}
use Rattle.cpi_sql_rows.proofs.Listed.{PutsRow, takes_one}
use Rattle.cpi_sql_rows.proofs.Reading.{has_left, left_has, members}
use Rattle.cpi_sql_rows.proofs.TableRows.{GivesOne, no_work, on_table, task_on}
use Rattle.cpi_sql_rows.proofs.Texts.{Makes}
use Rattle.cpi_sql_rows.proofs.Unchanged.{others_same}
use Rattle.cpi_sql_rows.proofs.Writing as writing
use Rattle.cpi_sql_rows.proofs.Writing.{as_plain, cast_int, same_value, went}
use Rattle.cpi_sql_rows.specs.Shelf.{HasRowids, equals}
use Rattle.cpi_sql_rows.specs.Steps.{SameBut}
use Rattle.cpi_sql_rows.specs.Tables.{office_schema}
use Rattle.cpi_sql_rows.specs.Texts.{whole_query}

-- what is written: a value for the rowid, and the columns after it, some of which are the key
module _ (places : List ℕ) (first : Value) (columns : Row) where
  -- the row has the key, as SQL compares
  abbrev pub has_key : Row → Bool
  has_key r = agree plain places r places (first ∷ columns)

  -- with this rowid the columns have the key
  abbrev pub IsNamed : Value → Type 0
  IsNamed id = map (column (id ∷ columns)) places ≡ map (column (first ∷ columns)) places

  -- one row has the key and the columns, and each other row is as it was
  pub record PutsOver (old new : List Row) : Type 0 where
    pub id : Value
    pub named : IsNamed id
    pub there : Has new (id ∷ columns)
    pub others : (x : Row) → Has new x → (x ≡ id ∷ columns) ⊎ (Has old x × (has_key x ≡ false))
    pub kept : (x : Row) → Has old x → has_key x ≡ false → Has new x

  -- the row is there, and all other tables of the office are as they were
  pub record IsPutOver (tree : ℕ) (old : Trees) (after : Database) : Type 0 where
    pub schema : after.schema ≡ office_schema
    pub rows : PutsOver (old tree) (after.trees tree)
    pub rowids : HasRowids (after.trees tree)
    pub others : SameBut (tree ∷ []) old after.trees

  module _ {X K : Type 0} {R : K → K → Ordering} (o : IsTotalOrder R) (key : X → K) (entry : Row → Option X)
      (t : Tells R key entry places) where
    -- if numbers tell the key, the row is put for what it stands for
    pub puts_row : (x : X) → ((id : Value) → IsNamed id → entry (id ∷ columns) ≡ Some x)
        → ((r : Row) (y : X) (e : entry r ≡ Some y) → list_all is_int (t.told r y e).values ≡ true)
        → ((r s : Row) (y z : X) (e : entry r ≡ Some y) (f : entry s ≡ Some z)
        → (t.told r y e).values ≡ (t.told s z f).values → R (key y) (key z) ≡ Equal)
        → (old new : List Row) → PutsOver old new → PutsRow o key entry x old new
    puts_row x as_named numbers back old new p = record {
      row = p.id ∷ columns;
      there = p.there;
      is = as_named p.id p.named;
      others = λ r y h e. elim (p.others r h) [
        | inl same ↦ inl same
        | inr was ↦ inr (
          was.0,
          λ tie. both_ways _ was.1
              (tied_agree R key entry places t r (first ∷ columns) y x e (as_named first refl) tie),
        )
      ];
      kept = λ r y h e apart. p.kept r h (false_from_ne_true _ (λ hit.
          let is = as_named first refl in
          let a = t.told r y e in
          let b = t.told (first ∷ columns) x is in
          let same = same_agreed places r (first ∷ columns) (ap (list_all is_int) a.are ∙ numbers r y e)
          (ap (list_all is_int) b.are ∙ numbers (first ∷ columns) x is) hit in
          apart (back r (first ∷ columns) y x e is (sym a.are ∙ same ∙ b.are))));
      takes = takes_one entry x (p.id ∷ columns) old new (as_named p.id p.named) (λ r h. elim (p.others r h) [
        | inl same ↦ inl same
        | inr was ↦ inr was.0
      ]);
    }

or_false : (b : Bool) → (b || false) ≡ b
or_false true = refl
or_false false = refl

module _ (it : Table) (at : ℕ) (places : List ℕ) (first : Value) (columns params : Row) (terms project : List Term)
  where
    abbrev source : Row
    source = first ∷ columns

    -- the clause that updates the row that is there
    abbrev update : Program
    update = record { lets = []; body = whole_query it.tree terms project [] }

    -- what the clause reads: the parameters, the rowid of the row that is there, and the row that would go in
    abbrev read : ℤ → ℤ → Row
    read id z = params ++ Int id ∷ shown (as_plain it) (Int z ∷ columns)

    -- what the statement is, of a table of the office
    pub record IsUpsert : Type 0 where
      pub stands : slice_get office_schema.tables at ≡ Some (as_plain it)
      pub stored : (db : Trees) → overlay db [] it.tree ≡ db it.tree
      -- the columns are written as they are
      pub fits : cast Integer first ≡ first
      pub casts : (id : Value) → cast Integer id ≡ id → cast_row (as_plain it) (id ∷ columns) ≡ id ∷ columns
      -- the rowid that a new row gets
      pub numbered : (rows : List Row) → (z : ℤ) × (with_rowid Chosen rows source ≡ Int z ∷ columns)
          × IsNamed places first columns (Int z)
      -- the rows that have the key are those that the new row meets, and no two have one key
      pub meets : (new r : Row) → conflicts (Some places) office_schema.indexes (as_plain it) new r
          ≡ (agree plain places r places new || false)
      pub one : (db : Trees) → Keeps Unique office_schema db → HasRowids (db it.tree) → (r s : Row)
          → Has (db it.tree) r → Has (db it.tree) s → agree plain places r places s ≡ true → r ≡ s
      -- the clause finds the row by its rowid, and writes the columns over it
      pub tested : (id z : ℤ) (r : Row) → list_all (holds (read id z ∷ r ∷ [])) terms ≡ equals (rowid r) (Int id)
      pub written : (id z : ℤ) (r : Row) → eval_all project (read id z ∷ r ∷ []) ≡ rowid r ∷ rowid r ∷ columns
      pub stays : (id : ℤ) (r : Row) → rowid r ≡ Int id → has_key places first columns r ≡ true
          → IsNamed places first columns (Int id)

    module _ (u : IsUpsert) where
      -- an edit that takes out only rows of the key, and puts in the row and no other
      module _ (keys : Keys) (db next : Trees) (shaped : HasRowids (db it.tree)) (gone : List ℤ) (from : ℕ)
          (sources : List Row)
          (applied : Applies office_schema keys db (edit_of db (as_plain it) gone Given from sources) next) (id : ℤ)
          (named : IsNamed places first columns (Int id))
          (all : (x : Row) → Has sources x → drop from x ≡ Int id ∷ columns) (some : (x : Row) × Has sources x)
          (apart : (i : ℤ) (x : Row) → Has gone i → Has (db it.tree) x → has_rowid i x ≡ true
          → has_key places first columns x ≡ true) where
        abbrev row : Row
        row = Int id ∷ columns

        abbrev left : List Row
        left = without_all (db it.tree) gone

        abbrev news : List Row
        news = (edit_of db (as_plain it) gone Given from sources).news

        abbrev casted : Row → Row
        casted s = cast_row (as_plain it) (drop from s)

        is_row : (x : Row) → Has sources x → casted x ≡ row
        is_row x h = ap (cast_row (as_plain it)) (all x h) ∙ u.casts (Int id) (cast_int id)

        new_is : (x : Row) → Has news x → x ≡ row
        new_is x h =
            let y = has_mapped casted sources x (subst (λ l. Has l x) (given left (map casted sources)) h) in
            y.2 ∙ is_row y.0 y.1

        has_new : Has news row
        has_new = subst (λ l. Has l row) (sym (given left (map casted sources)))
            (subst (Has (map casted sources)) (is_row some.0 some.1) (mapped_has casted sources some.0 some.1))

        there : Has (next it.tree) row
        there = subst (λ l. Has l row) (sym applied.rows) (put_all_adds news left row applied.fresh has_new)

        rowids : HasRowids (next it.tree)
        rowids = shaped_after office_schema keys (as_plain it) db next gone Given from sources shaped applied

        others : (x : Row) → Has (next it.tree) x → (x ≡ row)
            ⊎ (Has (db it.tree) x × (has_key places first columns x ≡ false))
        others x h = elim (cases_Bool (has_key places first columns x)) [
          | inl hit ↦ inl (u.one next (applied.fits.rules Unique (λ e. absurd cc)) rowids x row h there
              (agree_by places x row source named ∙ hit))
          | inr miss ↦ elim (put_all_has news left x (subst (λ l. Has l x) applied.rows h)) [
            | inl fresh ↦ inl (new_is x fresh)
            | inr was ↦ inr ((left_has gone (db it.tree) x was).0, miss)
          ]
        ]

        kept : (x : Row) → Has (db it.tree) x → has_key places first columns x ≡ false → Has (next it.tree) x
        kept x h miss = subst (λ l. Has l x) (sym applied.rows) (put_all_keeps news left x applied.fresh
            (has_left gone (db it.tree) x h (λ i among. false_from_ne_true _ (λ hit.
            both_ways _ miss (apart i x among h hit)))))

        put_by : IsPutOver places first columns it.tree db (record { schema = office_schema; trees = next })
        put_by = record {
          schema = refl;
          rows = record { id = Int id; named = named; there = there; others = others; kept = kept };
          rowids = rowids;
          others = others_same it.tree db next next (λ tree. refl) applied.tables;
        }

      abbrev IsPut : Option ℕ → Trees → Trees → Row → Type 0
      IsPut limit db next new = writing.IsPut limit Enforced office_schema it params places update new db next

      has_key_by : (z : ℤ) (r : Row) → IsNamed places first columns (Int z)
          → conflicts (Some places) office_schema.indexes (as_plain it) (Int z ∷ columns) r ≡ true
          → has_key places first columns r ≡ true
      has_key_by z r named hit = sym (agree_by places r (Int z ∷ columns) source named) ∙ sym (or_false _)
          ∙ sym (u.meets (Int z ∷ columns) r) ∙ hit

      -- no row has the key, or the first that has it is updated
      put_either : (limit : Option ℕ) (db next : Trees) (z : ℤ) → IsNamed places first columns (Int z)
          → HasRowids (db it.tree) → IsPut limit db next (Int z ∷ columns)
          → IsPutOver places first columns it.tree db (record { schema = office_schema; trees = next })
      unfolding HasRowids
      put_either limit db next z named shaped (writing.added none applied) =
          put_by Enforced db next shaped [] 0 ((Int z ∷ columns) ∷ []) applied z named
          (λ x h. elim h [ inl same ↦ ap (drop 0) same | inr none ↦ absurd none ]) (Int z ∷ columns, inl refl)
          (λ i x none. absurd none)
      put_either limit db next z named shaped (writing.updated there more conflicts rows answers edited) =
          let r = conflicts.sound there (inl refl) in
          let id = id_in (rowid r.0) in
          let has_id : rowid r.0 ≡ Int id = int_is (rowid r.0) (shaped.0 r.0 r.1) in
          let hit = has_key_by z r.0 named r.2 in
          let base : Database = record { schema = office_schema; trees = db } in
          let asked = subst (λ i. Answers base update (params ++ i ∷ shown (as_plain it) (Int z ∷ columns)) rows)
          (ap rowid r.3 ∙ has_id) answers in
          let found = members it.tree terms project [] (overlay db []) (read id z) rows (asked.answer Null) in
          let in_table : (x : Row) → Has (overlay db [] it.tree) x → Has (db it.tree) x =
          λ x h. subst (λ l. Has l x) (u.stored db) h in
          let is : (x : Row) → Has rows x → x ≡ Int id ∷ Int id ∷ columns = λ x h.
          let y = found.sound x h in
          let same : rowid y.0 ≡ Int id = same_int (rowid y.0) (Int id) (shaped.0 y.0 (in_table y.0 y.1)) refl
          (sym (u.tested id z y.0) ∙ y.2) in
          y.3 ∙ u.written id z y.0 ∙ ap (λ (v : Value). v ∷ v ∷ columns) same in
          let passes = u.tested id z r.0 ∙ ap (λ v. equals v (Int id)) has_id
          ∙ ap is_eq (tied_itself value_cmp_total (Int id)) in
          let listed = found.complete r.0 (subst (λ l. Has l r.0) (sym (u.stored db)) r.1) passes in
          let edit = edit_of db (as_plain it) (ids_of rows) Given 1 rows in
          let applied = one_step office_schema Enforced db next edit (no_work it.tree _ edit.news) edited in
          put_by Enforced db next shaped (ids_of rows) 1 rows applied id (u.stays id r.0 has_id hit)
          (λ x h. ap (drop 1) (is x h)) (_, listed)
          (λ i x among h tied.
          let w = has_mapped (λ (y : Row). id_in (rowid y)) rows i among in
          let same : i ≡ id = w.2 ∙ ap (λ (y : Row). id_in (rowid y)) (is w.0 w.1) in
          ap (has_key places first columns) (same_rowid (db it.tree) shaped x r.0 i h r.1 (has_id ∙ ap Int (sym same))
          tied) ∙ hit)

      put_done : (from : Source) (limit : Option ℕ) (s : State) (db : Trees) (tally : Tally) (after : Database)
          → GivesOne it params from source → HasRowids (db it.tree)
          → OnRows (task_on it at u.stands limit s params) (mode_of s) None (InsertOr at Abort from (record {
            target = Some places;
            update = Some update;
          } ∷ [])) db (Ok (tally, after))
          → IsPutOver places first columns it.tree db after
      put_done from limit s db tally after one shaped does =
          let done = went does in
          let now = ap (λ (p : Tally × Database). p.1) (same_value (went (went done.2).2).2) in
          let new = u.numbered (db it.tree) in
          let put = writing.put_one limit Enforced office_schema it params places update from source db done.0
          (one limit db) done.1 in
          let made = subst (IsPut limit db done.0.trees)
          (ap (with_rowid Chosen (db it.tree)) (u.casts first u.fits) ∙ new.1) put.0 in
          subst (IsPutOver places first columns it.tree db) (sym now)
          (put_either limit db done.0.trees new.0 new.2 shaped made)

      -- the statement of a text, over a database with these tables
      pub puts_over : (text : List ℕ) (from : Source) → Makes text (InsertOr at Abort from (record {
        target = Some places;
        update = Some update;
      } ∷ []))
          → GivesOne it params from source → IsChange text params (λ db after. HasRowids (db it.tree)
          → IsPutOver places first columns it.tree db after)
      puts_over text from is one =
          let command = InsertOr at Abort from (record { target = Some places; update = Some update } ∷ []) in
          is_change text command is params (λ o n t c w. w)
          (λ e. elim e [ inl commit ↦ absurd cc | inr release ↦ absurd (let f = release.1 in cc) ])
          (λ db after. HasRowids (db it.tree) → IsPutOver places first columns it.tree db after)
          (λ limit s db tally after does shaped. put_done from limit s db tally after one shaped
          (on_table it at u.stands limit s params db command (tally, after) does))
