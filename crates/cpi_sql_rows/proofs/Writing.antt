-- What a write of one row comes down to, for any table with no AUTOINCREMENT.
use Rattle.std.proofs.Common.{◌≡◌, ◌⊎◌, inl, inr, ℕ, ℤ, List, [], ◌∷◌, ◌++◌, Bool, true, false, cond, Some}
use Rattle.std.proofs.Common.{None, Option, Ok, Err, Result, refl, sym, ap, subst, ◌∙◌}
use Rattle.sqlite.specs.declared.types.Value.{Value}
use Rattle.sqlite.specs.declared.types.Value.TheVariants.{Null, Int}
use Rattle.sqlite.specs.Order.{Row}
use Rattle.sqlite.specs.Ops.{unary}
use Rattle.sqlite.specs.Tree.{Trees, rowid}
use Rattle.sqlite.specs.Edit.{edit_of, with_rowid, Applies}
use Rattle.sqlite.specs.Cast.{cast, cast_row}
use Rattle.sqlite.specs.Kind.TheVariants.{Integer}
use Rattle.sqlite.specs.Rowids.TheVariants.{Chosen, Given}
use Rattle.sqlite.specs.Source.{Source}
use Rattle.sqlite.specs.Table.{Table}
use Rattle.sqlite.specs.Schema.{Schema}
use Rattle.sqlite_schema.specs.declared.schema.Keys.{Keys}
use Rattle.cpi_sql_rows.specs.Tables.{plain_table}
use Rattle.sqlite_schema.specs.declared.command.Conflict.TheVariants.{Abort}
use Rattle.sqlite_schema.specs.declared.command.Upsert.{Upsert}
use Rattle.sqlite_schema.specs.declared.program.Program.{Program}
use Rattle.sqlite.specs.Rows.{Task, Written, Sourced, stamped, Inserts, InsertsOr, Upserts, Tries}
use Rattle.sqlite.specs.Rows.{Judged, Outcome, Puts, Clears, Meets, Edited, shown}
use Rattle.sqlite.specs.Effect.{Database, Answers, edit_error}
use Rattle.sqlite_rules.specs.declared.error.Refusal.{Refusal}
use Rattle.sqlite_rules.specs.Keys.{AreConflicts}
use Rattle.sqlite_rules.specs.Steps.{IsJudged}
use Rattle.sqlite_rules.specs.Calls.{ids_of}
use Rattle.sqlite_rules.proofs.ActionLemmas.{no_works}
use Rattle.sqlite.proofs.Callers.{one_step}

pub same_value : {B E : Type 0} {a b : B} → ◌≡◌ {A = Result B E} (Ok a) (Ok b) → a ≡ b
same_value e = cc

-- a part that gave a value did not stop on the way
pub went : {B E R : Type 0} {b : B} {Stops : E → Type 0} → ((stop : E) × Stops stop × (Ok b ≡ Err stop)) ⊎ R → R
went (inl stopped) = absurd (let e = stopped.2 in cc)
went (inr on) = on

both_are_one : (b : Bool) (x : Value) → cond b x x ≡ x
both_are_one true x = refl
both_are_one false x = refl

pub cast_int : (n : ℤ) → cast Integer (Int n) ≡ Int n
unfolding unary
cast_int n = both_are_one _ (Int n)

pub cast_null : cast Integer Null ≡ Null
unfolding unary
cast_null = both_are_one _ Null

-- the table with its columns, keys and foreign keys, and nothing else
abbrev pub as_plain : Table → Table
as_plain it = plain_table it.name it.tree it.columns it.key it.primary it.uniques it.orders it.references

module _ (limit : Option ℕ) (keys : Keys) (schema : Schema) (it : Table) (params : Row) where
  abbrev pub table : Table
  table = as_plain it

  abbrev pub task : Task
  task = record { limit = limit; keys = keys; schema = schema; table = table; params = params }

  abbrev pub base : Trees → Database
  base db = record { schema = schema; trees = db }

  abbrev pub new_row : Trees → Row → Row
  new_row db source = with_rowid Chosen (db it.tree) (cast_row table source)

  judged : (clauses : List Upsert) (new : Row) (db : Trees) (one : Written) (verdict : Option Refusal)
      → IsJudged table new verdict → Judged task Abort clauses new db verdict (Ok one)
      → Upserts task Abort new db clauses (Ok one) × IsJudged table new None
  judged clauses new db one None is h = (h, is)
  judged clauses new db one (Some why) is h =
      absurd (let e : ◌≡◌ {A = Outcome Written} (Ok one) (Err (Some (edit_error why))) = h in cc)

  accepted : (clauses : List Upsert) (new : Row) (db : Trees) (one : Written)
      → Tries task Abort clauses new db (Ok one) → Upserts task Abort new db clauses (Ok one) × IsJudged table new None
  accepted clauses new db one (inl bad) = absurd (let e = bad.1 in cc)
  accepted clauses new db one (inr h) = judged clauses new db one h.0 h.1 h.2

  -- the one row is judged, and then put by the clauses
  pub one_row : (clauses : List Upsert) (from : Source) (source : Row) (db : Trees) (w : Written)
      → ((rows : List Row) → Sourced limit (base db) (stamped table params) from (Ok rows) → rows ≡ source ∷ [])
      → InsertsOr task Abort clauses from db (Ok w)
      → (one : Written) × Upserts task Abort (new_row db source) db clauses (Ok one) × (w.trees ≡ one.trees)
      × IsJudged table (new_row db source) None
  one_row clauses from source db w one h =
      let sourced = went h in
      let is = one sourced.0 sourced.1 in
      let counted = went (rw is at sourced.2) in
      let each = went counted.2 in
      let tried = went each.1 in
      let kept = went each.2 in
      let good = accepted clauses (new_row db source) db tried.0 tried.1 in
      let trees : w.trees ≡ tried.0.trees = ap (λ (it : Written). it.trees) (same_value kept.2) ∙ same_value kept.1
      ∙ ap (λ (it : Written × ℤ). it.0.trees) (same_value tried.2) in
      (tried.0, good.0, trees, good.1)

  -- a row that goes in with no other taken out
  pub put_alone : (new : Row) (db : Trees) (one : Written) → Puts task new db (Ok one)
      → Applies schema keys db (edit_of db table [] Given 0 (new ∷ [])) one.trees
  put_alone new db one h =
      let edit = edit_of db table [] Given 0 (new ∷ []) in
      let made = went h in
      let applied = one_step schema keys db made.0 edit (no_works schema keys 0 it.tree edit.news) made.1 in
      subst (Applies schema keys db edit) (sym (ap (λ (it : Written). it.trees) (same_value made.2))) applied

  cleared : (new : Row) (db : Trees) (one : Written) (found : List Row) → Clears task Abort new db found (Ok one)
      → Applies schema keys db (edit_of db table [] Given 0 (new ∷ [])) one.trees
  cleared new db one [] h = put_alone new db one h
  cleared new db one (x ∷ more) h = put_alone new db one h

  -- The row has the key of no other, and goes in; or the clause updates the first that has it.
  pub data IsPut (target : List ℕ) (q : Program) (new : Row) (db next : Trees) : Type 0 where
    added : AreConflicts (Some target) schema.indexes table (db it.tree) new []
        → Applies schema keys db (edit_of db table [] Given 0 (new ∷ [])) next → IsPut target q new db next
    updated : (there : Row) (more : List Row)
        → AreConflicts (Some target) schema.indexes table (db it.tree) new (there ∷ more)
        → (rows : List Row) → Answers (base db) q (params ++ rowid there ∷ shown table new) rows
        → Edited schema keys db (edit_of db table (ids_of rows) Given 1 rows) (Ok next) → IsPut target q new db next

  met : (target : List ℕ) (q : Program) (new : Row) (db : Trees) (one : Written) (found : List Row)
      → AreConflicts (Some target) schema.indexes table (db it.tree) new found
      → Meets task (Upserts task Abort new db []) new db (record {
        target = Some target;
        update = Some q;
      }) found (Ok one) → IsPut target q new db one.trees
  met target q new db one [] is h = added is (cleared new db one h.0 h.2)
  met target q new db one (there ∷ more) is h =
      let asked = went h in
      let made = went asked.2 in
      let trees = ap (λ (it : Written). it.trees) (same_value made.2) in
      updated there more is asked.0 asked.1 (subst
      (λ t. Edited schema keys db (edit_of db table (ids_of asked.0) Given 1 asked.0) (Ok t)) (sym trees) made.1)

  pub put_one : (target : List ℕ) (q : Program) (from : Source) (source : Row) (db : Trees) (w : Written)
      → ((rows : List Row) → Sourced limit (base db) (stamped table params) from (Ok rows) → rows ≡ source ∷ [])
      → InsertsOr task Abort (record { target = Some target; update = Some q } ∷ []) from db (Ok w)
      → IsPut target q (new_row db source) db w.trees × IsJudged table (new_row db source) None
  put_one target q from source db w one h =
      let it = one_row (record { target = Some target; update = Some q } ∷ []) from source db w one h in (
        subst (IsPut target q (new_row db source) db) (sym it.2)
            (met target q (new_row db source) db it.0 it.1.0 it.1.1 it.1.2),
        it.3,
      )

  -- an INSERT of these rows
  pub insert_rows : (from : Source) (sources : List Row) (db : Trees) (w : Written)
      → ((rows : List Row) → Sourced limit (base db) (stamped table params) from (Ok rows) → rows ≡ sources)
      → Inserts task from db (Ok w) → Applies schema keys db (edit_of db table [] Chosen 0 sources) w.trees
  insert_rows from sources db w gives h =
      let sourced = went h in
      let counted = went (rw (gives sourced.0 sourced.1) at sourced.2) in
      let edit = edit_of db table [] Chosen 0 sources in
      let made = went counted.2 in
      let applied = one_step schema keys db made.0 edit (no_works schema keys 0 it.tree edit.news) made.1 in
      let kept = went made.2 in
      let trees : w.trees ≡ made.0 = ap (λ (it : Written). it.trees) (same_value kept.2) ∙ same_value kept.1 in
      subst (Applies schema keys db edit) (sym trees) applied
