-- A statement of a known text that is a transaction of its own, as a change of the office.
use Rattle.std.proofs.Common.{◌≡◌, List, ℕ, Result, false, sym, subst, ◌∙◌}
use Rattle.sqlite.specs.Order.{Row}
use Rattle.sqlite.specs.Tree.{Trees}
use Rattle.sqlite.specs.Effect.{Database, IsDatabase}
use Rattle.sqlite.specs.State.{State}
use Rattle.sqlite.proofs.StateLemmas.{survives_weaker}
use Rattle.cpi_store.specs.Office.{Change, Office}
use Rattle.cpi_sql_rows.proofs.FoundTables.{on_ok_implies}
use Rattle.cpi_sql_rows.specs.Lists.{office_in}
use Rattle.cpi_sql_rows.specs.Shelf.{HasTables}
use Rattle.cpi_sql_rows.proofs.Change.{IsChange}
use Rattle.cpi_sql_writes.specs.Rest.{LeavesOnly, MakesOnly}
use Rattle.cpi_sql_writes.specs.Within.{RunsAlone}
use Rattle.cpi_sql_writes.specs.Written.{Written}

module _ (text : List ℕ) (params : Row) (Made : Trees → Database → Type 0) (makes : IsChange text params Made)
    (change : Change) (fits : Office → Type 0)
    (done : (old new : State) → HasTables old → fits (office_in old.now.trees) → Made old.now.trees new.now
    → new.in_transaction ≡ false → IsDatabase new.now → MakesOnly change old new) where
  pub alone_written : {A E : Type 0} (old new : State) (result : Result A E) → RunsAlone text params old new result
      → Written change fits old new result
  alone_written old new result runs = record {
    clean = runs.clean;
    done = λ clean has fit. on_ok_implies result _ _ (runs.ran clean.disk) (λ it.
        let made = makes.ran old new it.0 has.schema it.1 in
        done old new has fit made.0 (made.1 ∙ has.alone) made.2);
    kept = λ clean has. runs.kept clean has.alone;
    crash = survives_weaker old new _ _ (λ _ db may has fit.
        let it = makes.commits old db has.schema may in
        let after = done old (record old { now = it.0 }) has fit it.1 has.alone it.3 in
        subst (LeavesOnly change old.now.trees) (sym it.2) (record {
          office = after.done.tables.office;
          made = after.done.made;
          rest = after.rest;
        })) runs.crash;
  }
