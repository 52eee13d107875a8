-- A transaction that makes a change of the office: what its end, or a crash, leaves.
use Rattle.std.proofs.Common.{◌≡◌, false, arith, refl, sym, subst}
use Rattle.sqlite.specs.Effect.{Database}
use Rattle.sqlite.specs.Tree.{Trees}
use Rattle.sqlite.specs.State.{State, HasCleanDisk, Survives}
use Rattle.sqlite.proofs.StateLemmas.{survives_then}
use Rattle.cpi_store.specs.Office.{Change, Office}
use Rattle.cpi_sql_rows.specs.Lists.{office_in}
use Rattle.cpi_sql_rows.specs.Shelf.{HasTables, IsChangedBy}
use Rattle.cpi_sql_rows.specs.Steps.{outside}
use Rattle.cpi_sql_rows.proofs.Kept.{kept_tables}
use Rattle.cpi_sql_writes.specs.Rest.{KeepsRest, LeavesOnly, MakesOnly}
use Rattle.cpi_sql_writes.specs.Within.{ChangesOffice, LeavesTables}

tables_begun : (a b : State) → b.now ≡ a.now → HasTables a → HasTables (outside b)
tables_begun a b same has = kept_tables a (outside b) (record { now = same; alone = refl }) has

module _ (Fits : Office → Type 0) (a begun b c : State) (start : begun.now ≡ a.now) (same : c.now ≡ b.now)
    (has : HasTables a) (fits : Fits (office_in a.now.trees)) where
  fits_begun : Fits (office_in begun.now.trees)
  fits_begun = subst (λ (d : Database). Fits (office_in d.trees)) (sym start) fits

  -- what is committed of it
  pub change_done : (change : Change) → (Fits (office_in begun.now.trees) → ChangesOffice change begun b)
      → c.in_transaction ≡ false → MakesOnly change a c
  change_done change done alone =
      let put = done fits_begun (tables_begun a begun start has) in
      record {
        done = record {
          tables = kept_tables (outside b) c (record { now = same; alone = alone }) put.done.tables;
          made = subst (λ (d : Database). IsChangedBy change d.trees c.now.trees) start
              (subst (λ (d : Database). IsChangedBy change begun.now.trees d.trees) (sym same) put.done.made);
        };
        rest = subst (λ (d : Database). KeepsRest change d.trees c.now.trees) start
            (subst (λ (d : Database). KeepsRest change begun.now.trees d.trees) (sym same) put.rest);
      }

  -- and of what else it leaves
  pub left_done : (Left : Trees → Type 0) → (Fits (office_in begun.now.trees) → LeavesTables Left begun b)
      → Left c.now.trees
  left_done Left leaves = subst (λ (d : Database). Left d.trees) (sym same)
      (leaves fits_begun (tables_begun a begun start has))

-- what a crash may leave of it
pub change_survives : (change : Change) (Fits : Office → Type 0) (a begun b c : State) → begun.now ≡ a.now
    → Survives a b (λ _. ⊥)
    → (HasCleanDisk b → Fits (office_in begun.now.trees) → ChangesOffice change begun b)
    → Survives b c (λ db. db ≡ b.now.trees)
    → Survives a c (λ db. HasTables a → Fits (office_in a.now.trees) → LeavesOnly change a.now.trees db)
change_survives change Fits a begun b c start one done two =
    survives_then a b c _ _ _ (λ _ db no. absurd no)
    (λ clean db is has fits.
    let disk : HasCleanDisk b = omega (arith, two.clean) in
    let begins = λ (d : Database). Fits (office_in d.trees) in
    let put = done disk (subst begins (sym start) fits) (tables_begun a begun start has) in
    subst (LeavesOnly change a.now.trees) (sym is) (record {
      office = put.done.tables.office;
      made = subst (λ (d : Database). IsChangedBy change d.trees b.now.trees) start put.done.made;
      rest = subst (λ (d : Database). KeepsRest change d.trees b.now.trees) start put.rest;
    })) one two
