-- The rows of a table that is lent.
use Rattle.std.proofs.Common.{◌≡◌, ℕ, Bool, None, Option, Some, Result, Ok, Err, List, IsTrue, IsSome, refl, subst}
use Rattle.std.proofs.Common.{◌∙◌}
use Rattle.std.specs.Prelude.{OnOk}
use Rattle.std.specs.Result.{IsErr}
use Rattle.sqlite.specs.Effect.{Database}
use Rattle.sqlite.specs.Tree.{Trees}
use Rattle.cpi_rows.specs.Keyed.{row_at}
use Rattle.cpi_release.specs.FrozenMonths.{ReleaseKey, release_cmp}
use Rattle.cpi_release.specs.declared.level.Level.{Level}
use Rattle.cpi_release.specs.declared.release.Release.{Release}
use Rattle.cpi_sql_rows.specs.HeldTables.{level_table}
use Rattle.cpi_sql_rows.specs.Lists.{headers_in, level_in_row, release_number}
use Rattle.cpi_sql_rows.specs.Shelf.{AllStandOf}
use Rattle.cpi_sql_rows.specs.Tables.{table_of_levels_2}
use Rattle.cpi_sql_reads.specs.Headers.{is_header_there}
use Rattle.cpi_sql_reads.specs.ReleaseLists.{AreListsOf, ReleaseList, list_key}
use Rattle.cpi_sql_reads.proofs.HeaderLists.{cached_is}
use Rattle.cpi_sql.specs.Calls.{HeadersTaken, IsTableTaken}

-- the types take each row of a cached table
pub table_stands : (trees : Trees) (month revision : ℕ) (tables : List (ReleaseList Level))
    → AreListsOf level_table (λ (r : Release). r.levels) trees tables
    → IsSome (row_at release_cmp list_key (month, revision) tables)
    → AllStandOf level_in_row (release_number month revision) (trees table_of_levels_2.tree)
table_stands trees month revision tables cached some =
    cases (row_at release_cmp list_key (month, revision) tables) refl some
  where
    cases : (o : Option (ReleaseList Level)) → row_at release_cmp list_key (month, revision) tables ≡ o → IsSome o
        → AllStandOf level_in_row (release_number month revision) (trees table_of_levels_2.tree)
    cases None e some = absurd (let no = some in cc)
    cases (Some l) e some =
        let it = cached_is level_table (λ (r : Release). r.levels) trees tables month revision l cached e in
        subst (λ (k : ReleaseKey). AllStandOf level_in_row (release_number k.0 k.1) (trees table_of_levels_2.tree))
        it.1 it.0.stand

-- the types take it, if it is published, in the rows of before, which are the same
pub table_taken : (was now : Database) (month revision until : ℕ) (is : Bool) → now ≡ was
    → is ≡ is_header_there month revision until (headers_in (now.trees 26)) → HeadersTaken now.trees
    → (IsTrue is → AllStandOf level_in_row (release_number month revision) (now.trees table_of_levels_2.tree))
    → IsTableTaken month revision until was.trees
table_taken was now month revision until is same told headers rows =
    subst (λ (d : Database). IsTableTaken month revision until d.trees) same
    (record { headers = headers; rows = λ there. rows (told ∙ there) })

-- a fault rests on nothing
pub rests_not : {T F C : Type 0} (P : Type 0) (r : Result T F) → IsErr r → C → OnOk r P
rests_not P (Ok x) is_err clean = absurd (let no = is_err in cc)
rests_not P (Err e) is_err clean = tt
