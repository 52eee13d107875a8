-- Files that are opened again as they were closed.
use Rattle.std.proofs.Common.{◌∙◌, sym, ap, arith}
use Rattle.sqlite.specs.Files.{over_files}
use Rattle.sqlite.proofs.Callers.{finds_again}
use Rattle.sqlite_disk.specs.declared.Disk.{Ghosts}
use Rattle.cpi_sql_open.specs.Left.{TakesAsItIs}
use Rattle.cpi_sql_rows.specs.Lists.{office_in}
use Rattle.cpi_files.specs.Reopened.{ClosedIsOpened}

pub closed_is_opened : {D : Type 0} (g : Ghosts D) → TakesAsItIs (over_files {g = g}) → ClosedIsOpened g
closed_is_opened g takes last was files again tables settled closed shows opened clean =
    let before = opened.crash.clean in
    let shown = shows (omega (arith, before, clean.disk)) in
    let same = finds_again last was files closed.copied shown.1 ∙ ap (λ d. d.trees) (sym settled) in
    let taken = takes _ was again.held tables.office
    (record { opens = shown.0.0; live = shown.0.1; shows = same }) (opened.opened clean) in
    let rows = ap (λ d. d.trees) taken ∙ ap (λ d. d.trees) shown.0.0.clean ∙ same in
    (rows, ap office_in rows)
