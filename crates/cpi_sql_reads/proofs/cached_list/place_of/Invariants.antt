use Rattle.std.proofs.Common.{◌≡◌, drop}
use Rattle.cpi_rows.specs.Keyed.{row_at}
use Rattle.cpi_release.specs.FrozenMonths.{release_cmp}
use Rattle.cpi_sql_reads.specs.ReleaseLists.{list_key}
use Rattle.cpi_sql_reads.proofs.cached_list.place_of.Given as goal

abbrev pub invariant-loop-i : goal.invariant-loop-i
invariant-loop-i g l =
    row_at release_cmp list_key (l.month, l.revision) (drop l.i l.lists)
    ≡ row_at release_cmp list_key (l.month, l.revision) l.lists
