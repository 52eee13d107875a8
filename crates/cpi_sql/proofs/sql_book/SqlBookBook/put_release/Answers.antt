use Rattle.cpi_sql_reads.proofs.HeaderLists.{releases_ordered}
use Rattle.cpi_sql.proofs.Calls.{puts, put_fails, rows_kept, rows_put}
use Rattle.cpi_sql.proofs.Followed.{kept_sound, release_sound, tables_of}
use Rattle.cpi_sql.proofs.sql_book.SqlBookBook.put_release.Goals as goal

pub returns : goal.returns
returns g c =
    let new = rw (← c.self.view_is) at c.requires.new in
    rw (← c.self.view_is) (record {
      writes = puts _ _ _ _ _ c.put_release-put.ensures.written (tables_of _ _ c.self.invariant)
          (λ clean. new clean (releases_ordered _)) c.in_ok-stored.ensures.counted
          (λ disk _. c.put_release-put.ensures.open disk) c.in_ok-stored.ensures.settled;
      rows = rows_put _ _ _ _ _ c.put_release-put.ensures.written (tables_of _ _ c.self.invariant) (λ clean. new clean (releases_ordered _))
          c.in_ok-stored.ensures.counted;
    })

pub returns-in_err-stored : goal.returns-in_err-stored
returns-in_err-stored g c =
    let new = rw (← c.self.view_is) at c.requires.new in
    rw (← c.self.view_is) (record {
      writes = put_fails _ _ _ _ _ c.put_release-put.ensures.written (tables_of _ _ c.self.invariant)
          (λ clean. new clean (releases_ordered _)) _ c.from_residual.ensures.0 c.in_err-stored.ensures.counted;
      rows = rows_kept _ _ _ _ _ c.put_release-put.ensures.written (tables_of _ _ c.self.invariant) (λ clean. new clean (releases_ordered _)) _
          c.from_residual.ensures.0 c.in_err-stored.ensures.counted;
    })

pub invariant_of-self-2 : goal.invariant_of-self-2
invariant_of-self-2 g c =
    let new = rw (← c.self.view_is) at c.requires.new in
    rw c.in_ok-stored.ensures.cleared (release_sound _ _ _ _ c.put_release-put.ensures.written
    c.in_ok-stored.ensures.counted (λ clean. new clean (releases_ordered _)) c.put_release-put.ensures.stand
    c.self.invariant _ _ c.follow_release.ensures)

pub invariant_of-self : goal.invariant_of-self
invariant_of-self g c =
    rw c.in_err-stored.ensures.kept (kept_sound _ _ _ c.put_release-put.ensures.written c.in_err-stored.ensures.counted
    c.self.invariant)
