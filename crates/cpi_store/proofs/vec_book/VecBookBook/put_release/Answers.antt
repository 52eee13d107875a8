use Rattle.std.proofs.Common.{◌≡◌, ap, arith}
use Rattle.cpi_release.specs.FrozenMonths.{release_cmp, release_key}
use Rattle.cpi_rows.specs.Keyed.{with_row}
use Rattle.cpi_store.specs.Office.{with_releases}
use Rattle.cpi_store.proofs.vec_book.VecBookBook.put_release.Goals as goal

pub returns-in-Ok : goal.returns-in-Ok
returns-in-Ok c =
    let i = c.self.inside in
    let after : c.put_row.new.rows.items ≡ with_row release_cmp release_key c.args.release i.releases.items =
    rw c.in-Ok.is at c.put_row.ensures.ok in
    rw (← c.self.view_is)
    (record {
      writes = record {
        was_kept = λ k. tt;
        was_clean = λ k. tt;
        stays = λ _ _. tt;
        done = λ k. ap (λ rs. with_releases rs i.survey) after;
        kept = λ k. tt;
        count = omega arith;
        fault = tt;
        crash = λ _ _ _ left. absurd left;
        answered = λ _ _ left. absurd left;
      };
    })
