use Rattle.std.proofs.Common.{ap, arith}
use Rattle.cpi_store.specs.Holders.{Kept}
use Rattle.cpi_store.proofs.vec_book.VecBookBook.month_rows.Goals as goal

pub returns-in-Ok : goal.returns-in-Ok
returns-in-Ok c =
    let same = c.in-Ok.ensures.same in
    record {
      reads = record {
        keeps = record {
          was_kept = λ k. tt;
          was_clean = λ k. tt;
          kept = λ k. ap (λ (k : Kept). k.office) same;
          crash = λ _ _ _ x. x;
        };
        stays = λ _ _. tt;
        shown = λ k whole. c.in-Ok.ensures.shown whole;
        count = omega (arith, ap (λ (k : Kept). k.failures) same);
        fault = tt;
      };
    }
