use Rattle.std.proofs.Common.{arith, ap}
use Rattle.cpi_release.proofs.Late.{late}
use Rattle.cpi_store.specs.Holders.{Kept}
use Rattle.cpi_store.specs.Sources.{office_sources}
use Rattle.cpi_store.proofs.vec_book.VecBookGroups.rows.Goals as goal

pub returns-in-Ok : goal.returns-in-Ok
returns-in-Ok c = record {
  keeps = record {
    was_kept = λ x. x;
    was_clean = λ x. x;
    kept =
        λ _. ap (λ (k : Kept). k.office) c.in-Ok.ensures.same;
    crash = λ _ _ _ x. x;
  };
  stays = λ _ _. tt;
  count = omega (arith, ap (λ (k : Kept). k.failures) c.in-Ok.ensures.same);
  shown = λ _. λ fit _ after. c.in-Ok.ensures.shown fit
      (late (office_sources c.args.self.now.office) c.args.month fit.0 after);
  fault = tt;
}
