use Rattle.std.proofs.Common.{arith, ◌≡◌, ap, ◌∙◌, refl}
use Rattle.cpi_release.proofs.Sound.{levels_ordered}
use Rattle.cpi_store.specs.Holders.{Kept}
use Rattle.cpi_store.proofs.vec_book.VecBookGroups.chained.Goals as goal

pub returns : goal.returns
returns c =
    let o = c.args.self.now.office in
    let same : c.deref.result.now ≡ o.releases = c.deref.ensures.value
    ∙ ap (λ (k : Kept). k.office.releases) c.self.view_is in
    let level = rw same at c.level_in.ensures in
    record {
      keeps = record { was_kept = λ x. x; was_clean = λ x. x; kept = λ _. refl; crash = λ _ _ _ x. x };
      stays = λ _ _. tt;
      count = omega arith;
      shown = λ _. λ fit. level (levels_ordered o.releases fit.0 c.args.month);
      fault = tt;
    }
